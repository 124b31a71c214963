use Rattle.std.proofs.Common.{◌≡◌, ◌∙◌, ℕ, ◌+◌, List, [], ◌∷◌, ◌++◌, length, map, sym, ap}
use Rattle.std.proofs.lemmas.Result.{IfOk-weaker}
use Rattle.ir_tree.specs.declared.instructions.Case.{Case}
use Rattle.ir_tree.specs.declared.instructions.TerminatorForm.{TerminatorForm}
use Rattle.ir_programs.specs.Flow.{block_edges}
use Rattle.ir_programs.specs.Locals.{label_of}
use Rattle.ir_programs.specs.Parts.{case_label, targets}
use Rattle.tree_nodes.specs.Edges.{edges_to}
use Rattle.tree_nodes.proofs.terminators.behind_block.Goals as goal

pub returns-in-Switch : goal.returns-in-Switch
returns-in-Switch c =
    let f = c.args.function.now in
    let b = c.args.block.now in
    let default = c.in-Switch.default in
    IfOk-weaker c.behind_switch.result
    (λ n. (source : List ℕ) → n ≡ c.args.k + length (edges_to f source (map case_label c.as_slice.result.now ++ default ∷ [])))
    (λ n. n ≡ c.args.k + length (block_edges f b))
    (λ n is. is (label_of b)
    ∙ (ap (λ (cs : List Case). c.args.k + length (edges_to f (label_of b) (map case_label cs ++ default ∷ []))) c.as_slice.ensures
    ∙ ap (λ (form : TerminatorForm). c.args.k + length (edges_to f (label_of b) (targets form))) (sym c.in-Switch.is)))
    c.behind_switch.ensures
