use Rattle.std.proofs.Common.{◌≡◌, ◌∙◌, ℕ, ◌+◌, List, [], ◌∷◌, ◌++◌, length, map, ap}
use Rattle.std.proofs.lemmas.Result.{IfOk-weaker}
use Rattle.ir_programs.specs.Flow.{behind}
use Rattle.ir_programs.specs.Parts.{case_label}
use Rattle.tree_nodes.specs.Edges.{edges_to}
use Rattle.tree_nodes.proofs.EdgeCounts.{behind_all}
use Rattle.tree_nodes.proofs.terminators.behind_switch.Goals as goal

pub returns : goal.returns
returns c =
    let f = c.args.function.now in
    let cases = c.args.cases.now in
    let default = c.args.default.now in
    IfOk-weaker c.behind.result (λ n. n ≡ behind f c.in_ok-behind_cases.field-0 default)
    (λ n. (source : List ℕ) → n ≡ c.args.k + length (edges_to f source (map case_label cases ++ default ∷ [])))
    (λ n is source. is ∙ (ap (λ (k : ℕ). behind f k default) c.in_ok-behind_cases.ensures ∙ behind_all f source c.args.k cases default)) c.behind.ensures
