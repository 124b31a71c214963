use Rattle.std.proofs.Common.{◌≡◌, ◌∙◌, ◌++◌, ℕ, List, Bool, ap, sym}
use Rattle.std.specs.List.{flat_map}
use Rattle.std.proofs.lemmas.Result.{IfOk-weaker}
use Rattle.ir_tree.specs.declared.types.Name.{Name}
use Rattle.ir_programs.specs.Fits.{edge_fits}
use Rattle.ir_programs.specs.Flow.{edge_if, phis_of}
use Rattle.ir_programs.specs.Locals.{label_of}
use Rattle.ir_programs.specs.Parts.{targets}
use Rattle.tree_fits.specs.Leads.{edge_to, led_fits}
use Rattle.tree_fits.proofs.Pushing.{mapped_flat}
use Rattle.tree_fits.proofs.sets.push_block_edges.Goals as goal

pub returns : goal.returns
returns c =
    let t = c.args.place.now.tree.now in
    let f = c.args.place.now.function.now in
    let b = c.args.block.now in
    let to = targets b.terminator.form in
    IfOk-weaker c.push_terminator.result _ _
    (λ u e. e ∙ ap (λ (xs : List Bool). c.args.tests.now.items ++ xs)
    (ap (λ (l : List ℕ). flat_map (led_fits t f l) to) c.label_of.ensures ∙ sym (mapped_flat (edge_fits t f) (λ (n : Name). edge_if (phis_of f n.text) (edge_to (label_of b) n)) to)))
    c.push_terminator.ensures
