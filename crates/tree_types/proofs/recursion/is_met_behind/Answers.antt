use Rattle.std.proofs.Common.{◌∙◌, ℕ, suc, List, ap, sym}
use Rattle.ir_tree.specs.Layout.{kind_of}
use Rattle.tree_types.proofs.Meeting.{behind_none}
use Rattle.tree_types.proofs.recursion.is_met_behind.Goals as goal

pub returns-in-None : goal.returns-in-None
returns-in-None c = λ n a. behind_none (suc n) c.args.types.now c.args.target.now c.args.definition.now.name.text (ap (λ (t : List ℕ). kind_of c.args.types.now t) (sym c.as_slice.ensures) ∙ sym c.in-None.ensures)
