use Rattle.std.proofs.Common.{◌∙◌, ℕ, suc, List, ap, sym}
use Rattle.ir_tree.specs.Layout.{kind_of}
use Rattle.tree_types.proofs.Named.{named_there, none_there}
use Rattle.tree_types.proofs.rooms.room_of_definition.Goals as goal

pub returns-in-Some : goal.returns-in-Some
returns-in-Some c = λ n a.
    named_there c.room_of_type.result n c.args.types.now c.args.definition.now.name.text c.in-Some.kind.now (ap (λ (t : List ℕ). kind_of c.args.types.now t) (sym c.as_slice.ensures) ∙ sym c.in-Some.ensures) (c.room_of_type.ensures n a)

pub returns-in-None : goal.returns-in-None
returns-in-None c = λ n a. none_there (suc n) c.args.types.now c.args.definition.now.name.text (ap (λ (t : List ℕ). kind_of c.args.types.now t) (sym c.as_slice.ensures) ∙ sym c.in-None.ensures)
