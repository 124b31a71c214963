-- What stands in a tree that was read.
use Rattle.std.proofs.Common.{◌≡◌, ℕ, true, false, List, [], ◌∷◌, Some, refl, subst}
use Rattle.std.specs.Prelude.{if◌then◌else◌}
use Rattle.std.specs.List.{list_all}
use Rattle.phrases.proofs.Classes.{and_left, and_right}
use Rattle.ir_tree.specs.Texts.{same}
use Rattle.ir_tree.specs.declared.constants.Value.{Value}
use Rattle.ir_tree.specs.declared.instructions.Block.{Block}
use Rattle.ir_tree.specs.declared.instructions.Incoming.{Incoming}
use Rattle.ir_programs.specs.Flow.{phis_among, value_from}
use Rattle.ir_programs.specs.Locals.{label_of}
use Rattle.ir_programs.specs.Readable.{is_readable_block, is_readable_phi, is_readable_value}

pub phis_readable : (bs : List Block) (name : List ℕ) → list_all is_readable_block bs ≡ true → list_all is_readable_phi (phis_among name bs) ≡ true
phis_readable [] name h = refl
phis_readable (b ∷ bs) name h =
    elim (same (label_of b) name) as (λ s. list_all is_readable_phi (if s then b.phis else phis_among name bs) ≡ true)
    [ true ↦ and_left _ _ (and_left _ _ h) | false ↦ phis_readable bs name (and_right _ _ h) ]

pub value_readable : (name : List ℕ) (is : List Incoming) (v : Value) → list_all (λ (i : Incoming). is_readable_value i.value) is ≡ true → value_from name is ≡ Some v → is_readable_value v ≡ true
value_readable name [] v h = λ e. absurd cc
value_readable name (i ∷ is) v h =
    elim (same i.label.text name) as (λ s. (if s then Some i.value else value_from name is) ≡ Some v → is_readable_value v ≡ true)
    [ true ↦ λ e. let one : i.value ≡ v = cc in subst (λ (w : Value). is_readable_value w ≡ true) one (and_left _ _ h) | false ↦ λ e. value_readable name is v (and_right _ _ h) e ]
