-- What the code's extents say of those of the rules.
use Rattle.std.specs.Prelude.{◌≡◌, ℕ, Bool, zero, suc, ◌+◌, ◌≤◌, List, [], ◌∷◌, Option, Some, None, min}
use Rattle.layout.specs.Layout.{Extent, fields_end, greatest_align}
use Rattle.ir_tree.specs.declared.layouts.Room.{Room}
use Rattle.ir_tree.specs.declared.types.IrType.{IrType, fold-IrType}
use Rattle.ir_tree.specs.declared.types.IrType.TheOpen.{IrType-F}
use Rattle.ir_tree.specs.declared.module.TypeDefinition.{TypeDefinition}
use Rattle.ir_tree.specs.Layout.{most, kind_of}

-- the size up to the most, and the alignment
abbrev pub Agrees : Option Room → Option Extent → Type 0
Agrees None None = Unit {0}
Agrees None (Some e) = ⊥
Agrees (Some x) None = ⊥
Agrees (Some x) (Some e) = (x.size ≡ min most e.size) × (x.align ≡ e.align) × (1 ≤ e.align) × (e.align ≤ 8)

-- the place where fields end, up to the most, and the greatest of their alignments
abbrev pub EndsAs : Bool → Option Room → Option (List Extent) → Type 0
EndsAs packed None None = Unit {0}
EndsAs packed None (Some es) = ⊥
EndsAs packed (Some x) None = ⊥
EndsAs packed (Some x) (Some es) = (x.size ≡ min most (fields_end packed 0 es)) × (x.align ≡ greatest_align packed es) × (1 ≤ x.align) × (x.align ≤ 8)

-- how many types are looked at
abbrev pub sum : List ℕ → ℕ
sum [] = 0
sum (n ∷ ns) = n + sum ns

abbrev pub steps_level : (List ℕ → ℕ) → IrType-F ℕ → ℕ
steps_level named (IrType-F.Int width) = 1
steps_level named IrType-F.Ptr = 1
steps_level named (IrType-F.Array at len element) = suc element
steps_level named (IrType-F.Struct at fields packed) = suc (suc (suc (sum fields)))
steps_level named (IrType-F.Named name at) = suc (named name)

abbrev pub steps_of : (IrType → ℕ) → Option IrType → ℕ
steps_of steps (Some t) = suc (steps t)
steps_of steps None = 0

unfoldable pub name_steps : ℕ → List TypeDefinition → List ℕ → ℕ
name_steps zero types name = 0
name_steps (suc n) types name = steps_of (λ t. fold-IrType ℕ (steps_level (name_steps n types)) t) (kind_of types name)

abbrev pub steps_within : ℕ → List TypeDefinition → IrType → ℕ
steps_within n types t = fold-IrType ℕ (steps_level (name_steps n types)) t
