-- Places behind a pointer (Language Reference, "'getelementptr' Instruction" and "Constant Expressions"): an index is a signed number, the first one steps over whole values of
-- the source's type, and each other one into an element of an array or a field of a struct.
use Rattle.std.specs.Prelude.{ℕ, ◌+◌, ◌*◌, ◌%◌, ◌^◌, Bool, true, false, List, [], ◌∷◌, map, min, Option, Some, None, slice_get}
use Rattle.bitnum.specs.Bits.{sign_extended}
use Rattle.flat_ir.specs.declared.nodes.GepPart.{GepPart}
use Rattle.flat_ir.specs.declared.nodes.GepPart.TheVariants as part
use Rattle.flat_ir.specs.declared.nodes.Operand.{Operand}
use Rattle.layout.specs.Layout.{Extent, field_place}
use Rattle.ir_tree.specs.Layout.{extent, each, most}
use Rattle.ir_tree.specs.declared.types.IrType.{IrType}
use Rattle.ir_tree.specs.declared.types.IrType.TheOpen.{IrType-F}
use Rattle.ir_tree.specs.declared.constants.ConstIndex.{ConstIndex}
use Rattle.ir_tree.specs.declared.constants.GepLevel.{GepLevel}
use Rattle.ir_tree.specs.declared.constants.ConstGep.{ConstGep}
use Rattle.ir_tree.specs.declared.constants.Integer.{Integer}
use Rattle.ir_tree.specs.declared.constants.ValueForm.{ValueForm}
use Rattle.ir_tree.specs.declared.constants.ValueForm.TheVariants as forms
use Rattle.ir_tree.specs.declared.module.TypeDefinition.{TypeDefinition}
use Rattle.ir_programs.specs.Types.{size_of}
use Rattle.ir_programs.specs.Constants.{head_of, step_into}
use Rattle.ir_programs.specs.Causes.{bits_of}

abbrev pub place_or_zero : Bool → ℕ → Option (List Extent) → ℕ
place_or_zero packed k (Some es) = field_place packed 0 es k
place_or_zero packed k None = 0

-- where a field stands, told as far as sizes are
abbrev pub field_offset : List TypeDefinition → List IrType → Bool → ℕ → ℕ
field_offset defined fields packed k = min most (place_or_zero packed k (each (map (extent defined) fields)))

-- ---- constant pointers

-- an index in 64 bits
abbrev pub index_bits : ConstIndex → ℕ
index_bits i = sign_extended i.width 64 (bits_of i.width i.value)

-- how far one step goes
abbrev pub step_offset : List TypeDefinition → IrType-F IrType → ConstIndex → ℕ
step_offset defined (IrType-F.Array at len element) i = size_of defined element * index_bits i
step_offset defined (IrType-F.Struct at fields packed) i = field_offset defined fields packed i.value.magnitude
step_offset defined _ i = 0

abbrev pub steps_offset : List TypeDefinition → IrType → List ConstIndex → ℕ
steps_offset defined t [] = 0
steps_offset defined t (i ∷ is) =
    step_offset defined (head_of defined t) i + elim (step_into (head_of defined t) i.value) [ None ↦ 0 | Some inner ↦ steps_offset defined inner is ]

abbrev pub source_offset : List TypeDefinition → IrType → List ConstIndex → ℕ
source_offset defined source [] = 0
source_offset defined source (i ∷ is) = size_of defined source * index_bits i + steps_offset defined source is

abbrev pub level_offset : List TypeDefinition → GepLevel → ℕ
level_offset defined l = source_offset defined l.source l.indices

abbrev pub levels_offset : List TypeDefinition → List GepLevel → ℕ
levels_offset defined [] = 0
levels_offset defined (l ∷ ls) = level_offset defined l + levels_offset defined ls

-- the bytes of all levels, modulo 2 ^ 64
abbrev pub gep_offset : List TypeDefinition → ConstGep → ℕ
gep_offset defined g = levels_offset defined g.levels % 2 ^ 64

-- ---- pointers at run time

-- an index: what is written, and the operand that it is
pub record Step : Type 0 where
  pub form : ValueForm
  pub operand : Operand

-- the number that a constant index is
abbrev pub none_if_negative : Integer → Option ℕ
none_if_negative n = elim n.negative [ true ↦ None | false ↦ Some n.magnitude ]

abbrev pub constant_of : ValueForm → Option ℕ
constant_of (forms.Int n) = none_if_negative n
constant_of forms.True = Some 1
constant_of forms.False = Some 0
constant_of forms.Undef = Some 0
constant_of forms.Poison = Some 0
constant_of forms.ZeroInitializer = Some 0
constant_of _ = None

-- a part of a pointer, and the type that it leads into
pub record Part : Type 0 where
  pub part : GepPart
  pub inner : IrType

abbrev pub field_part : List TypeDefinition → List IrType → Bool → ℕ → Option IrType → Option Part
field_part defined fields packed k (Some inner) = Some (record { part = part.Field (field_offset defined fields packed k); inner = inner })
field_part defined fields packed k None = None

abbrev pub constant_field : List TypeDefinition → List IrType → Bool → Option ℕ → Option Part
constant_field defined fields packed (Some k) = field_part defined fields packed k (slice_get fields k)
constant_field defined fields packed None = None

-- an element of an array by any index, or a field of a struct by a constant one
abbrev pub part_of : List TypeDefinition → IrType-F IrType → Step → Option Part
part_of defined (IrType-F.Array at len element) s = Some (record { part = part.Index (size_of defined element) s.operand; inner = element })
part_of defined (IrType-F.Struct at fields packed) s = constant_field defined fields packed (constant_of s.form)
part_of defined _ s = None

-- the parts of a pointer, as far as its indices step into parts of the type
abbrev pub parts_within : List TypeDefinition → IrType → List Step → List GepPart
parts_within defined t [] = []
parts_within defined t (s ∷ ss) = elim (part_of defined (head_of defined t) s) [ None ↦ [] | Some p ↦ p.part ∷ parts_within defined p.inner ss ]

abbrev pub parts_of : List TypeDefinition → IrType → List Step → List GepPart
parts_of defined source [] = []
parts_of defined source (s ∷ ss) = part.Index (size_of defined source) s.operand ∷ parts_within defined source ss

-- each index behind the first steps into a part
abbrev pub steps_fit : List TypeDefinition → IrType → List Step → Bool
steps_fit defined t [] = true
steps_fit defined t (s ∷ ss) = elim (part_of defined (head_of defined t) s) [ None ↦ false | Some p ↦ steps_fit defined p.inner ss ]

abbrev pub all_steps_fit : List TypeDefinition → IrType → List Step → Bool
all_steps_fit defined source [] = true
all_steps_fit defined source (s ∷ ss) = steps_fit defined source ss
