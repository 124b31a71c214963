-- Constants of globals, and the indices of constant pointers (Language Reference, "Global Variables", "Constants" and "Constant Expressions"): where one doesn't fit.
use Rattle.std.specs.Prelude.{ℕ, zero, suc, ◌-◌, ◌^◌, Bool, true, false, not, ◌&&◌, ◌==◌, nat_lt, nat_le, if◌then◌else◌, List, [], ◌∷◌, ◌++◌, map, length, Option, Some, None, slice_get}
use Rattle.std.specs.List.{flat_map, filter}
use Rattle.ir_tree.specs.Layout.{kind_of}
use Rattle.ir_tree.specs.declared.types.IrType.{IrType, out-IrType}
use Rattle.ir_tree.specs.declared.types.IrType.TheOpen.{IrType-F}
use Rattle.ir_tree.specs.declared.constants.Integer.{Integer}
use Rattle.ir_tree.specs.declared.constants.ConstIndex.{ConstIndex}
use Rattle.ir_tree.specs.declared.constants.GepLevel.{GepLevel}
use Rattle.ir_tree.specs.declared.constants.ConstGep.{ConstGep}
use Rattle.ir_tree.specs.declared.constants.Value.{Value}
use Rattle.ir_tree.specs.declared.constants.ValueForm.{ValueForm}
use Rattle.ir_tree.specs.declared.constants.ValueForm.TheVariants as forms
use Rattle.ir_tree.specs.declared.constants.Constant.{Constant, fold-Constant}
use Rattle.ir_tree.specs.declared.constants.Constant.TheOpen.{Constant-F}
use Rattle.ir_tree.specs.declared.module.TypeDefinition.{TypeDefinition}
use Rattle.ir_programs.specs.Types.{is_one_type}

-- ---- types, one level at a time

-- what a type is once its name is replaced, so many times over
abbrev pub behind_name : (IrType → IrType-F IrType) → IrType-F IrType → Option IrType → IrType-F IrType
behind_name head level (Some kind) = head kind
behind_name head level None = level

abbrev pub behind_level : (IrType → IrType-F IrType) → List TypeDefinition → IrType-F IrType → IrType-F IrType
behind_level head defined (IrType-F.Named name at) = behind_name head (IrType-F.Named name at) (kind_of defined name)
behind_level head defined level = level

unfoldable pub head_within : ℕ → List TypeDefinition → IrType → IrType-F IrType
head_within zero defined t = out-IrType t
head_within (suc n) defined t = behind_level (head_within n defined) defined (out-IrType t)

abbrev pub head_of : List TypeDefinition → IrType → IrType-F IrType
head_of defined t = head_within (length defined) defined t

-- ---- numbers

-- an integer has so many bits, with or without a sign
abbrev pub fits_width : ℕ → Integer → Bool
fits_width width n = if n.negative then nat_le n.magnitude (2 ^ (width - 1)) else nat_lt n.magnitude (2 ^ width)

-- ---- steps of constant pointers

-- the field that an index names
abbrev pub field_of : List IrType → Integer → Option IrType
field_of fields n = if n.negative then None else slice_get fields n.magnitude

-- what an index steps into
abbrev pub step_into : IrType-F IrType → Integer → Option IrType
step_into (IrType-F.Array at len element) n = Some element
step_into (IrType-F.Struct at fields packed) n = field_of fields n
step_into _ n = None

-- the places of the indices that step into no part; nothing is said of those behind such an index
abbrev pub bad_steps : List TypeDefinition → IrType → List ConstIndex → List ℕ
bad_steps defined t [] = []
bad_steps defined t (i ∷ is) = elim (step_into (head_of defined t) i.value) [ None ↦ i.at ∷ [] | Some part ↦ bad_steps defined part is ]

-- the first index steps over whole values of the source's type
abbrev pub bad_after_first : List TypeDefinition → IrType → List ConstIndex → List ℕ
bad_after_first defined source [] = []
bad_after_first defined source (i ∷ is) = bad_steps defined source is

abbrev pub bad_level_steps : List TypeDefinition → GepLevel → List ℕ
bad_level_steps defined l = bad_after_first defined l.source l.indices

abbrev pub bad_gep_steps : List TypeDefinition → ConstGep → List ℕ
bad_gep_steps defined g = flat_map (bad_level_steps defined) g.levels

-- the places of the indices that don't fit their own widths
abbrev pub wide_indices : ConstGep → List ℕ
wide_indices g = flat_map (λ l. map (λ i. i.at) (filter (λ i. not (fits_width i.width i.value)) l.indices)) g.levels

abbrev pub wide_form_indices : ValueForm → List ℕ
wide_form_indices (forms.Gep g) = wide_indices g
wide_form_indices _ = []

abbrev pub wide_value_indices : Value → List ℕ
wide_value_indices v = wide_form_indices v.form

-- ---- constants

-- a value is one of the type: an integer that fits, null or a place for a pointer; what has no value of its own is one of every type. Memory holds no single bits.
abbrev pub is_value_of : IrType-F IrType → ValueForm → Bool
is_value_of (IrType-F.Int width) (forms.Int n) = fits_width width n
is_value_of IrType-F.Ptr forms.Null = true
is_value_of IrType-F.Ptr (forms.Global name) = true
is_value_of IrType-F.Ptr (forms.Gep g) = true
is_value_of level forms.Undef = true
is_value_of level forms.Poison = true
is_value_of level forms.ZeroInitializer = true
is_value_of level form = false

-- a string is an array of as many bytes
abbrev pub is_byte : IrType-F IrType → Bool
is_byte (IrType-F.Int width) = width == 8
is_byte _ = false

abbrev pub is_string_of : List TypeDefinition → IrType-F IrType → List ℕ → Bool
is_string_of defined (IrType-F.Array at len element) bytes = is_byte (head_of defined element) && (len == length bytes)
is_string_of defined _ bytes = false

-- a constant's type, and the places in it where something doesn't fit
pub record Judged : Type 0 where
  pub kind : IrType
  pub bad : List ℕ

abbrev pub are_all : List TypeDefinition → IrType → List Judged → Bool
are_all defined t [] = true
are_all defined t (c ∷ cs) = is_one_type defined t c.kind && are_all defined t cs

abbrev pub are_each : List TypeDefinition → List IrType → List Judged → Bool
are_each defined [] [] = true
are_each defined [] (c ∷ cs) = false
are_each defined (t ∷ ts) [] = false
are_each defined (t ∷ ts) (c ∷ cs) = is_one_type defined t c.kind && are_each defined ts cs

abbrev pub is_array_of : List TypeDefinition → IrType-F IrType → List Judged → Bool
is_array_of defined (IrType-F.Array at len element) cs = (len == length cs) && are_all defined element cs
is_array_of defined _ cs = false

abbrev pub same_bool : Bool → Bool → Bool
same_bool a b = if a then b else not b

abbrev pub is_struct_of : List TypeDefinition → IrType-F IrType → Bool → List Judged → Bool
is_struct_of defined (IrType-F.Struct at fields packed) own cs = same_bool packed own && are_each defined fields cs
is_struct_of defined _ own cs = false

-- the place, unless it is all right there
abbrev pub unless_fits : Bool → ℕ → List ℕ
unless_fits true at = []
unless_fits false at = at ∷ []

-- of constants within one another that don't fit the innermost are told
abbrev pub or_within : List ℕ → List ℕ → List ℕ
or_within own [] = own
or_within own (at ∷ ats) = at ∷ ats

abbrev pub bad_form_steps : List TypeDefinition → ValueForm → List ℕ
bad_form_steps defined (forms.Gep g) = bad_gep_steps defined g
bad_form_steps defined _ = []

-- a constant pointer of another type is told where it begins, and else its first step into no part
abbrev pub bad_value : List TypeDefinition → IrType-F IrType → Value → List ℕ
bad_value defined level v = unless_fits (is_value_of level v.form) v.at ++ bad_form_steps defined v.form

abbrev pub judged_level : List TypeDefinition → Constant-F Judged → Judged
judged_level defined (Constant-F.Value kind value) = record { kind = kind; bad = bad_value defined (head_of defined kind) value }
judged_level defined (Constant-F.Bytes kind at bytes) = record { kind = kind; bad = unless_fits (is_string_of defined (head_of defined kind) bytes) at }
judged_level defined (Constant-F.Array kind at elements) =
    record { kind = kind; bad = or_within (unless_fits (is_array_of defined (head_of defined kind) elements) at) (flat_map (λ c. c.bad) elements) }
judged_level defined (Constant-F.Struct kind at fields packed) =
    record { kind = kind; bad = or_within (unless_fits (is_struct_of defined (head_of defined kind) packed fields) at) (flat_map (λ c. c.bad) fields) }

-- the places in a global's constant where a constant or a step doesn't fit
unfoldable pub bad_constants : List TypeDefinition → Constant → List ℕ
bad_constants defined c = (fold-Constant Judged (judged_level defined) c).bad
