-- Named types, and sizes (Language Reference, "Structure Type"): which names are used, which types hold themselves, which are one.
use Rattle.std.specs.Prelude.{ℕ, zero, suc, Bool, true, false, ◌||◌, nat_lt, List, [], ◌∷◌, length, Option, Some, None, min}
use Rattle.std.specs.List.{flat_map, filter}
use Rattle.layout.specs.Layout.{Extent}
use Rattle.ir_tree.specs.Layout.{kind_of, extent, most}
use Rattle.ir_tree.specs.Spelling.{type_tokens}
use Rattle.ir_tree.specs.declared.types.Name.{Name}
use Rattle.ir_tree.specs.declared.types.IrType.{IrType, fold-IrType, out-IrType}
use Rattle.ir_tree.specs.declared.types.IrType.TheOpen.{IrType-F}
use Rattle.ir_tree.specs.declared.types.IrType.TheVariants as types
use Rattle.ir_tree.specs.declared.module.TypeDefinition.{TypeDefinition}
use Rattle.ir_programs.specs.Texts.{among, same_all, texts}
use Rattle.ir_programs.specs.Parts.{types_in}

-- ---- names

abbrev pub name_level : IrType-F IrType → List Name
name_level (IrType-F.Named name at) = record { text = name; at = at } ∷ []
name_level _ = []

-- the names among types
abbrev pub type_names : List IrType → List Name
type_names ts = flat_map (λ t. name_level (out-IrType t)) ts

abbrev pub is_some_type : Option IrType → Bool
is_some_type (Some t) = true
is_some_type None = false

abbrev pub is_type : List TypeDefinition → Name → Bool
is_type defined name = is_some_type (kind_of defined name.text)

-- ---- types that hold themselves

-- the names in what a name stands for
abbrev pub names_of : Option IrType → List (List ℕ)
names_of (Some t) = texts (type_names (types_in t))
names_of None = []

-- the name is one of those, or is met in what they stand for, so many times over
unfoldable pub is_met : ℕ → List TypeDefinition → List ℕ → List (List ℕ) → Bool
is_met zero defined name names = false
is_met (suc n) defined name names = among name names || is_met n defined name (flat_map (λ m. names_of (kind_of defined m)) names)

-- a type holds itself: its name is met in what it stands for, and no more names than there are stand within one another before
abbrev pub holds_itself : List TypeDefinition → TypeDefinition → Bool
holds_itself defined d = is_met (length defined) defined d.name.text (names_of (Some d.kind))

-- ---- one type

-- a type with each name replaced by what it stands for, so many times over
abbrev pub expanded_level : (List ℕ → ℕ → IrType) → IrType-F IrType → IrType
expanded_level named (IrType-F.Int width) = types.Int width
expanded_level named IrType-F.Ptr = types.Ptr
expanded_level named (IrType-F.Array at len element) = types.Array at len element
expanded_level named (IrType-F.Struct at fields packed) = types.Struct at fields packed
expanded_level named (IrType-F.Named name at) = named name at

abbrev pub expanded_or : (IrType → IrType) → IrType → Option IrType → IrType
expanded_or expand t (Some kind) = expand kind
expanded_or expand t None = t

unfoldable pub expanded_name : ℕ → List TypeDefinition → List ℕ → ℕ → IrType
expanded_name zero defined name at = types.Named name at
expanded_name (suc n) defined name at =
    expanded_or (λ t. fold-IrType IrType (expanded_level (expanded_name n defined)) t) (types.Named name at) (kind_of defined name)

unfoldable pub expanded : List TypeDefinition → IrType → IrType
expanded defined t = fold-IrType IrType (expanded_level (expanded_name (length defined) defined)) t

-- two types are one where they are spelled alike with each name replaced
abbrev pub is_one_type : List TypeDefinition → IrType → IrType → Bool
is_one_type defined t u = same_all (type_tokens (expanded defined t)) (type_tokens (expanded defined u))

-- ---- sizes

abbrev pub size_or_zero : Option Extent → ℕ
size_or_zero (Some e) = e.size
size_or_zero None = 0

-- how many bytes a type takes, told up to one more than an object may have; a type that holds itself or an unknown one takes none
abbrev pub size_of : List TypeDefinition → IrType → ℕ
size_of defined t = min most (size_or_zero (extent defined t))

-- where an aggregate or a name stands
abbrev pub place_level : IrType-F IrType → List ℕ
place_level (IrType-F.Int width) = []
place_level IrType-F.Ptr = []
place_level (IrType-F.Array at len element) = at ∷ []
place_level (IrType-F.Struct at fields packed) = at ∷ []
place_level (IrType-F.Named name at) = at ∷ []

abbrev pub is_too_large : List TypeDefinition → IrType → Bool
is_too_large defined t = nat_lt 65536 (size_of defined t)

-- the places of the types that are too large
abbrev pub too_large : List TypeDefinition → List IrType → List ℕ
too_large defined ts = flat_map (λ t. place_level (out-IrType t)) (filter (is_too_large defined) ts)
