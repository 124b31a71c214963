-- How many bytes a type takes in memory, and its alignment: the rules of `layout` over the types of a module.
use Rattle.std.specs.Prelude.{◌≡◌, ℕ, zero, suc, Bool, ◌||◌, ◌==◌, List, [], ◌∷◌, length, Option, Some, None, if◌then◌else◌, map, min}
use Rattle.layout.specs.Layout.{Extent, int, pointer, array_of, struct_of, field_place}
use Rattle.ir_tree.specs.declared.types.IrType.{IrType, fold-IrType}
use Rattle.ir_tree.specs.declared.types.IrType.TheOpen.{IrType-F}
use Rattle.ir_tree.specs.declared.module.TypeDefinition.{TypeDefinition}
use Rattle.ir_tree.specs.Texts.{same}

-- the type that a name stands for
abbrev pub kind_of : List TypeDefinition → List ℕ → Option IrType
kind_of [] name = None
kind_of (d ∷ ds) name = if same d.name.text name then Some d.kind else kind_of ds name

-- an extent of a part, if it has one
abbrev pub of_array : ℕ → Option Extent → Option Extent
of_array len (Some e) = Some (array_of len e)
of_array len None = None

-- all of the extents, if each part has one
abbrev pub with_one : Option Extent → Option (List Extent) → Option (List Extent)
with_one (Some e) (Some es) = Some (e ∷ es)
with_one (Some e) None = None
with_one None es = None

abbrev pub each : List (Option Extent) → Option (List Extent)
each [] = Some []
each (e ∷ es) = with_one e (each es)

abbrev pub of_struct : Bool → Option (List Extent) → Option Extent
of_struct packed (Some es) = Some (struct_of packed es)
of_struct packed None = None

-- the integers that memory holds are those of 8, 16, 32 and 64 bits
abbrev pub of_integer : ℕ → Option Extent
of_integer width = if width == 8 || width == 16 || width == 32 || width == 64 then Some (int width) else None

-- one level of a type, with the extents of its parts and of names
abbrev pub level : (List ℕ → Option Extent) → IrType-F (Option Extent) → Option Extent
level named (IrType-F.Int width) = of_integer width
level named IrType-F.Ptr = Some pointer
level named (IrType-F.Array at len element) = of_array len element
level named (IrType-F.Struct at fields packed) = of_struct packed (each fields)
level named (IrType-F.Named name at) = named name

abbrev pub of_type : (IrType → Option Extent) → Option IrType → Option Extent
of_type extent (Some t) = extent t
of_type extent None = None

-- what a name stands for takes, through so many names within one another
unfoldable pub name_within : ℕ → List TypeDefinition → List ℕ → Option Extent
name_within zero types name = None
name_within (suc n) types name = of_type (λ t. fold-IrType (Option Extent) (level (name_within n types)) t) (kind_of types name)

abbrev pub extent_within : ℕ → List TypeDefinition → IrType → Option Extent
extent_within n types t = fold-IrType (Option Extent) (level (name_within n types)) t

-- The extent of a type. It has none where a name in it isn't in the list or leads back to itself (else no more names than there are
-- stand within one another), or where an integer in it is none that memory holds.
abbrev pub extent : List TypeDefinition → IrType → Option Extent
extent types t = extent_within (length types) types t

-- sizes and places are told up to one more than an object may have
abbrev pub most : ℕ
most = 65537
