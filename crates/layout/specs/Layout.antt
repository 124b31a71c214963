-- Sizes, alignments and places of values in memory, in bytes. The kinds of types are those of the LLVM Language
-- Reference, "Type System"; which layout they have is left to a module's data layout there ("Data Layout"). This is one
-- such layout, little-endian, with natural alignment.
use Rattle.std.specs.Prelude.{ℕ, zero, suc, ◌+◌, ◌-◌, ◌*◌, ◌/◌, Bool, List, [], ◌∷◌, max, if◌then◌else◌}

-- how many bytes a value takes, and what its place is a multiple of
pub record Extent : Type 0 where
  pub size : ℕ
  pub align : ℕ

-- the next place at or behind an offset that is a multiple of the alignment
abbrev pub aligned : ℕ → ℕ → ℕ
aligned offset align = (offset + (align - 1)) / align * align

-- an integer of 8, 16, 32 or 64 bits takes its bytes, and is aligned to them
abbrev pub int : ℕ → Extent
int width = record { size = width / 8; align = width / 8 }

-- a pointer takes eight bytes
abbrev pub pointer : Extent
pointer = record { size = 8; align = 8 }

-- an array is its elements one behind another ("Array Type")
abbrev pub array_of : ℕ → Extent → Extent
array_of count element = record { size = count * element.size; align = element.align }

-- in a packed struct nothing is aligned ("Structure Type")
abbrev pub field_align : Bool → Extent → ℕ
field_align packed field = if packed then 1 else field.align

-- where the fields end if the first of them stands at or behind a place
abbrev pub fields_end : Bool → ℕ → List Extent → ℕ
fields_end packed place [] = place
fields_end packed place (f ∷ fs) = fields_end packed (aligned place (field_align packed f) + f.size) fs

-- where field k of them stands
abbrev pub field_place : Bool → ℕ → List Extent → ℕ → ℕ
field_place packed place [] k = place
field_place packed place (f ∷ fs) zero = aligned place (field_align packed f)
field_place packed place (f ∷ fs) (suc k) = field_place packed (aligned place (field_align packed f) + f.size) fs k

-- the greatest alignment of the fields, 1 if there are none
abbrev pub greatest_align : Bool → List Extent → ℕ
greatest_align packed [] = 1
greatest_align packed (f ∷ fs) = max (field_align packed f) (greatest_align packed fs)

-- a struct is its fields at their places, and its size a multiple of its alignment
abbrev pub struct_of : Bool → List Extent → Extent
struct_of packed fields = record {
  size = aligned (fields_end packed 0 fields) (greatest_align packed fields);
  align = greatest_align packed fields;
}
