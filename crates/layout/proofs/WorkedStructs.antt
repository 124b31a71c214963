-- Structs whose layouts are known from the x86-64 C ABI.
use Rattle.std.proofs.Common.{◌≡◌, true, false, [], ◌∷◌, refl}
use Rattle.layout.specs.Layout.{int, pointer, array_of, struct_of, field_place}

-- struct { char; int; short } has its fields at 0, 4 and 8, and 12 bytes
char_int_short : struct_of false (int 8 ∷ int 32 ∷ int 16 ∷ []) ≡ record { size = 12; align = 4 }
char_int_short = refl

the_short_stands_at_eight : field_place false 0 (int 8 ∷ int 32 ∷ int 16 ∷ []) 2 ≡ 8
the_short_stands_at_eight = refl

-- packed, it has 7 bytes
packed_char_int_short : struct_of true (int 8 ∷ int 32 ∷ int 16 ∷ []) ≡ record { size = 7; align = 1 }
packed_char_int_short = refl

the_packed_short_stands_at_five : field_place true 0 (int 8 ∷ int 32 ∷ int 16 ∷ []) 2 ≡ 5
the_packed_short_stands_at_five = refl

-- struct { char *; char[3] } has 16 bytes
pointer_and_text : struct_of false (pointer ∷ array_of 3 (int 8) ∷ []) ≡ record { size = 16; align = 8 }
pointer_and_text = refl

-- struct { } has none
no_field : struct_of false [] ≡ record { size = 0; align = 1 }
no_field = refl
