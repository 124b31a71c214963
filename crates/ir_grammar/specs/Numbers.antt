-- What a token of digits says, and the range that its place allows.
use Rattle.std.specs.Prelude.{ℕ, ◌+◌, ◌-◌, ◌*◌, ◌^◌, Bool, true, false, not, ◌&&◌, ◌==◌, nat_le, nat_lt, if◌then◌else◌, List, [], ◌∷◌, Option, Some, None}
use Rattle.ir_tree.specs.declared.constants.Integer.{Integer}
use Rattle.phrases.specs.Piece.{Piece, matches}
use Rattle.ir_grammar.specs.Tokens.{an_int, integer_type}

-- the number that digits write after those of n
abbrev pub digits_value : ℕ → List ℕ → ℕ
digits_value n [] = n
digits_value n (d ∷ ds) = digits_value (10 * n + (d - 48)) ds

-- a number with its sign; zero has none
abbrev pub signed : Bool → ℕ → Integer
signed minus n = record { negative = minus && not (n == 0); magnitude = n }

abbrev pub written : List ℕ → Integer
written [] = signed false 0
written (d ∷ ds) = if d == 45 then signed true (digits_value 0 ds) else signed false (digits_value 0 (d ∷ ds))

-- ---- ranges

-- from -2^(w - 1) to 2^w - 1
abbrev pub fits_width : ℕ → Integer → Bool
fits_width w n = if n.negative then nat_le (2 * n.magnitude) (2 ^ w) else nat_lt n.magnitude (2 ^ w)

-- any number that a production reads: from -2^63 to 2^64 - 1
abbrev pub fits_any : Integer → Bool
fits_any n = fits_width 64 n

-- less than 2^63 in size
abbrev pub fits_offset : Integer → Bool
fits_offset n = nat_lt n.magnitude (2 ^ 63)

-- from 0 to 2^63 - 1
abbrev pub fits_length : Integer → Bool
fits_length n = not n.negative && nat_lt n.magnitude (2 ^ 63)

-- an index of a `getelementptr` of so many bits
abbrev pub fits_index : ℕ → Integer → Bool
fits_index w n = fits_width w n && fits_offset n

-- the number of an Int in a range
abbrev pub int_in : (Integer → Bool) → Piece → Option Integer
int_in fits p = if matches an_int p && fits (written p.text) then Some (written p.text) else None

-- ---- types of integers

abbrev pub number_after_i : List ℕ → ℕ
number_after_i [] = 0
number_after_i (i ∷ ds) = digits_value 0 ds

-- i1 to i64
abbrev pub width_of : Piece → Option ℕ
width_of p =
    let n = number_after_i p.text in
    if matches integer_type p && nat_le 1 n && nat_le n 64 then Some n else None
