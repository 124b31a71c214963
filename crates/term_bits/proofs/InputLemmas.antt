-- The bytes that are made of bits have these bits.
use Rattle.std.proofs.Common.{◌≡◌, ℕ, zero, suc, Bool, true, false, ◌+◌, ◌-◌, ◌*◌, ◌/◌, ◌%◌, ◌^◌, ◌<◌, eqb, get_or, List, [], ◌∷◌, length, map, refl, sym, ap, ◌∙◌, arith}
use Rattle.std.specs.List.{All, AllByRecursion, range_with_len}
use Rattle.std.proofs.lemmas.List.Elements.{All-from_recursion}
use Rattle.std.proofs.lemmas.List.FromFn.{get_or-map-range_with_len}
use Rattle.std.proofs.lemmas.Nat.{shr-shr}
use Rattle.gates.specs.Bits as bit
use Rattle.gates.specs.Bits.{Bit, value}
use Rattle.rows.specs.Numbers.{digit, read}
use Rattle.rows.proofs.BitValues.{digit-lt, read-lt}
use Rattle.term_bits.specs.TermBits.{input_bits, input_of}
use Rattle.term_bits.specs.Conditions.{bytes_of}

digit_is : (b : Bool) → eqb (digit b) 1 ≡ b
digit_is true = refl
digit_is false = refl

-- a place of the number is the bit that stands there
bit_read : (i : ℕ → Bool) (xs : List Bit) (n : ℕ) (d : Bit) → n < length xs → eqb (read i xs / 2 ^ n % 2) 1 ≡ value i (get_or xs n d)
unfolding read
bit_read i [] n d h = absurd (omega arith)
bit_read i (x ∷ xs) zero d h =
    let lowest : (digit (value i x) + 2 * read i xs) / 1 % 2 ≡ digit (value i x) = omega (arith, digit-lt (value i x)) in
    rw lowest (digit_is (value i x))
bit_read i (x ∷ xs) (suc n) d h =
    let whole : ℕ = digit (value i x) + 2 * read i xs in
    let half : whole / 2 ≡ read i xs = omega (arith, digit-lt (value i x)) in
    let more : 1 + n ≡ suc n = omega arith in
    let place : whole / 2 ^ suc n ≡ read i xs / 2 ^ n = sym (shr-shr whole 1 n ∙ ap (λ m. whole / 2 ^ m) more) ∙ ap (λ m. m / 2 ^ n) half in
    rw place (bit_read i xs n d (omega arith))

-- a byte's bits, the lowest first
input_place : (j n : ℕ) (d : Bit) → n < 8 → get_or (input_bits j) n d ≡ bit.input (8 * j + 7 - n)
input_place j zero d h = ap bit.input (omega arith)
input_place j (suc zero) d h = ap bit.input (omega arith)
input_place j (suc (suc zero)) d h = ap bit.input (omega arith)
input_place j (suc (suc (suc zero))) d h = ap bit.input (omega arith)
input_place j (suc (suc (suc (suc zero)))) d h = ap bit.input (omega arith)
input_place j (suc (suc (suc (suc (suc zero))))) d h = ap bit.input (omega arith)
input_place j (suc (suc (suc (suc (suc (suc zero)))))) d h = ap bit.input (omega arith)
input_place j (suc (suc (suc (suc (suc (suc (suc zero))))))) d h = ap bit.input (omega arith)
input_place j (suc (suc (suc (suc (suc (suc (suc (suc n)))))))) d h = absurd (omega arith)

value_input : (i : ℕ → Bool) (k : ℕ) → value i (bit.input k) ≡ i k
unfolding value
value_input i k = refl

pub input_of_bytes : (i : ℕ → Bool) (k : ℕ) → k < 512 → input_of (bytes_of i) k ≡ i k
input_of_bytes i k h =
    let byte : get_or (bytes_of i) (k / 8) 0 ≡ read i (input_bits (k / 8)) = get_or-map-range_with_len (λ j. read i (input_bits j)) 0 64 (k / 8) (k / 8) 0 (omega arith) (omega arith) in
    let again : 8 * (k / 8) + 7 - (7 - k % 8) ≡ k = omega arith in
    ap (λ b. eqb (b / 2 ^ (7 - k % 8) % 2) 1) byte ∙ bit_read i (input_bits (k / 8)) (7 - k % 8) (bit.constant false) (omega arith) ∙ ap (value i) (input_place (k / 8) (7 - k % 8) (bit.constant false) (omega arith)) ∙ value_input i (8 * (k / 8) + 7 - (7 - k % 8)) ∙ ap i again

each_byte : (i : ℕ → Bool) (ks : List ℕ) → AllByRecursion (λ b. b < 256) (map (λ k. read i (input_bits k)) ks)
each_byte i [] = tt
each_byte i (k ∷ ks) = (read-lt i (input_bits k), each_byte i ks)

pub are_bytes : (i : ℕ → Bool) → All (λ b. b < 256) (bytes_of i)
are_bytes i = All-from_recursion (λ b. b < 256) (bytes_of i) (each_byte i (range_with_len 0 64))
