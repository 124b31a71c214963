-- Inputs stand in the order of their bits, byte after byte, the most significant bit first.
use Rattle.std.proofs.Common.{◌≡◌, ◌<◌, ◌≤◌, ◌⊎◌, ◌+◌, ◌-◌, ◌*◌, ◌/◌, ◌%◌, ◌^◌, ℕ, zero, suc, Bool, true, false, eqb, get_or, List, [], ◌∷◌, ◌++◌, map, take, length, refl, sym, ap, ap₂, subst, ◌∙◌, ⊎_elim, inl, inr, arith}
use Rattle.std.specs.List.{All, AllByRecursion, range_with_len}
use Rattle.std.proofs.Math.Nat.{mod-lt}
use Rattle.std.proofs.lemmas.Nat.{mod-pow-add}
use Rattle.std.proofs.lemmas.List.{get_or-take, length-take-le, take_all}
use Rattle.std.proofs.lemmas.List.Elements.{recursion_from_All}
use Rattle.std.proofs.lemmas.List.FromFn.{fill_by_all}
use Rattle.gates.specs.Clauses.{all_inputs}
use Rattle.rows.specs.Numbers.{digit}
use Rattle.search.specs.Models as bits
use Rattle.term_bits.specs.TermBits.{input_of}
use Rattle.condition_verdicts.specs.Inputs.{IsAtMostInput}
use Rattle.decider.specs.Inputs.{IsAtMost}

-- lists of numbers

first_part : (xs ys : List ℕ) (i j : ℕ → Bool) → bits.IsAtMost (xs ++ ys) i j → bits.IsAtMost xs i j
first_part [] ys i j h = tt
first_part (x ∷ xs) ys i j h = ⊎_elim (λ l. inl l) (λ r. inr (r.0, first_part xs ys i j r.1)) h

range_parts : (a m n : ℕ) → range_with_len a (m + n) ≡ range_with_len a m ++ range_with_len (a + m) n
range_parts a zero n =
    let none : 0 + n ≡ n = omega arith in
    let same : a ≡ a + 0 = omega arith in
    ap (range_with_len a) none ∙ ap (λ x. range_with_len x n) same
range_parts a (suc m) n =
    let more : suc m + n ≡ suc (m + n) = omega arith in
    let same : (a + 1) + m ≡ a + suc m = omega arith in
    ap (range_with_len a) more ∙ ap (λ xs. a ∷ xs) (range_parts (a + 1) m n ∙ ap (λ x. range_with_len (a + 1) m ++ range_with_len x n) same)

bytes_by_place : (n : ℕ) (xs : List ℕ) → n ≤ length xs → take n xs ≡ map (λ j. get_or xs j 0) (range_with_len 0 n)
bytes_by_place n xs h =
    fill_by_all (λ j. get_or xs j 0) (take n xs) n 0 (length-take-le n xs h) (λ k below. get_or-take n xs k 0 below)

each_below : (xs : List ℕ) (j : ℕ) → AllByRecursion (λ b. b < 256) xs → get_or xs j 0 < 256
each_below [] j h = omega arith
each_below (x ∷ xs) zero h = h.0
each_below (x ∷ xs) (suc j) h = each_below xs j h.1

byte_below : (xs : List ℕ) (j : ℕ) → All (λ b. b < 256) xs → get_or xs j 0 < 256
byte_below xs j h = each_below xs j (recursion_from_All (λ b. b < 256) xs h)

-- one byte

digit_of : (x : ℕ) → x < 2 → x ≡ digit (eqb x 1)
digit_of zero h = refl
digit_of (suc zero) h = refl
digit_of (suc (suc x)) h = absurd (omega arith)

top_digit : (x t : ℕ) (b : Bool) → b ≡ eqb (x / 2 ^ t % 2) 1 → x % 2 ^ suc t ≡ digit b * 2 ^ t + x % 2 ^ t
top_digit x t b e =
    let more : suc t ≡ 1 + t = omega arith in
    let top : x / 2 ^ t % 2 ≡ digit b = digit_of (x / 2 ^ t % 2) (mod-lt (x / 2 ^ t) (omega arith)) ∙ ap digit (sym e) in
    ap (λ n. x % 2 ^ n) more ∙ mod-pow-add x 1 t ∙ ap (λ d. d * 2 ^ t + x % 2 ^ t) top

power_positive : (t : ℕ) → 0 < 2 ^ t
power_positive zero = omega arith
power_positive (suc t) = omega (arith, power_positive t)

module _ (a b : ℕ → ℕ) where
  bit_of : (ℕ → ℕ) → ℕ → Bool
  bit_of x k = eqb (x (k / 8) / 2 ^ (7 - k % 8) % 2) 1

  bit_at : (x : ℕ → ℕ) (k t s : ℕ) → s + suc t ≡ 8 * k + 8 → suc t ≤ 8 → bit_of x s ≡ eqb (x k / 2 ^ t % 2) 1
  unfolding bit_of
  bit_at x k t s e h =
      let byte : s / 8 ≡ k = omega arith in
      let place : 7 - s % 8 ≡ t = omega arith in
      ap₂ (λ q r. eqb (x q / 2 ^ r % 2) 1) byte place

  -- the last bits of a byte, from place s on, and what comes behind them
  bits_order : (k t s : ℕ) (rest : List ℕ) → s + t ≡ 8 * k + 8 → t ≤ 8 → bits.IsAtMost (range_with_len s t ++ rest) (bit_of a) (bit_of b) → (a k % 2 ^ t < b k % 2 ^ t) ⊎ ((a k % 2 ^ t ≡ b k % 2 ^ t) × bits.IsAtMost rest (bit_of a) (bit_of b))
  bits_order k zero s rest e h at =
      let same : a k % 2 ^ 0 ≡ b k % 2 ^ 0 = omega arith in inr (same, at)
  bits_order k (suc t) s rest e h at =
      let first = bit_at a k t s e h in
      let second = bit_at b k t s e h in
      let small : a k % 2 ^ t < 2 ^ t = mod-lt (a k) (power_positive t) in
      ⊎_elim (λ l.
      let low : a k % 2 ^ suc t ≡ 0 * 2 ^ t + a k % 2 ^ t = top_digit (a k) t false (sym l.0 ∙ first) in
      let high : b k % 2 ^ suc t ≡ 1 * 2 ^ t + b k % 2 ^ t = top_digit (b k) t true (sym l.1 ∙ second) in
      let less : a k % 2 ^ suc t < b k % 2 ^ suc t = omega arith in inl less) (λ r.
      let low : a k % 2 ^ suc t ≡ digit (bit_of b s) * 2 ^ t + a k % 2 ^ t = top_digit (a k) t (bit_of b s) (sym r.0 ∙ first) in
      let high : b k % 2 ^ suc t ≡ digit (bit_of b s) * 2 ^ t + b k % 2 ^ t = top_digit (b k) t (bit_of b s) second in
      ⊎_elim (λ lt. let less : a k % 2 ^ suc t < b k % 2 ^ suc t = omega arith in inl less) (λ eq. inr (low ∙ ap (λ x. digit (bit_of b s) * 2 ^ t + x) eq.0 ∙ sym high, eq.1)) (bits_order k t (s + 1) rest (omega arith) (omega arith) r.1)) at

  bytes_order : (n k : ℕ) → ((j : ℕ) → a j < 256) → ((j : ℕ) → b j < 256) → bits.IsAtMost (range_with_len (8 * k) (8 * n)) (bit_of a) (bit_of b) → IsAtMost (map a (range_with_len k n)) (map b (range_with_len k n))
  bytes_order zero k low high at = tt
  bytes_order (suc n) k low high at =
      let more : 8 * suc n ≡ 8 + 8 * n = omega arith in
      let next : 8 * k + 8 ≡ 8 * (k + 1) = omega arith in
      let rest : List ℕ = range_with_len (8 * (k + 1)) (8 * n) in
      let parts : range_with_len (8 * k) (8 * suc n) ≡ range_with_len (8 * k) 8 ++ rest = ap (range_with_len (8 * k)) more ∙ range_parts (8 * k) 8 (8 * n) ∙ ap (λ x. range_with_len (8 * k) 8 ++ range_with_len x (8 * n)) next in
      let here = bits_order k 8 (8 * k) rest (omega arith) (omega arith) (subst (λ xs. bits.IsAtMost xs (bit_of a) (bit_of b)) parts at) in
      let first : a k < 256 = low k in
      let second : b k < 256 = high k in
      ⊎_elim (λ lt. let less : a k < b k = omega arith in inl less) (λ eq. let e : a k % 2 ^ 8 ≡ b k % 2 ^ 8 = eq.0 in let same : a k ≡ b k = omega arith in inr (same, bytes_order n (k + 1) low high eq.1)) here

-- whole inputs
pub in_order : (inputs : ℕ) (xs ys : List ℕ) → inputs ≤ 64 → inputs ≤ length xs → length ys ≡ inputs → All (λ b. b < 256) xs → All (λ b. b < 256) ys → IsAtMostInput xs ys → IsAtMost (take inputs xs) ys
unfolding all_inputs bit_of
in_order inputs xs ys few long sized low high at =
    let whole : 512 ≡ 8 * inputs + (512 - 8 * inputs) = omega arith in
    let parts : range_with_len 0 512 ≡ range_with_len 0 (8 * inputs) ++ range_with_len (0 + 8 * inputs) (512 - 8 * inputs) = ap (range_with_len 0) whole ∙ range_parts 0 (8 * inputs) (512 - 8 * inputs) in
    let short = first_part (range_with_len 0 (8 * inputs)) (range_with_len (0 + 8 * inputs) (512 - 8 * inputs)) (input_of xs) (input_of ys) (subst (λ ks. bits.IsAtMost ks (input_of xs) (input_of ys)) parts at) in
    let places = bytes_order (λ j. get_or xs j 0) (λ j. get_or ys j 0) inputs 0 (λ j. byte_below xs j low) (λ j. byte_below ys j high) short in
    let all_of : take inputs ys ≡ ys = take_all inputs ys (omega arith) in
    subst (λ zs. IsAtMost (take inputs xs) zs) (sym (bytes_by_place inputs ys (omega arith)) ∙ all_of) (subst (λ zs. IsAtMost zs (map (λ j. get_or ys j 0) (range_with_len 0 inputs))) (sym (bytes_by_place inputs xs long)) places)
