-- Bits moved: joined, cut, filled.
use Rattle.std.proofs.Common.{◌≡◌, ℕ, zero, suc, Bool, true, false, not, ◌&&◌, ◌||◌, ◌+◌, ◌-◌, ◌*◌, ◌/◌, ◌%◌, ◌^◌, ◌<◌, ◌≤◌, cond, eqb, List, [], ◌∷◌, ◌++◌, length, take, drop, refl, sym, ap, ap₂, ◌∙◌, ⊎_elim, arith, length-append, length-drop, append_assoc}
use Rattle.std.proofs.lemmas.Bool.{cases_Bool}
use Rattle.std.proofs.lemmas.List.{take-append-drop, length-take-le}
use Rattle.std.proofs.lemmas.Nat.{div-mul-add, pow-add, pow_pos}
use Rattle.std.proofs.Math.Nat.{mul_assoc, mul_comm, mul-add, mod-eq_of_lt}
use Rattle.gates.specs.Bits.{Bit, constant, value, fold_not, fold_and, fold_xor}
use Rattle.gates.proofs.BitLemmas.{value-fold_not, value-fold_and}
use Rattle.rows.specs.Numbers.{digit, read}
use Rattle.rows.specs.Rows.{fills, constant_bits, masked, moved_up, moved_down, guarded, widened, byte_at}
use Rattle.rows.proofs.BitValues.{read-lt, pow-double, digit-lt}
use Rattle.rows.proofs.SumLemmas.{mod_from_sum, length-fills, read-zeros}

div_from_sum : (r p d s : ℕ) → r < p → r + p * d ≡ s → d ≡ s / p
div_from_sum r p d s below e =
    let turned : d * p + r ≡ s = omega (arith, mul_comm d p) in
    rw (← turned) (sym (div-mul-add d p r below))

append_step : (a r p m : ℕ) → a + 2 * (r + p * m) ≡ (a + 2 * r) + 2 * p * m
append_step a r p m = omega (arith, mul_assoc 2 p m)

module _ (i : ℕ → Bool) where
  pub read-append : (xs ys : List Bit) → read i (xs ++ ys) ≡ read i xs + 2 ^ length xs * read i ys
  unfolding read
  read-append [] ys = omega arith
  read-append (x ∷ xs) ys =
      rw (read-append xs ys, pow-double (length xs)) (append_step (digit (value i x)) (read i xs) (2 ^ length xs) (read i ys))

  cut : (n : ℕ) (xs : List Bit) → n ≤ length xs → (read i (take n xs) < 2 ^ n) × (read i (take n xs) + 2 ^ n * read i (drop n xs) ≡ read i xs)
  cut n xs h =
      let size = length-take-le n xs h in (
        rw (size) at (read-lt i (take n xs)),
        rw (size) at (sym (read-append (take n xs) (drop n xs))) ∙ ap (read i) (take-append-drop n xs),
      )

  pub read-take : (n : ℕ) (xs : List Bit) → n ≤ length xs → read i (take n xs) ≡ read i xs % 2 ^ n
  read-take n xs h = let c = cut n xs h in mod_from_sum (read i (take n xs)) (2 ^ n) (read i (drop n xs)) (read i xs) c.0 c.1

  pub read-drop : (n : ℕ) (xs : List Bit) → n ≤ length xs → read i (drop n xs) ≡ read i xs / 2 ^ n
  read-drop n xs h = let c = cut n xs h in div_from_sum (read i (take n xs)) (2 ^ n) (read i (drop n xs)) (read i xs) c.0 c.1

  pub read-ones : (n : ℕ) (b : Bit) → value i b ≡ true → read i (fills n b) + 1 ≡ 2 ^ n
  unfolding read fills
  read-ones zero b h = refl
  read-ones (suc n) b h = rw h (omega (arith, read-ones n b h, pow-double n))

  pub read-filled : (n : ℕ) (b : Bit) → value i b ≡ false → read i (fills n b) ≡ 0
  unfolding read fills
  read-filled zero b h = refl
  read-filled (suc n) b h = rw h (omega (arith, read-filled n b h))

  pub length-moved_up : (by : ℕ) (xs : List Bit) → length (moved_up by xs) ≡ length xs
  length-moved_up by xs = length-take-le (length xs) (fills by (constant false) ++ xs) (omega (arith, length-append (fills by (constant false)) xs))

  pub read-moved_up : (by : ℕ) (xs : List Bit) → read i (moved_up by xs) ≡ read i xs * 2 ^ by % 2 ^ length xs
  read-moved_up by xs =
      read-take (length xs) (fills by (constant false) ++ xs) (omega (arith, length-append (fills by (constant false)) xs)) ∙ ap (λ n. n % 2 ^ length xs) (read-append (fills by (constant false)) xs ∙ rw (length-fills i by (constant false), read-zeros i by) (omega (arith, mul_comm (2 ^ by) (read i xs))))

  pub length-down : (by : ℕ) (fill : Bit) (xs : List Bit) → by ≤ length xs → length (drop by xs ++ fills by fill) ≡ length xs
  length-down by fill xs h = omega (arith, length-append (drop by xs) (fills by fill), length-drop by xs, length-fills i by fill)

  pub length-moved_down : (fill : Bit) (by : ℕ) (xs : List Bit) → by ≤ length xs → length (moved_down fill by xs) ≡ length xs
  length-moved_down fill by xs h = length-take-le (length xs) _ (omega (arith, length-down by fill xs h))

  pub read-moved_down : (fill : Bit) (by : ℕ) (xs : List Bit) → by ≤ length xs → read i (moved_down fill by xs) ≡ read i xs / 2 ^ by + 2 ^ (length xs - by) * read i (fills by fill)
  read-moved_down fill by xs h =
      let size = length-down by fill xs h in
      let whole = drop by xs ++ fills by fill in
      let fits : read i whole < 2 ^ length xs = rw (size) at (read-lt i whole) in
      read-take (length xs) whole (omega arith) ∙ mod-eq_of_lt fits ∙ read-append (drop by xs) (fills by fill) ∙ rw (length-drop by xs, read-drop by xs h) refl

  pub read-constant_bits : (w n : ℕ) → n < 2 ^ w → read i (constant_bits w n) ≡ n
  unfolding read constant_bits value
  read-constant_bits zero n h = omega arith
  read-constant_bits (suc w) n h =
      rw (read-constant_bits w (n / 2) (omega (arith, pow-double w))) (⊎_elim (λ t. rw t (omega (arith, t, odd n t))) (λ f. rw f (omega (arith, even n f))) (cases_Bool (eqb (n % 2) 1)))
    where
      odd : (n : ℕ) → eqb (n % 2) 1 ≡ true → n % 2 ≡ 1
      odd n t = grind arith

      even : (n : ℕ) → eqb (n % 2) 1 ≡ false → n % 2 ≡ 0
      even n t = grind arith

  pub length-constant_bits : (w n : ℕ) → length (constant_bits w n) ≡ w
  unfolding constant_bits
  length-constant_bits zero n = refl
  length-constant_bits (suc w) n = ap suc (length-constant_bits w (n / 2))

  pub length-masked : (b : Bit) (xs : List Bit) → length (masked b xs) ≡ length xs
  unfolding masked
  length-masked b [] = refl
  length-masked b (x ∷ xs) = ap suc (length-masked b xs)

  mask_step : (a b : Bool) (n : ℕ) → digit (a && b) + 2 * (digit b * n) ≡ digit b * (digit a + 2 * n)
  mask_step true true n = omega arith
  mask_step true false n = omega arith
  mask_step false true n = omega arith
  mask_step false false n = omega arith

  pub read-masked : (b : Bit) (xs : List Bit) → read i (masked b xs) ≡ digit (value i b) * read i xs
  unfolding read masked
  read-masked b [] = omega arith
  read-masked b (x ∷ xs) = rw (value-fold_and i x b, read-masked b xs) (mask_step (value i x) (value i b) (read i xs))

  pub length-guarded : (b : Bit) (xs : List Bit) → length (guarded b xs) ≡ length xs
  unfolding guarded
  length-guarded b [] = refl
  length-guarded b (x ∷ xs) = ap suc (length-guarded b xs)

  guard_step : (a b : Bool) (n : ℕ) → digit (not b && a) + 2 * cond b 0 n ≡ cond b 0 (digit a + 2 * n)
  guard_step true true n = refl
  guard_step true false n = refl
  guard_step false true n = refl
  guard_step false false n = refl

  pub read-guarded : (b : Bit) (xs : List Bit) → read i (guarded b xs) ≡ cond (value i b) 0 (read i xs)
  unfolding read guarded
  read-guarded b [] = nothing (value i b)
    where
      nothing : (b : Bool) {n : ℕ} → n ≡ cond b n n
      nothing true = refl
      nothing false = refl
  read-guarded b (x ∷ xs) =
      rw (value-fold_and i (fold_not b) x, value-fold_not i b, read-guarded b xs) (guard_step (value i x) (value i b) (read i xs))

  pub read-widened : (w : ℕ) (xs : List Bit) → read i (widened w (constant false) xs) ≡ read i xs
  read-widened w xs = read-append xs (fills (w - length xs) (constant false)) ∙ rw (read-zeros i (w - length xs)) (omega arith)

  pub read-byte_at : (j : ℕ) (xs : List Bit) → 8 * j + 8 ≤ length xs → read i (byte_at j xs) ≡ read i xs / 2 ^ (8 * j) % 2 ^ 8
  read-byte_at j xs h =
      read-take 8 (drop (8 * j) xs) (omega (arith, length-drop (8 * j) xs)) ∙ ap (λ n. n % 2 ^ 8) (read-drop (8 * j) xs (omega arith))
