-- How large a number of so many bytes is.
use Rattle.std.proofs.Common.{◌≡◌, ℕ, suc, ◌+◌, ◌*◌, ◌/◌, ◌^◌, ◌<◌, ◌≤◌, ◌∙◌, ap, arith, inl, inr}
use Rattle.std.proofs.lemmas.Nat.{pow-add, pow_below}
use Rattle.std.proofs.lemmas.Bool.{cases_eq}

pub pow_most : (i j : ℕ) → i ≤ j → 2 ^ i ≤ 2 ^ j
pow_most i j most = elim (cases_eq i j) [
  | inl e ↦ let same : 2 ^ i ≡ 2 ^ j = ap (λ (k : ℕ). 2 ^ k) e in omega (arith, same)
  | inr apart ↦ let less = pow_below i j (omega (arith, most, apart)) in omega (arith, less)
]

-- with a byte below
pub one_byte_more : (k n m : ℕ) → n < 2 ^ (8 * k) → m < 256 * n + 256 → m < 2 ^ (8 * suc k)
one_byte_more k n m small below =
    let e : 8 * suc k ≡ 8 * k + 8 = omega arith in
    let larger : 2 ^ (8 * suc k) ≡ 2 ^ (8 * k) * 256 = ap (λ (i : ℕ). 2 ^ i) e ∙ pow-add 2 (8 * k) 8 in
    omega (arith, small, below, larger)

pub seven_bytes : (k n : ℕ) → suc k ≤ 8 → n < 2 ^ (8 * k) → n < 2 ^ 56
seven_bytes k n few small = let most = pow_most (8 * k) 56 (omega (arith, few)) in omega (arith, small, most)

pub bytes_fit : (n length width : ℕ) → n < 2 ^ (8 * length) → length ≡ width / 8 → n < 2 ^ width
bytes_fit n length width small size =
    let most = pow_most (8 * length) width (omega (arith, size)) in omega (arith, small, most)
