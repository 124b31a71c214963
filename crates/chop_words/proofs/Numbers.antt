-- What digits are worth only grows.
use Rattle.std.proofs.Common.{◌≡◌, ℕ, ◌+◌, ◌*◌, ◌-◌, ◌≤◌, Bool, true, false, nat_le, List, [], ◌∷◌, None, Some, refl, ap, sym, arith, if◌then◌else◌}
use Rattle.std.proofs.lemmas.Bool.{lt-leb, le-leb, leb-false, false≢true}
use Rattle.chop_words.specs.Words.{worth, at_most, within}

worth_grows : (n : ℕ) (bs : List ℕ) → n ≤ worth n bs
worth_grows n [] = omega arith
worth_grows n (b ∷ bs) = omega (arith, worth_grows (n * 10 + (b - 48)) bs)

chosen-not : (b : Bool) (n : ℕ) → b ≡ false → (if b then Some n else None) ≡ None
chosen-not true n h = absurd (false≢true (sym h))
chosen-not false n h = refl

-- a digit more, by whether the number is still small enough
pub one_more : (most n : ℕ) (b : ℕ) (more : List ℕ) → within most (at_most most (n * 10 + (b - 48))) more ≡ within most (Some n) (b ∷ more)
one_more most n b more = by-test (nat_le (n * 10 + (b - 48)) most) refl
  where
    by-test : (test : Bool) → nat_le (n * 10 + (b - 48)) most ≡ test → within most (if test then Some (n * 10 + (b - 48)) else None) more ≡ at_most most (worth (n * 10 + (b - 48)) more)
    by-test true is = refl
    by-test false is = sym (chosen-not (nat_le (worth (n * 10 + (b - 48)) more) most) (worth (n * 10 + (b - 48)) more)
        (lt-leb (worth (n * 10 + (b - 48)) more) most (omega (arith, leb-false (n * 10 + (b - 48)) most is, worth_grows (n * 10 + (b - 48)) more))))

-- a number that is small enough, with no digit more
pub no_more : (most n : ℕ) → n ≤ most → within most (Some n) [] ≡ Some n
no_more most n h = ap (λ b. if b then Some n else None) (le-leb n most h)
