-- The longest front that passes a test, and how such fronts are put together.
use Rattle.std.proofs.Common.{◌≡◌, ℕ, zero, suc, ◌+◌, ◌≤◌, ◌<◌, Bool, true, false, cond, List, [], ◌∷◌, length, take, drop, Option, Some, None, refl, ap, subst, ◌∙◌, arith, length-take, length-drop}
use Rattle.ir_lexer.specs.declared.token.TokenKind.{TokenKind}
use Rattle.ir_lexer.specs.Forms.{runs_to, when, first_of}
use Rattle.ir_lexer.specs.Scanning.{run, begins, run_to, one_more, of_kind, or_else}
use Rattle.ir_lexer.proofs.Runs.{same_is, run_within, runs_short, runs_long, ends_there, ends_only}

-- the longest front that passes, by its length, or none does
abbrev pub Longest : (List ℕ → Bool) → List ℕ → Option ℕ → Type 0
Longest f bs None = (m : ℕ) → m ≤ length bs → f (take m bs) ≡ false
Longest f bs (Some n) = (n ≤ length bs) × (f (take n bs) ≡ true) × ((m : ℕ) → suc n ≤ m → m ≤ length bs → f (take m bs) ≡ false)

-- the longest front that has a kind
abbrev pub Best : (List ℕ → Option TokenKind) → List ℕ → Option (TokenKind × ℕ) → Type 0
Best g bs None = (m : ℕ) → m ≤ length bs → g (take m bs) ≡ None
Best g bs (Some x) = (x.1 ≤ length bs) × (g (take x.1 bs) ≡ Some x.0) × ((m : ℕ) → suc x.1 ≤ m → m ≤ length bs → g (take m bs) ≡ None)

-- ---- runs

pub run_longest : (f : ℕ → Bool) (bs : List ℕ) → Longest (runs_to f []) bs (Some (run f bs))
run_longest f bs = (run_within f bs, runs_short f bs (run f bs) (omega arith), λ m lt le. runs_long f bs m lt le)

module _ (f : ℕ → Bool) (c : ℕ) (more : List ℕ) (stop : f c ≡ false) where
  ending_within : (bs : List ℕ) → begins (c ∷ more) (drop (run f bs) bs) ≡ true → run f bs + length (c ∷ more) ≤ length bs
  ending_within bs h =
      let e = ap length (same_is (c ∷ more) (take (length (c ∷ more)) (drop (run f bs) bs)) h) in
      omega (arith, e, length-take (length (c ∷ more)) (drop (run f bs) bs), length-drop (run f bs) bs, run_within f bs)

  is_false : (x : Bool) → (x ≡ true → ⊥) → x ≡ false
  is_false true h = absurd (h refl)
  is_false false h = refl

  pub ending_longest : (bs : List ℕ) → Longest (runs_to f (c ∷ more)) bs (run_to f (c ∷ more) bs)
  ending_longest bs = go (begins (c ∷ more) (drop (run f bs) bs)) refl
    where
      go : (x : Bool) → begins (c ∷ more) (drop (run f bs) bs) ≡ x → Longest (runs_to f (c ∷ more)) bs (cond x (Some (run f bs + length (c ∷ more))) None)
      go true e = (
        ending_within bs e,
        ends_there f c more stop bs (run f bs + length (c ∷ more)) refl e,
        λ m lt le. is_false (runs_to f (c ∷ more) (take m bs)) (λ h. absurd (omega (arith, lt, (ends_only f c more bs m le h).1))),
      )
      go false e = λ m le. is_false (runs_to f (c ∷ more) (take m bs)) (λ h. absurd (let q = (ends_only f c more bs m le h).0 in cc))

-- ---- one byte in front

none_taken : (f : List ℕ → Bool) (b : ℕ) (bs : List ℕ) → f [] ≡ false → ((m : ℕ) → m ≤ length bs → f (b ∷ take m bs) ≡ false) → (m : ℕ) → m ≤ suc (length bs) → f (take m (b ∷ bs)) ≡ false
none_taken f b bs nil h zero le = nil
none_taken f b bs nil h (suc m) le = h m (omega (arith, le))

later_taken : (f : List ℕ → Bool) (b : ℕ) (bs : List ℕ) (n : ℕ) → ((m : ℕ) → suc n ≤ m → m ≤ length bs → f (b ∷ take m bs) ≡ false) → (m : ℕ) → suc (n + 1) ≤ m → m ≤ suc (length bs) → f (take m (b ∷ bs)) ≡ false
later_taken f b bs n h zero lt le = absurd (omega (arith, lt))
later_taken f b bs n h (suc m) lt le = h m (omega (arith, lt)) (omega (arith, le))

pub cons_longest : (f : List ℕ → Bool) (b : ℕ) (bs : List ℕ) (o : Option ℕ) → f [] ≡ false → Longest (λ t. f (b ∷ t)) bs o → Longest f (b ∷ bs) (one_more o)
cons_longest f b bs None nil l = λ m le. none_taken f b bs nil l m (omega (arith, le))
cons_longest f b bs (Some n) nil l =
    let e : suc n ≡ n + 1 = omega arith in
    (omega (arith, l.0), subst (λ k. f (take k (b ∷ bs)) ≡ true) e l.1, λ m lt le. later_taken f b bs n l.2 m lt (omega (arith, le)))

-- ---- kinds

pub kind_best : (f : List ℕ → Bool) (kind : TokenKind) (bs : List ℕ) (o : Option ℕ) → Longest f bs o → Best (λ t. when (f t) kind) bs (of_kind kind o)
kind_best f kind bs None l = λ m le. ap (λ b. when b kind) (l m le)
kind_best f kind bs (Some n) l = (l.0, ap (λ b. when b kind) l.1, λ m lt le. ap (λ b. when b kind) (l.2 m lt le))

-- nothing has a kind
pub none_best : (bs : List ℕ) → Best (λ t. None) bs None
none_best bs = λ m le. refl

-- ---- one test, or else another

-- what the one finds is no longer than what the other does
abbrev pub IsShorter : Option (TokenKind × ℕ) → Option (TokenKind × ℕ) → Type 0
IsShorter None p = Unit {0}
IsShorter (Some x) None = Unit {0}
IsShorter (Some x) (Some y) = x.1 < y.1

-- the second test decides where the first finds nothing
pub second_best : (g h : List ℕ → Option TokenKind) (bs : List ℕ) (o p : Option (TokenKind × ℕ)) → Best g bs o → Best h bs p → IsShorter o p → Best (λ t. first_of (g t) (h t)) bs (or_else p o)
second_best g h bs None None G H s = λ m le. ap (λ k. first_of k (h (take m bs))) (G m le) ∙ H m le
second_best g h bs (Some x) None G H s =
    (G.0, ap (λ k. first_of k (h (take x.1 bs))) G.1, λ m lt le. ap (λ k. first_of k (h (take m bs))) (G.2 m lt le) ∙ H m le)
second_best g h bs None (Some y) G H s =
    (H.0, ap (λ k. first_of k (h (take y.1 bs))) (G y.1 H.0) ∙ H.1, λ m lt le. ap (λ k. first_of k (h (take m bs))) (G m le) ∙ H.2 m lt le)
second_best g h bs (Some x) (Some y) G H s =
    (H.0, ap (λ k. first_of k (h (take y.1 bs))) (G.2 y.1 s H.0) ∙ H.1, λ m lt le. ap (λ k. first_of k (h (take m bs))) (G.2 m (omega (arith, lt, s)) le) ∙ H.2 m lt le)

-- the first test decides where it finds something
pub first_best : (g h : List ℕ → Option TokenKind) (bs : List ℕ) (o p : Option (TokenKind × ℕ)) → Best g bs o → Best h bs p → IsShorter p o → Best (λ t. first_of (g t) (h t)) bs (or_else o p)
first_best g h bs None p G H s = subst_none p H
  where
    subst_none : (p : Option (TokenKind × ℕ)) → Best h bs p → Best (λ t. first_of (g t) (h t)) bs p
    subst_none None H = λ m le. ap (λ k. first_of k (h (take m bs))) (G m le) ∙ H m le
    subst_none (Some y) H = (H.0, ap (λ k. first_of k (h (take y.1 bs))) (G y.1 H.0) ∙ H.1, λ m lt le. ap (λ k. first_of k (h (take m bs))) (G m le) ∙ H.2 m lt le)
first_best g h bs (Some x) None G H s =
    (G.0, ap (λ k. first_of k (h (take x.1 bs))) G.1, λ m lt le. ap (λ k. first_of k (h (take m bs))) (G.2 m lt le) ∙ H m le)
first_best g h bs (Some x) (Some y) G H s =
    (G.0, ap (λ k. first_of k (h (take x.1 bs))) G.1, λ m lt le. ap (λ k. first_of k (h (take m bs))) (G.2 m lt le) ∙ H.2 m (omega (arith, lt, s)) le)
