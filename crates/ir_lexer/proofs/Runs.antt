-- Fronts of a text, and the runs of bytes in them.
use Rattle.std.proofs.Common.{◌≡◌, ℕ, zero, suc, ◌+◌, ◌-◌, ◌≤◌, ◌<◌, Bool, true, false, cond, List, [], ◌∷◌, length, take, drop, eqb, refl, sym, ap, subst, ◌∙◌, arith, length-take, length-drop}
use Rattle.std.proofs.lemmas.Bool.{eqb-true, eq-eqb, and_parts, and_from}
use Rattle.ir_lexer.specs.Forms.{same, runs_to}
use Rattle.ir_lexer.specs.Scanning.{run, begins}

pub same_is : (s t : List ℕ) → same s t ≡ true → s ≡ t
same_is [] [] e = refl
same_is [] (y ∷ ys) e = absurd cc
same_is (x ∷ xs) [] e = absurd cc
same_is (x ∷ xs) (y ∷ ys) e =
    let p = and_parts (eqb x y) (same xs ys) e in
    let h = eqb-true x y p.0 in
    let t = same_is xs ys p.1 in
    cc

pub same_self : (s : List ℕ) → same s s ≡ true
same_self [] = refl
same_self (x ∷ xs) = and_from (eqb x x) (same xs xs) (eq-eqb x x refl) (same_self xs)

pub run_within : (f : ℕ → Bool) (bs : List ℕ) → run f bs ≤ length bs
run_within f [] = omega arith
run_within f (b ∷ bs) = go (run_within f bs) (f b)
  where
    go : run f bs ≤ length bs → (x : Bool) → cond x (suc (run f bs)) 0 ≤ suc (length bs)
    go h true = omega (arith, h)
    go h false = omega arith

-- a wider class runs as far at least
pub run_wider : (f g : ℕ → Bool) → ((b : ℕ) → f b ≡ true → g b ≡ true) → (bs : List ℕ) → run f bs ≤ run g bs
run_wider f g within [] = omega arith
run_wider f g within (b ∷ bs) = go (run_wider f g within bs) (f b) (g b) (within b)
  where
    go : run f bs ≤ run g bs → (x y : Bool) → (x ≡ true → y ≡ true) → cond x (suc (run f bs)) 0 ≤ cond y (suc (run g bs)) 0
    go h true true w = omega (arith, h)
    go h true false w = absurd (let e = w refl in cc)
    go h false y w = omega arith

-- ---- a run alone

pub runs_short : (f : ℕ → Bool) (bs : List ℕ) (n : ℕ) → n ≤ run f bs → runs_to f [] (take n bs) ≡ true
runs_short f [] zero le = refl
runs_short f [] (suc n) le = refl
runs_short f (b ∷ bs) zero le = refl
runs_short f (b ∷ bs) (suc n) le = go (λ h. runs_short f bs n h) (f b) le
  where
    go : (n ≤ run f bs → runs_to f [] (take n bs) ≡ true) → (x : Bool) → suc n ≤ cond x (suc (run f bs)) 0 → cond x (runs_to f [] (take n bs)) (same [] (b ∷ take n bs)) ≡ true
    go later true h = later (omega (arith, h))
    go later false h = absurd (omega (arith, h))

pub runs_long : (f : ℕ → Bool) (bs : List ℕ) (n : ℕ) → suc (run f bs) ≤ n → n ≤ length bs → runs_to f [] (take n bs) ≡ false
runs_long f [] n lt le = absurd (omega (arith, lt, le))
runs_long f (b ∷ bs) zero lt le = absurd (omega (arith, lt))
runs_long f (b ∷ bs) (suc n) lt le = go (λ h. runs_long f bs n h (omega (arith, le))) (f b) lt
  where
    go : (suc (run f bs) ≤ n → runs_to f [] (take n bs) ≡ false) → (x : Bool) → suc (cond x (suc (run f bs)) 0) ≤ suc n → cond x (runs_to f [] (take n bs)) (same [] (b ∷ take n bs)) ≡ false
    go later true h = later (omega (arith, h))
    go later false h = refl

-- ---- a run with an ending behind it

module _ (f : ℕ → Bool) (c : ℕ) (more : List ℕ) where
  abbrev ending : List ℕ
  ending = c ∷ more

  pub ends_there : f c ≡ false → (bs : List ℕ) (n : ℕ) → n ≡ run f bs + length ending → begins ending (drop (run f bs) bs) ≡ true → runs_to f ending (take n bs) ≡ true
  ends_there stop [] n e h = absurd cc
  ends_there stop (b ∷ bs) zero e h = absurd (omega (arith, e))
  ends_there stop (b ∷ bs) (suc n) e h = go (λ k g. ends_there stop bs n k g) (f b) refl e h
    where
      same_end : (k : ℕ) → suc k ≡ length ending → begins ending (b ∷ bs) ≡ true → same ending (b ∷ take k bs) ≡ true
      same_end k q g = let p : k ≡ length more = omega (arith, q) in subst (λ j. same ending (b ∷ take j bs) ≡ true) (sym p) g

      go : (n ≡ run f bs + length ending → begins ending (drop (run f bs) bs) ≡ true → runs_to f ending (take n bs) ≡ true) → (x : Bool) → f b ≡ x → suc n ≡ cond x (suc (run f bs)) 0 + length ending
          → begins ending (drop (cond x (suc (run f bs)) 0) (b ∷ bs)) ≡ true → cond x (runs_to f ending (take n bs)) (same ending (b ∷ take n bs)) ≡ true
      go later true q k g = later (omega (arith, k)) g
      go later false q k g = same_end n (omega (arith, k)) g

  -- nowhere else
  pub ends_only : (bs : List ℕ) (n : ℕ) → n ≤ length bs → runs_to f ending (take n bs) ≡ true → (begins ending (drop (run f bs) bs) ≡ true) × (n ≡ run f bs + length ending)
  ends_only [] zero le h = absurd cc
  ends_only [] (suc n) le h = absurd (omega (arith, le))
  ends_only (b ∷ bs) zero le h = absurd cc
  ends_only (b ∷ bs) (suc n) le h = go (λ g. ends_only bs n (omega (arith, le)) g) (f b) h
    where
      here : same ending (b ∷ take n bs) ≡ true → (begins ending (b ∷ bs) ≡ true) × (suc n ≡ 0 + length ending)
      here g =
          let e : c ∷ more ≡ b ∷ take n bs = same_is ending (b ∷ take n bs) g in
          let size : n ≡ length more = omega (arith, ap length e, length-take n bs, le) in
          (subst (λ k. same ending (b ∷ take k bs) ≡ true) size g, omega (arith, size))

      go : (runs_to f ending (take n bs) ≡ true → (begins ending (drop (run f bs) bs) ≡ true) × (n ≡ run f bs + length ending)) → (x : Bool) → cond x (runs_to f ending (take n bs)) (same ending (b ∷ take n bs)) ≡ true
          → (begins ending (drop (cond x (suc (run f bs)) 0) (b ∷ bs)) ≡ true) × (suc n ≡ cond x (suc (run f bs)) 0 + length ending)
      go later true g = let r = later g in (r.0, omega (arith, r.1))
      go later false g = here g

-- a text doesn't stand in front of fewer bytes
pub too_short : (text bs : List ℕ) → length bs < length text → begins text bs ≡ false
too_short text bs lt = go (begins text bs) refl
  where
    go : (x : Bool) → begins text bs ≡ x → x ≡ false
    go true e = absurd (omega (arith, lt, ap length (same_is text (take (length text) bs) e), length-take (length text) bs))
    go false e = refl

-- an ending that stands behind a run lies within
pub ending_within : (f : ℕ → Bool) (ending bs : List ℕ) → begins ending (drop (run f bs) bs) ≡ true → run f bs + length ending ≤ length bs
ending_within f ending bs h =
    omega (arith, ap length (same_is ending (take (length ending) (drop (run f bs) bs)) h), length-take (length ending) (drop (run f bs) bs), length-drop (run f bs) bs, run_within f bs)

all_of_it : (xs : List ℕ) (n : ℕ) → length xs ≤ n → take n xs ≡ xs
all_of_it [] zero le = refl
all_of_it [] (suc n) le = refl
all_of_it (x ∷ xs) zero le = absurd (omega (arith, le))
all_of_it (x ∷ xs) (suc n) le = ap (λ r. x ∷ r) (all_of_it xs n (omega (arith, le)))

-- a slice to the end is what is left
pub to_the_end_is : (bs : List ℕ) (at : ℕ) → take (length bs - at) (drop at bs) ≡ drop at bs
to_the_end_is bs at = all_of_it (drop at bs) (length bs - at) (omega (arith, length-drop at bs))

pub ending_in_slice : (f : ℕ → Bool) (ending bs : List ℕ) (len : ℕ) → len ≡ run f bs → begins ending (take (length bs - len) (drop len bs)) ≡ true → len + length ending ≤ length bs
ending_in_slice f ending bs len e h =
    subst (λ n. n + length ending ≤ length bs) (sym e) (ending_within f ending bs (subst (λ n. begins ending (drop n bs) ≡ true) e (ap (begins ending) (sym (to_the_end_is bs len)) ∙ h)))
