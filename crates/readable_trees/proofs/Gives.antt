-- What holds of each value that a phrase derives: one lemma a combinator.
use Rattle.std.proofs.Common.{◌≡◌, Bool, true, false, cond, ◌&&◌, List, [], ◌∷◌, ◌⊎◌, Option, Some, None, inl, inr, refl, sym, subst}
use Rattle.std.specs.Prelude.{ℕ, map, codes}
use Rattle.std.specs.List.{AllByRecursion, list_all}
use Rattle.phrases.specs.Piece.{Piece}
use Rattle.phrases.specs.Phrase.{Phrase, one, chain, from_derive, many, ◌>>◌}
use Rattle.ir_grammar.specs.Types.{skip_mark, behind_commas, listed}

pub record Gives {A : Type 0} (derives : A → List Piece → Type 0) (Fact : A → Type 0) : Type 0 where
  pub told : (a : A) (w : List Piece) → derives a w → Fact a

pub step : {A B : Type 0} {first : A → List Piece → Type 0} {next : A → B → List Piece → Type 0} {Fact : A → Type 0} {Result : B → Type 0} → Gives first Fact → ((a : A) → Fact a → Gives (next a) Result) → Gives (chain first next) Result
step P Q = record { told = λ b w d. (Q d.0 (P.told d.0 d.1 d.4)).told b d.2 d.5 }

-- what stands first tells nothing
pub over : {A B : Type 0} {first : A → List Piece → Type 0} {next : A → B → List Piece → Type 0} {Result : B → Type 0} → ((a : A) → Gives (next a) Result) → Gives (chain first next) Result
over Q = record { told = λ b w d. (Q d.0).told b d.2 d.5 }

pub made : {A : Type 0} {Result : A → Type 0} (a : A) → Result a → Gives (λ b w. (w ≡ []) × (a ≡ b)) Result
made {Result = Result} a r = record { told = λ b w d. subst Result d.1 r }

pub or : {A : Type 0} {d e : A → List Piece → Type 0} {Result : A → Type 0} → Gives d Result → Gives e Result → Gives (λ a w. d a w ⊎ e a w) Result
or {A = A} {d = d} {e = e} {Result = Result} P Q = record { told = λ a w x. go a w x }
  where
    go : (a : A) (w : List Piece) → d a w ⊎ e a w → Result a
    go a w (inl x) = P.told a w x
    go a w (inr x) = Q.told a w x

-- what follows from it
pub told_as : {A : Type 0} {derives : A → List Piece → Type 0} {Fact Result : A → Type 0} → ((a : A) → Fact a → Result a) → Gives derives Fact → Gives derives Result
told_as f P = record { told = λ a w d. f a (P.told a w d) }

pub token : {A : Type 0} {Result : A → Type 0} (value : Piece → Option A) → ((p : Piece) (a : A) → value p ≡ Some a → Result a) → Gives (one value).derives Result
token value f = record { told = λ a w d. f d.0 a d.2 }

pub each_from : {S A : Type 0} (item : S → Phrase A) (next : S → A → S) {Fact : A → Type 0} → ((u : S) → Gives (item u).derives Fact) → (u : S) → Gives (from_derive item next u) (AllByRecursion Fact)
each_from {S} {A} item next {Fact} P u = record { told = λ vs w d. go u vs w d }
  where
    go : (u : S) (vs : List A) (w : List Piece) → from_derive item next u vs w → AllByRecursion Fact vs
    go u [] w d = tt
    go u (a ∷ vs) w d = ((P u).told a d.0 d.3, go (next u a) vs d.1 d.4)

pub each : {A : Type 0} (p : Phrase A) {Fact : A → Type 0} → Gives p.derives Fact → Gives (many [] p).derives (AllByRecursion Fact)
each p P = each_from (λ (_ : Unit {0}). p) (λ _ _. tt) (λ _. P) tt

pub commas : {A : Type 0} (item : Phrase A) {Fact : A → Type 0} → Gives item.derives Fact → Gives (behind_commas item).derives (AllByRecursion Fact)
commas item P = each (skip_mark (codes ",") >> item) (over (λ _. P))

pub between : {A : Type 0} (closing : List ℕ) (item : Phrase A) {Fact : A → Type 0} → Gives item.derives Fact → Gives (listed closing item).derives (AllByRecursion Fact)
between closing item P = or (over (λ _. made [] tt)) (step P (λ x h. step (commas item P) (λ xs hs. over (λ _. made (x ∷ xs) (h, hs)))))

-- ---- tests

pub both : {a b : Bool} → a ≡ true → b ≡ true → (a && b) ≡ true
both {a = a} {b = b} e f = subst (λ x. (x && b) ≡ true) (sym e) f

pub all_true : {A : Type 0} (test : A → Bool) (xs : List A) → AllByRecursion (λ x. test x ≡ true) xs → list_all test xs ≡ true
all_true test [] h = refl
all_true test (x ∷ xs) h = both h.0 (all_true test xs h.1)

pub all_mapped : {A : Type 0} (test : A → Bool) (xs : List A) → AllByRecursion (λ x. test x ≡ true) xs → list_all (λ b. b) (map test xs) ≡ true
all_mapped test [] h = refl
all_mapped test (x ∷ xs) h = both h.0 (all_mapped test xs h.1)

-- what a test that passed gives
pub when_some : {A : Type 0} (b : Bool) (x y : A) → cond b (Some x) None ≡ Some y → (b ≡ true) × (x ≡ y)
when_some true x y e = (refl, cc)
when_some false x y e = absurd cc
