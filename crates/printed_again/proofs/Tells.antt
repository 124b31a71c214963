-- What a derivation tells of its value: one lemma a combinator.
use Rattle.std.proofs.Common.{◌≡◌, true, List, [], ◌∷◌, ◌++◌, ◌⊎◌, Option, Some, inl, inr, subst}
use Rattle.std.specs.List.{AllByRecursion}
use Rattle.phrases.specs.Piece.{Piece}
use Rattle.phrases.specs.Phrase.{Phrase, one, chain, from_derive, many}
use Rattle.printed_again.specs.Again.{are_bytes, HaveBytes}

-- whatever is derived from tokens made of bytes
pub record Tells {A : Type 0} (derives : A → List Piece → Type 0) (Fact : A → Type 0) : Type 0 where
  pub told : (a : A) (w : List Piece) → HaveBytes w → derives a w → Fact a

parts : (front back : List Piece) → HaveBytes (front ++ back) → HaveBytes front × HaveBytes back
parts [] back h = (tt, h)
parts (p ∷ front) back h = let r = parts front back h.1 in ((h.0, r.0), r.1)

pub parts_of : (w front back : List Piece) → w ≡ front ++ back → HaveBytes w → HaveBytes front × HaveBytes back
parts_of w front back e h = parts front back (subst HaveBytes e h)

pub step : {A B : Type 0} {first : A → List Piece → Type 0} {next : A → B → List Piece → Type 0} {Fact : A → Type 0} {Result : B → Type 0} → Tells first Fact → ((a : A) → Fact a → Tells (next a) Result) → Tells (chain first next) Result
step P Q = record { told = λ b w h d. let s = parts_of w d.1 d.2 d.3 h in (Q d.0 (P.told d.0 d.1 s.0 d.4)).told b d.2 s.1 d.5 }

-- what stands first tells nothing
pub over : {A B : Type 0} {first : A → List Piece → Type 0} {next : A → B → List Piece → Type 0} {Result : B → Type 0} → ((a : A) → Tells (next a) Result) → Tells (chain first next) Result
over Q = record { told = λ b w h d. let s = parts_of w d.1 d.2 d.3 h in (Q d.0).told b d.2 s.1 d.5 }

pub made : {A : Type 0} {Result : A → Type 0} (a : A) → Result a → Tells (λ b w. (w ≡ []) × (a ≡ b)) Result
made {Result = Result} a r = record { told = λ b w h d. subst Result d.1 r }

pub or : {A : Type 0} {d e : A → List Piece → Type 0} {Result : A → Type 0} → Tells d Result → Tells e Result → Tells (λ a w. d a w ⊎ e a w) Result
or {A = A} {d = d} {e = e} {Result = Result} P Q = record { told = λ a w h x. go a w h x }
  where
    go : (a : A) (w : List Piece) → HaveBytes w → d a w ⊎ e a w → Result a
    go a w h (inl x) = P.told a w h x
    go a w h (inr x) = Q.told a w h x

-- what follows from it
pub told_as : {A : Type 0} {derives : A → List Piece → Type 0} {Fact Result : A → Type 0} → ((a : A) → Fact a → Result a) → Tells derives Fact → Tells derives Result
told_as f P = record { told = λ a w h d. f a (P.told a w h d) }

pub token_tells : {A : Type 0} {Result : A → Type 0} (value : Piece → Option A) → ((p : Piece) (a : A) → are_bytes p.text ≡ true → value p ≡ Some a → Result a) → Tells (one value).derives Result
token_tells value f = record { told = λ a w h d. f d.0 a (subst HaveBytes d.1 h).0 d.2 }

pub each_from : {S A : Type 0} (item : S → Phrase A) (next : S → A → S) {Fact : A → Type 0} → ((u : S) → Tells (item u).derives Fact) → (u : S) → Tells (from_derive item next u) (AllByRecursion Fact)
each_from {S} {A} item next {Fact} P u = record { told = λ vs w h d. go u vs w h d }
  where
    go : (u : S) (vs : List A) (w : List Piece) → HaveBytes w → from_derive item next u vs w → AllByRecursion Fact vs
    go u [] w h d = tt
    go u (a ∷ vs) w h d = let s = parts_of w d.0 d.1 d.2 h in ((P u).told a d.0 s.0 d.3, go (next u a) vs d.1 s.1 d.4)

pub each : {A : Type 0} (p : Phrase A) {Fact : A → Type 0} → Tells p.derives Fact → Tells (many [] p).derives (AllByRecursion Fact)
each p P = each_from (λ (_ : Unit {0}). p) (λ _ _. tt) (λ _. P) tt
