-- What was heard with more words, and where words stop to fit.
use Rattle.std.proofs.Common.{◌≡◌, ◌<◌, ◌≤◌, ◌+◌, ℕ, suc, List, [], ◌∷◌, ◌++◌, length, take, Option, Some, None, refl, ap, ◌∙◌, arith}
use Rattle.chop_words.specs.declared.words.Heard.{Heard}
use Rattle.chop_words.specs.Words.{heard, then_heard, counted, fitting, asked_of, asked_with, nothing_heard, wanted}

pub heard-none : (words : List (List ℕ)) → heard None words ≡ None
heard-none [] = refl
heard-none (w ∷ ws) = heard-none ws

pub heard-append : (s : Option Heard) (words more : List (List ℕ)) → heard s (words ++ more) ≡ heard (heard s words) more
heard-append s [] more = refl
heard-append s (w ∷ ws) more = heard-append (then_heard s w) ws more

-- nothing goes on behind words that don't fit
pub wanted-none : (words more : List (List ℕ)) → heard (Some nothing_heard) words ≡ None → wanted (words ++ more) ≡ None
wanted-none words more none =
    ap (λ (h : Option Heard). asked_with (asked_of h) (words ++ more)) (heard-append (Some nothing_heard) words more ∙ (ap (λ (h : Option Heard). heard h more) none ∙ heard-none more))

take-more : (n : ℕ) (w : List ℕ) (ws : List (List ℕ)) → take (n + 1) (w ∷ ws) ≡ w ∷ take n ws
take-more n w ws = let e : n + 1 ≡ suc n = omega arith in ap (λ (k : ℕ). take k (w ∷ ws)) e

counted-within : (o : Option Heard) (n m : ℕ) → n ≤ m → counted o n ≤ suc m
counted-within None n m within = omega arith
counted-within (Some h) n m within = omega (arith, within)

pub fitting-within : (s : Option Heard) (words : List (List ℕ)) → fitting s words ≤ length words
fitting-within s [] = omega arith
fitting-within s (w ∷ ws) = counted-within (then_heard s w) (fitting (then_heard s w) ws) (length ws) (fitting-within (then_heard s w) ws)

-- the words that fit are heard
abbrev HearsFitting : Option Heard → List (List ℕ) → Type 0
HearsFitting s words = (h : Heard) → s ≡ Some h → (more : Heard) × (heard s (take (fitting s words) words) ≡ Some more)

one-more-heard : (s : Option Heard) (w : List ℕ) (ws : List (List ℕ)) (o : Option Heard) → then_heard s w ≡ o → HearsFitting (then_heard s w) ws →
    (h : Heard) → s ≡ Some h → (more : Heard) × (heard s (take (counted o (fitting (then_heard s w) ws)) (w ∷ ws)) ≡ Some more)
one-more-heard s w ws None is behind h some = (h, some)
one-more-heard s w ws (Some h') is behind h some =
    let found = behind h' is in (found.0, ap (λ (ts : List (List ℕ)). heard s ts) (take-more (fitting (then_heard s w) ws) w ws) ∙ found.1)

pub hears-fitting : (s : Option Heard) (words : List (List ℕ)) → HearsFitting s words
hears-fitting s [] h some = (h, some)
hears-fitting s (w ∷ ws) h some = one-more-heard s w ws (then_heard s w) refl (hears-fitting (then_heard s w) ws) h some

-- and with one word more nothing is heard
abbrev EndsThere : Option Heard → List (List ℕ) → Type 0
EndsThere s words = fitting s words < length words → heard s (take (fitting s words + 1) words) ≡ None

one-more-ends : (s : Option Heard) (w : List ℕ) (ws : List (List ℕ)) (o : Option Heard) → then_heard s w ≡ o → EndsThere (then_heard s w) ws →
    counted o (fitting (then_heard s w) ws) < length (w ∷ ws) → heard s (take (counted o (fitting (then_heard s w) ws) + 1) (w ∷ ws)) ≡ None
one-more-ends s w ws None is behind before = is
one-more-ends s w ws (Some h) is behind before =
    ap (λ (ts : List (List ℕ)). heard s ts) (take-more (fitting (then_heard s w) ws + 1) w ws) ∙ behind (omega (arith, before))

pub ends-there : (s : Option Heard) (words : List (List ℕ)) → EndsThere s words
ends-there s [] before = absurd (omega (arith, before))
ends-there s (w ∷ ws) before = one-more-ends s w ws (then_heard s w) refl (ends-there (then_heard s w) ws) before
