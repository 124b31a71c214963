-- Phrases of a grammar: which tokens spell which value, which token is named as unsupported, and how a reader finds the value
-- with one token in sight. A grammar is written once, in these combinators.
use Rattle.std.specs.Prelude.{◌≡◌, ℕ, zero, suc, Bool, true, false, if◌then◌else◌, Option, Some, None, List, [], ◌∷◌, ◌++◌, length, ◌⊎◌}
use Rattle.phrases.specs.Piece.{Piece, Class, among, starts}

-- what reading gives: a value and the tokens after it, or the tokens from the first one that is refused, and whether
-- that one is named as unsupported
pub data Outcome (A : Type 0) : Type 0 where
  got : A → List Piece → Outcome A
  refused : Bool → List Piece → Outcome A

pub record Phrase (A : Type 0) : Type 1 where
  -- the tokens spell the value
  pub derives : A → List Piece → Type 0
  -- after these tokens this one is named as unsupported
  pub names : List Piece → Piece → Type 0
  -- what a reader gives
  pub reads : List Piece → Outcome A

abbrev pub and_then : {A B : Type 0} → Outcome A → (A → List Piece → Outcome B) → Outcome B
and_then (got a rest) f = f a rest
and_then (refused n rest) f = refused n rest

-- ---- one token that has a value

abbrev pub taken : {A : Type 0} → Option A → Piece → List Piece → Outcome A
taken (Some a) p ps = got a ps
taken None p ps = refused false (p ∷ ps)

abbrev pub one_reads : {A : Type 0} → (Piece → Option A) → List Piece → Outcome A
one_reads value [] = refused false []
one_reads value (p ∷ ps) = taken (value p) p ps

abbrev pub one : {A : Type 0} → (Piece → Option A) → Phrase A
one value = record {
  derives = λ a w. (p : Piece) × (w ≡ p ∷ []) × (value p ≡ Some a);
  names = λ before t. ⊥;
  reads = one_reads value;
}

-- a token of the classes, whichever
abbrev pub skip : List Class → Phrase (Unit {0})
skip cs = one (λ p. if among cs p then Some tt else None)

-- the place of a token of the classes
abbrev pub place : List Class → Phrase ℕ
place cs = one (λ p. if among cs p then Some p.at else None)

-- ---- nothing

abbrev pub done : {A : Type 0} → A → Phrase A
done a = record { derives = λ b w. (w ≡ []) × (a ≡ b); names = λ before t. ⊥; reads = λ ts. got a ts }

-- ---- one after the other

-- a front that spells a, and after it what a lets follow
abbrev pub chain : {A B : Type 0} → (A → List Piece → Type 0) → (A → B → List Piece → Type 0) → B → List Piece → Type 0
chain {A = A} first next b w = (a : A) × (front : List Piece) × (back : List Piece) × (w ≡ front ++ back) × first a front × next a b back

-- the first names it, or what follows an a does
abbrev pub chain_names : {A : Type 0} → (A → List Piece → Type 0) → (List Piece → Piece → Type 0) → (A → List Piece → Piece → Type 0) → List Piece → Piece → Type 0
chain_names {A = A} first named next before t = named before t ⊎ ((a : A) × (front : List Piece) × (back : List Piece) × (before ≡ front ++ back) × first a front × next a back t)

infixl 10 ◌>>=◌
abbrev pub ◌>>=◌ : {A B : Type 0} → Phrase A → (A → Phrase B) → Phrase B
p >>= f = record {
  derives = chain p.derives (λ a. (f a).derives);
  names = chain_names p.derives p.names (λ a. (f a).names);
  reads = λ ts. and_then (p.reads ts) (λ a rest. (f a).reads rest);
}

infixl 10 ◌>>◌
abbrev pub ◌>>◌ : {A B : Type 0} → Phrase A → Phrase B → Phrase B
p >> q = p >>= λ _. q

-- ---- either; the first is read where a token of the classes comes next

abbrev pub either : {A : Type 0} → List Class → Phrase A → Phrase A → Phrase A
either cs p q = record {
  derives = λ a w. p.derives a w ⊎ q.derives a w;
  names = λ before t. p.names before t ⊎ q.names before t;
  reads = λ ts. if starts cs ts then p.reads ts else q.reads ts;
}

-- ---- any number, as long as a token of the classes comes next; what may stand there can depend on what stood before

abbrev pub from_derive : {S A : Type 0} → (S → Phrase A) → (S → A → S) → S → List A → List Piece → Type 0
from_derive item next u [] w = w ≡ []
from_derive item next u (x ∷ xs) w = (front : List Piece) × (back : List Piece) × (w ≡ front ++ back) × (item u).derives x front × from_derive item next (next u x) xs back

-- where the items lead
abbrev pub led : {S A : Type 0} → (S → A → S) → S → List A → S
led next u [] = u
led next u (x ∷ xs) = led next (next u x) xs

-- after some of them, the next names it
abbrev pub from_name : {S A : Type 0} → (S → Phrase A) → (S → A → S) → S → List Piece → Piece → Type 0
from_name {A = A} item next u before t = (xs : List A) × (front : List Piece) × (back : List Piece) × (before ≡ front ++ back) × from_derive item next u xs front × (item (led next u xs)).names back t

-- at most so many
abbrev pub from_reads : {S A : Type 0} → List Class → (S → Phrase A) → (S → A → S) → ℕ → S → List Piece → Outcome (List A)
from_reads first item next zero u ts = got [] ts
from_reads first item next (suc n) u ts =
    if starts first ts then and_then ((item u).reads ts) (λ x rest. and_then (from_reads first item next n (next u x) rest) (λ xs last. got (x ∷ xs) last)) else got [] ts

abbrev pub many_from : {S A : Type 0} → List Class → (S → Phrase A) → (S → A → S) → S → Phrase (List A)
many_from first item next u = record {
  derives = from_derive item next u;
  names = from_name item next u;
  reads = λ ts. from_reads first item next (length ts) u ts;
}

-- any number of the same
abbrev pub many : {A : Type 0} → List Class → Phrase A → Phrase (List A)
many cs p = many_from cs (λ (_ : Unit {0}). p) (λ _ _. tt) tt

-- any number, whose values don't matter
abbrev pub skip_many : {A : Type 0} → List Class → Phrase A → Phrase (Unit {0})
skip_many cs p = many cs p >> done tt

-- ---- the same, but the classes are named as unsupported where it begins

abbrev pub but : {A : Type 0} → List Class → Phrase A → Phrase A
but cs p = record {
  derives = p.derives;
  names = λ before t. (before ≡ []) × (among cs t ≡ true) ⊎ p.names before t;
  reads = λ ts. if starts cs ts then refused true ts else p.reads ts;
}
