-- One lemma a combinator, with what can be found left out: the proof that a production is exact mirrors the production, and each
-- side condition is that classes of tokens are apart, which computes.
use Rattle.std.proofs.Common.{◌≡◌, ℕ, zero, suc, Bool, true, false, cond, ◌||◌, ◌&&◌, List, [], ◌∷◌, ◌++◌, Some, None, refl, sym, ap, ◌∙◌, eq-eqb}
use Rattle.phrases.specs.Piece.{Piece, Class, matches, among, starts, all_apart, same_text}
use Rattle.phrases.specs.Phrase.{Phrase, skip, place, ◌>>=◌, either, many_from, many, skip_many, but}
use Rattle.phrases.specs.Exact.{Exact}
use Rattle.phrases.proofs.Classes.{or_right, among-append}
use Rattle.phrases.proofs.Laws.{done_exact, one_exact, then_exact, when}
use Rattle.phrases.proofs.More.{either_exact, but_exact}
use Rattle.phrases.proofs.Repeats.{from_exact}

pub seq : {A B : Type 0} {p : Phrase A} {f : A → Phrase B} {first : List Class} {empty : Bool} {more bad second : List Class} {ends : Bool} {on worse : List Class}
    → Exact p first empty more bad → ((a : A) → Exact (f a) second ends on worse) → all_apart more second ≡ true → all_apart more worse ≡ true
    → Exact (p >>= f) (first ++ when empty second) (empty && ends) (on ++ when ends more) (bad ++ when empty worse)
seq P Q parted named = then_exact _ _ _ _ _ _ _ _ _ _ P Q parted named

pub alt : {A : Type 0} {first : List Class} {p q : Phrase A} {second : List Class} {empty : Bool} {more on worse : List Class} → Exact p first false more [] → Exact q second empty on worse
    → all_apart first second ≡ true → all_apart first worse ≡ true → Exact (either first p q) (first ++ second) empty (more ++ (on ++ when empty first)) worse
alt P Q parted named = either_exact _ _ _ _ _ _ _ _ P Q parted named

pub rep_from : {S A : Type 0} {first more : List Class} {item : S → Phrase A} {next : S → A → S} → ((u : S) → Exact (item u) first false more []) → all_apart more first ≡ true → (u : S)
    → Exact (many_from first item next u) first true (more ++ first) []
rep_from P parted u = from_exact _ _ _ _ P parted u

pub rep : {A : Type 0} {first more : List Class} {p : Phrase A} → Exact p first false more [] → all_apart more first ≡ true → Exact (many first p) first true (more ++ first) []
rep {first = first} {more = more} {p = p} P parted = from_exact first more (λ (_ : Unit {0}). p) (λ _ _. tt) (λ _. P) parted tt

pub skip_rep : {A : Type 0} {first more : List Class} {p : Phrase A} → Exact p first false more [] → all_apart more first ≡ true → all_apart (more ++ first) [] ≡ true → Exact (skip_many first p) (first ++ []) true (more ++ first) []
skip_rep P parted nothing = seq (rep P parted) (λ _. done_exact tt) nothing nothing

pub naming : {A : Type 0} {first more : List Class} {p : Phrase A} (cs : List Class) → Exact p first false more [] → all_apart cs first ≡ true → Exact (but cs p) first false more cs
naming cs P parted = but_exact _ _ _ _ P parted

-- ---- more tokens may be allowed for

-- the class at a position
abbrev pub nth : ℕ → List Class → List Class
nth i [] = []
nth zero (c ∷ cs) = c ∷ []
nth (suc i) (c ∷ cs) = nth i cs

-- the classes at the positions
abbrev pub picked : List ℕ → List Class → List Class
picked [] cs = []
picked (i ∷ is) cs = nth i cs ++ picked is cs

nth_within : (i : ℕ) (cs : List Class) (t : Piece) → among (nth i cs) t ≡ true → among cs t ≡ true
nth_within i [] t h = h
nth_within zero (c ∷ cs) t h = go (matches c t) h
  where
    go : (b : Bool) → (b || false) ≡ true → (b || among cs t) ≡ true
    go true e = refl
    go false e = absurd cc
nth_within (suc i) (c ∷ cs) t h = or_right (matches c t) (among cs t) (nth_within i cs t h)

pub picked_within : (is : List ℕ) (cs : List Class) (t : Piece) → among (picked is cs) t ≡ true → among cs t ≡ true
picked_within [] cs t h = absurd cc
picked_within (i ∷ is) cs t h = go (λ q. picked_within is cs t q) (among (nth i cs) t) refl (sym (among-append (nth i cs) (picked is cs) t) ∙ h)
  where
    go : (among (picked is cs) t ≡ true → among cs t ≡ true) → (b : Bool) → among (nth i cs) t ≡ b → (b || among (picked is cs) t) ≡ true → among cs t ≡ true
    go later true e q = nth_within i cs t e
    go later false e q = later q

none_starts : (more on : List Class) → ((t : Piece) → among more t ≡ true → among on t ≡ true) → (ts : List Piece) → starts on ts ≡ false → starts more ts ≡ false
none_starts more on within [] e = refl
none_starts more on within (t ∷ ts) e = go (among more t) refl
  where
    go : (b : Bool) → among more t ≡ b → b ≡ false
    go false q = refl
    go true q = let h = within t q in absurd cc

pub wider_by : {A : Type 0} {p : Phrase A} {first : List Class} {empty : Bool} {more bad : List Class} (starts goes_on names : List Class) → ((t : Piece) → among first t ≡ true → among starts t ≡ true)
    → ((t : Piece) → among more t ≡ true → among goes_on t ≡ true) → ((t : Piece) → among bad t ≡ true → among names t ≡ true) → Exact p first empty more bad → Exact p starts empty goes_on names
wider_by {more = more} starts goes_on names in_first in_more in_bad P = record {
  reading = P.reading;
  stopping = P.stopping;
  whole = λ a w rest d s. P.whole a w rest d (none_starts more goes_on in_more rest s);
  begins = λ a t w d. in_first t (P.begins a t w d);
  empties = P.empties;
  some = P.some;
  naming = P.naming;
  name_begins = λ u before t m. in_first u (P.name_begins u before t m);
  name_first = λ t m. in_bad t (P.name_first t m);
}

-- each class that was named stands at one of the positions in the wider list
pub wider : {A : Type 0} {p : Phrase A} {empty : Bool} (starts goes_on names : List Class) (first more bad : List ℕ) → Exact p (picked first starts) empty (picked more goes_on) (picked bad names) → Exact p starts empty goes_on names
wider starts goes_on names first more bad P = wider_by starts goes_on names (picked_within first starts) (picked_within more goes_on) (picked_within bad names) P

-- a class that is named twice
pub once : (c : Class) (cs : List Class) (t : Piece) → among (c ∷ c ∷ cs) t ≡ true → among (c ∷ cs) t ≡ true
once c cs t h = go (matches c t) (among cs t) h
  where
    go : (a b : Bool) → (a || (a || b)) ≡ true → (a || b) ≡ true
    go true b e = refl
    go false b e = e

-- classes that are named twice
pub twice : (cs : List Class) (t : Piece) → among (cs ++ cs) t ≡ true → among cs t ≡ true
twice cs t h = go (among cs t) (sym (among-append cs cs t) ∙ h)
  where
    go : (a : Bool) → (a || a) ≡ true → a ≡ true
    go true e = refl
    go false e = e

-- more of the same goes on
pub goes_on_with : {A : Type 0} {p : Phrase A} {first : List Class} {empty : Bool} {more bad : List Class} (goes_on : List Class) → ((t : Piece) → among more t ≡ true → among goes_on t ≡ true) → Exact p first empty more bad → Exact p first empty goes_on bad
goes_on_with goes_on in_more P = wider_by _ goes_on _ (λ t h. h) in_more (λ t h. h) P

-- ---- single tokens

-- a test that passed
pub some_when : {A : Type 0} (b : Bool) (x y : A) → cond b (Some x) None ≡ Some y → b ≡ true
some_when true x y e = refl
some_when false x y e = absurd cc

pub skip_exact : (cs : List Class) (sample : Piece) → among cs sample ≡ true → Exact (skip cs) cs false [] []
skip_exact cs sample is_in = one_exact (λ p. cond (among cs p) (Some tt) None) cs (λ p a e. some_when (among cs p) tt a e) sample tt (ap (λ b. cond b (Some tt) None) is_in)

pub place_exact : (cs : List Class) (sample : Piece) → among cs sample ≡ true → Exact (place cs) cs false [] []
place_exact cs sample is_in = one_exact (λ p. cond (among cs p) (Some p.at) None) cs (λ p a e. some_when (among cs p) p.at a e) sample sample.at (ap (λ b. cond b (Some sample.at) None) is_in)

same_self : (s : List ℕ) → same_text s s ≡ true
same_self [] = refl
same_self (x ∷ xs) = ap (λ b. b && same_text xs xs) (eq-eqb x x refl) ∙ same_self xs

-- a token is of the class of its text
pub self : (s : List ℕ) → (same_text s s || false) ≡ true
self s = ap (λ b. b || false) (same_self s)

pub apart_nil : (cs : List Class) → all_apart cs [] ≡ true
apart_nil [] = refl
apart_nil (c ∷ cs) = apart_nil cs
