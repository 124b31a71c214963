-- Closed sets, and what lies in all of them.
use Rattle.std.proofs.Common.{◌≡◌, ◌⊎◌, get_or, Bool, true, ◌||◌, List, [], ◌∷◌, ◌++◌, refl, sym, subst, inl, inr, ⊎_elim, Contains}
use Rattle.std.specs.List.{list_any, list_all, AllByRecursion}
use Rattle.std.proofs.lemmas.List.Elements.{All-weaker, All-contains, Contains-get_or}
use Rattle.std.proofs.lemmas.Bool.{and_parts, and_from, or_cases, or_left, or_right, false≢true}
use Rattle.cnf.specs.declared.Lit.{Lit}
use Rattle.cnf.specs.Literals.{Literals, negated, same, among}
use Rattle.cnf.specs.Forced.{is_forced_by, IsClosed, Within, Forced, Conflicts}
use Rattle.cnf.proofs.SetLemmas.{same-equal}

-- lists

pub list_all-weaker : {X : Type 0} (p q : X → Bool) → ((x : X) → p x ≡ true → q x ≡ true) → (xs : List X) → list_all p xs ≡ true → list_all q xs ≡ true
list_all-weaker p q h [] e = refl
list_all-weaker p q h (x ∷ xs) e =
    let both = and_parts (p x) (list_all p xs) e in
    and_from (q x) (list_all q xs) (h x both.0) (list_all-weaker p q h xs both.1)

pub list_any-weaker : {X : Type 0} (p q : X → Bool) → ((x : X) → p x ≡ true → q x ≡ true) → (xs : List X) → list_any p xs ≡ true → list_any q xs ≡ true
list_any-weaker p q h [] e = absurd (false≢true e)
list_any-weaker p q h (x ∷ xs) e =
    ⊎_elim (λ a. or_left (q x) (list_any q xs) (h x a)) (λ b. or_right (q x) (list_any q xs) (list_any-weaker p q h xs b)) (or_cases (p x) (list_any p xs) e)

-- what each element that passes gives
pub list_any-use : {X : Type 0} (p : X → Bool) (Q : Type 0) (xs : List X) → AllByRecursion (λ x. p x ≡ true → Q) xs → list_any p xs ≡ true → Q
list_any-use p Q [] h e = absurd (false≢true e)
list_any-use p Q (x ∷ xs) h e =
    ⊎_elim (λ a. h.0 a) (λ b. list_any-use p Q xs h.1 b) (or_cases (p x) (list_any p xs) e)

pub list_any-some : {X : Type 0} (p : X → Bool) (xs : List X) → list_any p xs ≡ true → (x : X) × (p x ≡ true)
list_any-some p [] e = absurd (false≢true e)
list_any-some p (x ∷ xs) e =
    ⊎_elim (λ a. (x, a)) (λ b. list_any-some p xs b) (or_cases (p x) (list_any p xs) e)

pub list_any-among : (p : Lit → Bool) (ls : List Lit) (l : Lit) → among ls l ≡ true → p l ≡ true → list_any p ls ≡ true
list_any-among p [] l e h = absurd (false≢true e)
list_any-among p (m ∷ ms) l e h =
    ⊎_elim (λ a. or_left (p m) (list_any p ms) (subst (λ x. p x ≡ true) (same-equal l m a) h)) (λ b. or_right (p m) (list_any p ms) (list_any-among p ms l b h)) (or_cases (same l m) (among ms l) e)

pub list_all-among : (p : Lit → Bool) (ls : List Lit) (l : Lit) → list_all p ls ≡ true → among ls l ≡ true → p l ≡ true
list_all-among p [] l h e = absurd (false≢true e)
list_all-among p (m ∷ ms) l h e =
    let both = and_parts (p m) (list_all p ms) h in
    ⊎_elim (λ a. subst (λ x. p x ≡ true) (sym (same-equal l m a)) both.0) (λ b. list_all-among p ms l both.1 b) (or_cases (same l m) (among ms l) e)

pub among-append_left : (ls ms : List Lit) (l : Lit) → among ls l ≡ true → among (ls ++ ms) l ≡ true
among-append_left [] ms l e = absurd (false≢true e)
among-append_left (m ∷ ls) ms l e =
    ⊎_elim (λ a. or_left (same l m) (among (ls ++ ms) l) a) (λ b. or_right (same l m) (among (ls ++ ms) l) (among-append_left ls ms l b)) (or_cases (same l m) (among ls l) e)

pub among-append_right : (ls ms : List Lit) (l : Lit) → among ms l ≡ true → among (ls ++ ms) l ≡ true
among-append_right [] ms l e = e
among-append_right (m ∷ ls) ms l e = or_right (same l m) (among (ls ++ ms) l) (among-append_right ls ms l e)

pub among-append_cases : (ls ms : List Lit) (l : Lit) → among (ls ++ ms) l ≡ true → (among ls l ≡ true) ⊎ (among ms l ≡ true)
among-append_cases [] ms l e = inr e
among-append_cases (m ∷ ls) ms l e =
    ⊎_elim (λ a. inl (or_left (same l m) (among ls l) a)) (λ b. ⊎_elim (λ x. inl (or_right (same l m) (among ls l) x)) (λ y. inr y) (among-append_cases ls ms l b)) (or_cases (same l m) (among (ls ++ ms) l) e)

-- sets

pub Within-all : (A B C : Literals) → Within A B → Within B C → Within A C
Within-all A B C f g l e = g l (f l e)

pub is_forced_by-more : (A S : Literals) → Within A S → (c : List Lit) (l : Lit) → is_forced_by A c l ≡ true → is_forced_by S c l ≡ true
is_forced_by-more A S within c l e =
    let both = and_parts (among c l) (list_all (λ m. same m l || A (negated m)) c) e in
    and_from (among c l) (list_all (λ m. same m l || S (negated m)) c) both.0
    (list_all-weaker (λ m. same m l || A (negated m)) (λ m. same m l || S (negated m)) (λ m h.
    ⊎_elim (λ a. or_left (same m l) (S (negated m)) a) (λ b. or_right (same m l) (S (negated m)) (within (negated m) b)) (or_cases (same m l) (A (negated m)) h)) c both.1)

pub IsClosed-same : (F : List (List Lit)) (S T : Literals) → Within S T → Within T S → IsClosed F S → IsClosed F T
IsClosed-same F S T to from closed =
    All-weaker (λ c. (l : Lit) → is_forced_by S c l ≡ true → S l ≡ true) (λ c. (l : Lit) → is_forced_by T c l ≡ true → T l ≡ true) (λ c h l e. to l (h l (is_forced_by-more T S from c l e))) F closed

-- the least closed set

pub Forced-given : (F : List (List Lit)) (A : Literals) → (l : Lit) → A l ≡ true → Forced F A l
Forced-given F A l e S closed within = within l e

pub Forced-more : (F : List (List Lit)) (A B : Literals) → ((l : Lit) → A l ≡ true → Forced F B l) → (l : Lit) → Forced F A l → Forced F B l
Forced-more F A B each l h S closed within = h S closed (λ m e. each m e S closed within)

-- the one literal of a clause whose fellows are negated in the least closed set is there
pub Forced-step : (F : List (List Lit)) (A : Literals) (c : List Lit) (l : Lit) → Contains F c → among c l ≡ true → (T : Literals) → ((m : Lit) → T m ≡ true → Forced F A m) → is_forced_by T c l ≡ true → Forced F A l
Forced-step F A c l there stands T each e S closed within =
    let here = closed there.0 c there.1 in
    let P : List Lit → Type 0 = λ d. (m : Lit) → is_forced_by S d m ≡ true → S m ≡ true in
    let at_c : P c = subst P there.2 here in
    at_c l (is_forced_by-more T S (λ m h. each m h S closed within) c l e)

pub Conflicts-more : (F : List (List Lit)) (A B : Literals) → ((l : Lit) → A l ≡ true → Forced F B l) → Conflicts F A → Conflicts F B
Conflicts-more F A B each (inl h) = inl h
Conflicts-more F A B each (inr h) = inr (h.0, Forced-more F A B each h.0 h.1, Forced-more F A B each (negated h.0) h.2)

-- more clauses force no less
pub Forced-wider : (F G : List (List Lit)) → ((c : List Lit) → Contains F c → Contains G c) → (A : Literals) (l : Lit) → Forced F A l → Forced G A l
Forced-wider F G part A l h S closed within =
    h S (λ k d below. All-contains (λ c. (m : Lit) → is_forced_by S c m ≡ true → S m ≡ true) G (get_or F k d) closed (part (get_or F k d) (Contains-get_or F k d below))) within

pub Conflicts-wider : (F G : List (List Lit)) → ((c : List Lit) → Contains F c → Contains G c) → (A : Literals) → Conflicts F A → Conflicts G A
Conflicts-wider F G part A (inl h) = inl (part [] h)
Conflicts-wider F G part A (inr h) = inr (h.0, Forced-wider F G part A h.0 h.1, Forced-wider F G part A (negated h.0) h.2)
