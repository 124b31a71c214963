-- What holds of each element of a list, through the words on lists.
use Rattle.std.proofs.Common.{◌≡◌, Bool, true, false, cond, not, ◌&&◌, ◌||◌, List, [], ◌∷◌, ◌++◌, refl, sym, ◌∙◌}
use Rattle.std.specs.Prelude.{map}
use Rattle.std.specs.List.{AllByRecursion, flat_map, filter, list_all}

-- ---- tests

pub left_true : (a b : Bool) → (a && b) ≡ true → a ≡ true
left_true true b e = refl
left_true false b e = e

pub right_true : (a b : Bool) → (a && b) ≡ true → b ≡ true
right_true true b e = e
right_true false b e = absurd cc

pub or_left : (a b : Bool) → a ≡ true → (a || b) ≡ true
or_left true b e = refl
or_left false b e = absurd cc

pub or_right : (a b : Bool) → b ≡ true → (a || b) ≡ true
or_right true b e = refl
or_right false b e = e

-- one of two tests
pub or_else : (a b : Bool) → (a || b) ≡ true → (a ≡ false → b ≡ true)
or_else true b e f = absurd cc
or_else false b e f = e

pub not_false : (b : Bool) → not b ≡ false → b ≡ true
not_false true e = refl
not_false false e = absurd cc

-- ---- each element

pub weaker : {A : Type 0} {P Q : A → Type 0} → ((x : A) → P x → Q x) → (xs : List A) → AllByRecursion P xs → AllByRecursion Q xs
weaker f [] h = tt
weaker f (x ∷ xs) h = (f x h.0, weaker f xs h.1)

pub with_both : {A : Type 0} (P Q R : A → Type 0) → ((x : A) → P x → Q x → R x) → (xs : List A) → AllByRecursion P xs → AllByRecursion Q xs → AllByRecursion R xs
with_both P Q R f [] h k = tt
with_both P Q R f (x ∷ xs) h k = (f x h.0 k.0, with_both P Q R f xs h.1 k.1)

pub of_each : {A : Type 0} (P : A → Type 0) → ((x : A) → P x) → (xs : List A) → AllByRecursion P xs
of_each P f [] = tt
of_each P f (x ∷ xs) = (f x, of_each P f xs)

pub each_front : {A : Type 0} (P : A → Type 0) (xs ys : List A) → AllByRecursion P (xs ++ ys) → AllByRecursion P xs
each_front P [] ys h = tt
each_front P (x ∷ xs) ys h = (h.0, each_front P xs ys h.1)

pub each_back : {A : Type 0} (P : A → Type 0) (xs ys : List A) → AllByRecursion P (xs ++ ys) → AllByRecursion P ys
each_back P [] ys h = h
each_back P (x ∷ xs) ys h = each_back P xs ys h.1

pub together : {A : Type 0} (P : A → Type 0) (xs ys : List A) → AllByRecursion P xs → AllByRecursion P ys → AllByRecursion P (xs ++ ys)
together P [] ys h k = k
together P (x ∷ xs) ys h k = (h.0, together P xs ys h.1 k)

pub of_mapped : {A B : Type 0} (P : B → Type 0) (f : A → B) (xs : List A) → AllByRecursion P (map f xs) → AllByRecursion (λ x. P (f x)) xs
of_mapped P f [] h = tt
of_mapped P f (x ∷ xs) h = (h.0, of_mapped P f xs h.1)

pub to_mapped : {A B : Type 0} (P : B → Type 0) (f : A → B) (xs : List A) → AllByRecursion (λ x. P (f x)) xs → AllByRecursion P (map f xs)
to_mapped P f [] h = tt
to_mapped P f (x ∷ xs) h = (h.0, to_mapped P f xs h.1)

pub of_flat : {A B : Type 0} (P : B → Type 0) (f : A → List B) (xs : List A) → AllByRecursion P (flat_map f xs) → AllByRecursion (λ x. AllByRecursion P (f x)) xs
of_flat P f [] h = tt
of_flat P f (x ∷ xs) h = (each_front P (f x) (flat_map f xs) h, of_flat P f xs (each_back P (f x) (flat_map f xs) h))

pub to_flat : {A B : Type 0} (P : B → Type 0) (f : A → List B) (xs : List A) → AllByRecursion (λ x. AllByRecursion P (f x)) xs → AllByRecursion P (flat_map f xs)
to_flat P f [] h = tt
to_flat P f (x ∷ xs) h = together P (f x) (flat_map f xs) h.0 (to_flat P f xs h.1)

pub filtered : {A : Type 0} (P : A → Type 0) (test : A → Bool) (xs : List A) → AllByRecursion P xs → AllByRecursion P (filter test xs)
filtered P test [] h = tt
filtered P test (x ∷ xs) h = go (filtered P test xs h.1) (test x)
  where
    go : AllByRecursion P (filter test xs) → (b : Bool) → AllByRecursion P (cond b (x ∷ filter test xs) (filter test xs))
    go more true = (h.0, more)
    go more false = more

pub listed : {A : Type 0} (test : A → Bool) (xs : List A) → list_all test xs ≡ true → AllByRecursion (λ x. test x ≡ true) xs
listed test [] h = tt
listed test (x ∷ xs) h = (left_true (test x) (list_all test xs) h, listed test xs (right_true (test x) (list_all test xs) h))

-- ---- lists that are empty

pub cons_not_nil : {A : Type 0} (x : A) (xs : List A) → x ∷ xs ≡ [] → ⊥
cons_not_nil x xs e = cc

pub front_empty : {A : Type 0} (xs ys : List A) → xs ++ ys ≡ [] → xs ≡ []
front_empty [] ys e = refl
front_empty (x ∷ xs) ys e = absurd (cons_not_nil x (xs ++ ys) e)

pub back_empty : {A : Type 0} (xs ys : List A) → xs ++ ys ≡ [] → ys ≡ []
back_empty [] ys e = e
back_empty (x ∷ xs) ys e = absurd (cons_not_nil x (xs ++ ys) e)

pub map_empty : {A B : Type 0} (f : A → B) (xs : List A) → map f xs ≡ [] → xs ≡ []
map_empty f [] e = refl
map_empty f (x ∷ xs) e = absurd (cons_not_nil (f x) (map f xs) e)

pub flat_empty : {A B : Type 0} (f : A → List B) (xs : List A) → flat_map f xs ≡ [] → AllByRecursion (λ x. f x ≡ []) xs
flat_empty f [] e = tt
flat_empty f (x ∷ xs) e = (front_empty (f x) (flat_map f xs) e, flat_empty f xs (back_empty (f x) (flat_map f xs) e))

pub filter_empty : {A : Type 0} (test : A → Bool) (xs : List A) → filter test xs ≡ [] → AllByRecursion (λ x. test x ≡ false) xs
filter_empty test [] e = tt
filter_empty {A} test (x ∷ xs) e = go (λ h. filter_empty test xs h) (test x) refl e
  where
    go : (filter test xs ≡ [] → AllByRecursion (λ y. test y ≡ false) xs) → (b : Bool) → test x ≡ b → cond b (x ∷ filter test xs) (filter test xs) ≡ [] → AllByRecursion (λ y. test y ≡ false) (x ∷ xs)
    go more true q k = absurd (cons_not_nil x (filter test xs) k)
    go more false q k = (q, more k)

-- what passes the test gives nothing
pub flat_filter_empty : {A B : Type 0} (f : A → List B) (test : A → Bool) (xs : List A) → flat_map f (filter test xs) ≡ [] → AllByRecursion (λ x. test x ≡ true → f x ≡ []) xs
flat_filter_empty f test [] e = tt
flat_filter_empty f test (x ∷ xs) e = go (λ h. flat_filter_empty f test xs h) (test x) refl e
  where
    go : (flat_map f (filter test xs) ≡ [] → AllByRecursion (λ y. test y ≡ true → f y ≡ []) xs) → (b : Bool) → test x ≡ b → flat_map f (cond b (x ∷ filter test xs) (filter test xs)) ≡ []
        → AllByRecursion (λ y. test y ≡ true → f y ≡ []) (x ∷ xs)
    go more true q k = ((λ h. front_empty (f x) (flat_map f (filter test xs)) k), more (back_empty (f x) (flat_map f (filter test xs)) k))
    go more false q k = ((λ h. absurd (let c : false ≡ true = sym q ∙ h in cc)), more k)
