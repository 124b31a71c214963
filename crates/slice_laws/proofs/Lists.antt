-- Lists that are read, set and filtered.
use Rattle.points_to.proofs.Parts.{first}
use Rattle.std.proofs.lemmas.List.{get_or-map, length-map}
use Rattle.std.specs.Prelude.{slice_get, slice_set, unwrap_or, slice_index_or, map, reverse, cond}
use mathlib.Core.List.{reverse_aux}
use Rattle.std.proofs.Common.{◌≡◌, ◌<◌, ◌∙◌, ℕ, zero, suc, Bool, true, false, List, [], ◌∷◌, ◌++◌, length, refl, ap, arith}
use Rattle.std.specs.List.{Contains, filter, AllByRecursion as Each}
use Rattle.std.proofs.lemmas.List.Elements.{Contains-append_right}

pub not_both : {A : Type 0} (b : Bool) → b ≡ true → b ≡ false → A
not_both b t f = absurd (cc)

-- a place that isn't set
pub set_apart : {A : Type 0} (xs : List A) (j k : ℕ) (a : A) → (j ≡ k → ⊥) → slice_get (slice_set xs j a) k ≡ slice_get xs k
set_apart [] j k a apart = refl
set_apart (x ∷ xs) zero zero a apart = absurd (apart refl)
set_apart (x ∷ xs) zero (suc k) a apart = refl
set_apart (x ∷ xs) (suc j) zero a apart = refl
set_apart (x ∷ xs) (suc j) (suc k) a apart = set_apart xs j k a (λ e. apart (ap suc e))

-- what is set in two lists keeps them equal wherever they were
pub set_both : {A : Type 0} (xs ys : List A) (j k : ℕ) (a : A) → slice_get ys k ≡ slice_get xs k → slice_get (slice_set ys j a) k ≡ slice_get (slice_set xs j a) k
set_both [] [] j k a e = refl
set_both [] (y ∷ ys) zero zero a e = absurd (cc)
set_both [] (y ∷ ys) zero (suc k) a e = e
set_both [] (y ∷ ys) (suc j) zero a e = e
set_both [] (y ∷ ys) (suc j) (suc k) a e = set_both [] ys j k a e
set_both (x ∷ xs) [] zero zero a e = absurd (cc)
set_both (x ∷ xs) [] zero (suc k) a e = e
set_both (x ∷ xs) [] (suc j) zero a e = e
set_both (x ∷ xs) [] (suc j) (suc k) a e = set_both xs [] j k a e
set_both (x ∷ xs) (y ∷ ys) zero zero a e = refl
set_both (x ∷ xs) (y ∷ ys) zero (suc k) a e = e
set_both (x ∷ xs) (y ∷ ys) (suc j) zero a e = e
set_both (x ∷ xs) (y ∷ ys) (suc j) (suc k) a e = set_both xs ys j k a e

-- what a filter keeps of a list that is turned round
filter_onto : {A : Type 0} (t : A → Bool) (xs ys : List A) → filter t (reverse_aux xs ys) ≡ reverse_aux (filter t xs) (filter t ys)
filter_onto t [] ys = refl
filter_onto t (x ∷ xs) ys = filter_onto t xs (x ∷ ys) ∙
    elim (t x) as (λ b. reverse_aux (filter t xs) (cond b (x ∷ filter t ys) (filter t ys)) ≡ reverse_aux (cond b (x ∷ filter t xs) (filter t xs)) (filter t ys)) [ true ↦ refl | false ↦ refl ]

pub filter_turned : {A : Type 0} (t : A → Bool) (xs : List A) → filter t (reverse xs) ≡ reverse (filter t xs)
filter_turned t xs = filter_onto t xs []

-- a filter that keeps nothing
pub filter_none : {A : Type 0} (t : A → Bool) (xs : List A) → Each (λ x. t x ≡ false) xs → filter t xs ≡ []
filter_none t [] none = refl
filter_none t (x ∷ xs) none = rw none.0 (filter_none t xs none.1)

-- a filter that keeps less finds the same in what another one keeps
pub filter_within : {A : Type 0} (t u : A → Bool) → ((x : A) → t x ≡ true → u x ≡ true) → (xs : List A) → filter t (filter u xs) ≡ filter t xs
filter_within t u less [] = refl
filter_within t u less (x ∷ xs) =
    elim (u x) as (λ b. u x ≡ b → filter t (cond b (x ∷ filter u xs) (filter u xs)) ≡ filter t (x ∷ xs)) [
      | true ↦ λ e. elim (t x) as (λ b. cond b (x ∷ filter t (filter u xs)) (filter t (filter u xs)) ≡ cond b (x ∷ filter t xs) (filter t xs)) [
        | true ↦ ap (λ ys. x ∷ ys) (filter_within t u less xs)
        | false ↦ filter_within t u less xs
      ]
      | false ↦ λ e. elim (t x) as (λ b. t x ≡ b → filter t (filter u xs) ≡ cond b (x ∷ filter t xs) (filter t xs)) [
        | true ↦ λ h. not_both (u x) (less x h) e
        | false ↦ λ h. filter_within t u less xs
      ] refl
    ] refl

pub none_in : {A : Type 0} (x : A) → Contains [] x → ⊥
none_in x h = omega (arith, h.1)

pub Contains-map : {A B : Type 0} (f : A → B) (xs : List A) (x : A) → Contains xs x → Contains (map f xs) (f x)
Contains-map f xs x h = (h.0, omega (arith, h.1, length-map xs f), get_or-map f xs h.0 x (f x) h.1 ∙ ap f h.2)

-- a row of a table that a list gives
pub row_at : {A B : Type 0} (f : A → List B) (xs : List A) (ys : List (List B)) (k : ℕ) (d : A) → k < length xs → slice_index_or (map f xs ++ ys) k [] ≡ f (unwrap_or (slice_get xs k) d)
row_at f [] ys k d lt = absurd (omega (arith, lt))
row_at f (x ∷ xs) ys zero d lt = refl
row_at f (x ∷ xs) ys (suc k) d lt = row_at f xs ys k d (omega (arith, lt))

pub later : {A : Type 0} (x y : A) (xs : List A) → Contains xs y → Contains (x ∷ xs) y
later x y xs there = Contains-append_right (x ∷ []) xs y there

-- from each element by its place to each by recursion
pub each_from : {A : Type 0} (P : A → Type 0) (xs : List A) → ((x : A) → Contains xs x → P x) → Each P xs
each_from P [] all = tt
each_from P (x ∷ xs) all = (all x (first x xs), each_from P xs (λ y there. all y (later x y xs there)))

-- lists with the same elements at each place are one
pub same_elements : {A : Type 0} (xs ys : List A) → ((k : ℕ) → slice_get xs k ≡ slice_get ys k) → xs ≡ ys
same_elements [] [] e = refl
same_elements [] (y ∷ ys) e = let none' = e zero in absurd (cc)
same_elements (x ∷ xs) [] e = let none' = e zero in absurd (cc)
same_elements (x ∷ xs) (y ∷ ys) e =
    let head' = e zero in
    let head : x ≡ y = cc in
    λ i. head i ∷ same_elements xs ys (λ k. e (suc k)) i
