-- Lists to which each element of a list gives its part, by its place.
use Rattle.std.specs.Prelude.{slice_get}
use Rattle.std.proofs.Common.{◌≡◌, ◌+◌, ℕ, zero, suc, List, [], ◌∷◌, ◌++◌, Some, refl, sym, subst, arith}
use Rattle.std.specs.List.{All, Contains, AllByRecursion as Each}
use Rattle.std.proofs.lemmas.List.Elements.{Contains-append_left, Contains-append_right}
use Rattle.std.proofs.lemmas.Option.{slice_get_within, get_or_from_slice_get}
use Rattle.flat_ir.proofs.MadeBasics.{each_append}

pub first : {A : Type 0} (x : A) (xs : List A) → Contains (x ∷ xs) x
first x xs = (0, omega arith, refl)

pub second : {A : Type 0} (x y : A) (xs : List A) → Contains (x ∷ y ∷ xs) y
second x y xs = (1, omega arith, refl)

pub all_at : {A : Type 0} (P : A → Type 0) (xs : List A) (i : ℕ) (x : A) → All P xs → slice_get xs i ≡ Some x → P x
all_at P xs i x all at = subst P (get_or_from_slice_get xs i x x at) (all i x (slice_get_within xs i x at))

-- the whole is the parts of the elements in their order, the first of which has the place k
abbrev pub IsOfParts : {A B : Type 0} → (ℕ → A → List B) → (ℕ → List A → List B) → Type 0
IsOfParts {A} part whole = ((k : ℕ) → whole k [] ≡ []) × ((k : ℕ) (x : A) (xs : List A) → whole k (x ∷ xs) ≡ part k x ++ whole (k + 1) xs)

part_there : {A B : Type 0} (part : ℕ → A → List B) (whole : ℕ → List A → List B) → IsOfParts part whole → (k i : ℕ) (xs : List A) (x : A) (c : B) → slice_get xs i ≡ Some x
    → Contains (part (k + i) x) c → Contains (whole k xs) c
part_there part whole made k i [] x c at h = absurd (cc)
part_there {A} {B} part whole made k zero (y ∷ xs) x c at h =
    let same : y ≡ x = cc in
    let e : k + 0 ≡ k = omega arith in
    subst (λ (l : List B). Contains l c) (sym (made.1 k y xs))
    (Contains-append_left (part k y) (whole (k + 1) xs) c (subst (λ (z : A). Contains (part k z) c) (sym same) (subst (λ (n : ℕ). Contains (part n x) c) e h)))
part_there {A} {B} part whole made k (suc i) (y ∷ xs) x c at h =
    let e : k + suc i ≡ k + 1 + i = omega arith in
    subst (λ (l : List B). Contains l c) (sym (made.1 k y xs))
    (Contains-append_right (part k y) (whole (k + 1) xs) c (part_there part whole made (k + 1) i xs x c at (subst (λ (n : ℕ). Contains (part n x) c) e h)))

-- the whole has what the part of an element has
pub from_part : {A B : Type 0} (part : ℕ → A → List B) (whole : ℕ → List A → List B) → IsOfParts part whole → (i : ℕ) (xs : List A) (x : A) (c : B) → slice_get xs i ≡ Some x
    → Contains (part i x) c → Contains (whole 0 xs) c
from_part {A} {B} part whole made i xs x c at h =
    let e : i ≡ 0 + i = omega arith in part_there part whole made 0 i xs x c at (subst (λ (n : ℕ). Contains (part n x) c) e h)

each_behind : {A B : Type 0} (part : ℕ → A → List B) (whole : ℕ → List A → List B) → IsOfParts part whole → (P : B → Type 0) (k : ℕ) (xs : List A)
    → ((i : ℕ) (x : A) → slice_get xs i ≡ Some x → Each P (part (k + i) x)) → Each P (whole k xs)
each_behind {A} {B} part whole made P k [] all = subst (λ (l : List B). Each P l) (sym (made.0 k)) tt
each_behind {A} {B} part whole made P k (x ∷ xs) all =
    let e : k + 0 ≡ k = omega arith in
    subst (λ (l : List B). Each P l) (sym (made.1 k x xs))
    (each_append P (part k x) (whole (k + 1) xs) (subst (λ (n : ℕ). Each P (part n x)) e (all 0 x refl))
    (each_behind part whole made P (k + 1) xs (λ i y at. let e' : k + suc i ≡ k + 1 + i = omega arith in subst (λ (n : ℕ). Each P (part n y)) e' (all (suc i) y at))))

-- what holds in each part holds of the whole
pub each_part : {A B : Type 0} (part : ℕ → A → List B) (whole : ℕ → List A → List B) → IsOfParts part whole → (P : B → Type 0) (xs : List A)
    → ((i : ℕ) (x : A) → slice_get xs i ≡ Some x → Each P (part i x)) → Each P (whole 0 xs)
each_part {A} {B} part whole made P xs all =
    each_behind part whole made P 0 xs (λ i x at. let e : i ≡ 0 + i = omega arith in subst (λ (n : ℕ). Each P (part n x)) e (all i x at))
