-- Items of a list by their place.
use Rattle.std.specs.Prelude.{slice_set}
use Rattle.std.proofs.Common.{◌≡◌, ℕ, zero, suc, ◌<◌, ◌≢◌, List, [], ◌∷◌, Some, slice_get, get_or, length, refl, ap, arith}

pub get_at : {A : Type 0} (xs : List A) (k : ℕ) (d : A) → k < length xs → slice_get xs k ≡ Some (get_or xs k d)
get_at [] k d within = absurd (omega arith)
get_at (x ∷ xs) zero d within = refl
get_at (x ∷ xs) (suc k) d within = get_at xs k d (omega arith)

pub set_here : {A : Type 0} (xs : List A) (k : ℕ) (a : A) → k < length xs → slice_get (slice_set xs k a) k ≡ Some a
set_here [] k a within = absurd (omega arith)
set_here (x ∷ xs) zero a within = refl
set_here (x ∷ xs) (suc k) a within = set_here xs k a (omega arith)

pub set_elsewhere : {A : Type 0} (xs : List A) (j k : ℕ) (a : A) → j ≢ k → slice_get (slice_set xs j a) k ≡ slice_get xs k
set_elsewhere [] j k a apart = refl
set_elsewhere (x ∷ xs) zero zero a apart = absurd (apart refl)
set_elsewhere (x ∷ xs) zero (suc k) a apart = refl
set_elsewhere (x ∷ xs) (suc j) zero a apart = refl
set_elsewhere (x ∷ xs) (suc j) (suc k) a apart = set_elsewhere xs j k a (λ e. apart (ap (λ n. suc n) e))
