-- Lists of copies.
use Rattle.std.proofs.Common.{◌≡◌, List, [], ◌∷◌, refl}
use Rattle.std.specs.List.{AllZip}

-- a list of equal values is the list
pub copies_are : {A : Type 0} (xs ys : List A) → AllZip (λ x y. y ≡ x) xs ys → ys ≡ xs
copies_are [] [] h = refl
copies_are [] (y ∷ ys) h = absurd h
copies_are (x ∷ xs) [] h = absurd h
copies_are (x ∷ xs) (y ∷ ys) h = λ i. h.0 i ∷ copies_are xs ys h.1 i
