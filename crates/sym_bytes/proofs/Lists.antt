-- Lists that are made from the front on.
use Rattle.std.proofs.Common.{◌≡◌, ℕ, zero, suc, ◌+◌, List, [], ◌∷◌, ◌++◌, Option, Some, None, refl, ap, ◌∙◌, arith}
use Rattle.std.proofs.lemmas.List.{append-nil}
use Rattle.flat_ir.specs.Registers.{first_of}

-- the list, if it is there, with these in front
abbrev pub in_front : {A : Type 0} → List A → Option (List A) → Option (List A)
in_front made None = None
in_front made (Some more) = Some (made ++ more)

pub in_front_nil : {A : Type 0} (o : Option (List A)) → in_front [] o ≡ o
in_front_nil None = refl
in_front_nil (Some more) = refl

pub in_front_end : {A : Type 0} (made : List A) → in_front made (Some []) ≡ Some made
in_front_end made = ap Some (append-nil made)

one_after : {A : Type 0} (n k m : ℕ) (f : ℕ → A) → m ≡ k + n → first_of (suc n) k f ≡ first_of n k f ++ f m ∷ []
one_after zero k m f is = ap (λ j. f j ∷ []) (omega (arith, is))
one_after (suc n) k m f is = ap (λ more. f k ∷ more) (one_after n (k + 1) m f (omega (arith, is)))

-- one more of the first elements
pub one_more : {A : Type 0} (n k m : ℕ) (f : ℕ → A) → m ≡ k + n → first_of (n + 1) k f ≡ first_of n k f ++ f m ∷ []
one_more n k m f is = let step : n + 1 ≡ suc n = omega arith in ap (λ j. first_of j k f) step ∙ one_after n k m f is
