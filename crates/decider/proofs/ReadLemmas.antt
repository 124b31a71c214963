-- The value of a term depends on the bytes of input that it reads.
use Rattle.std.proofs.Common.{◌≡◌, ◌%◌, ◌^◌, ◌&&◌, ℕ, cond, List, [], ◌∷◌, take, refl, ap, ap₂, ◌∙◌}
use Rattle.std.specs.List.{AllByRecursion}
use Rattle.std.proofs.lemmas.List.{get_or-take}
use Rattle.bitnum.specs.Number.{Number}
use Rattle.terms.specs.Tree.{Tree, constant, input, one, two, choice}
use Rattle.terms.specs.Value.{is_yes, one_of, two_of, value_of, are_met_by, ReadsBelow}

module _ (count : ℕ) (bytes : List ℕ) where
  value_cut : (t : Tree) → ReadsBelow count t → value_of t (take count bytes) ≡ value_of t bytes
  value_cut (constant n) h = refl
  value_cut (input k) h =
      let byte : ℕ → Number = λ b. record { width = 8; bits = b % 2 ^ 8 } in
      ap byte (get_or-take count bytes k 0 h)
  value_cut (one op a) h = ap (one_of op) (value_cut a h)
  value_cut (two op a b) h = ap₂ (two_of op) (value_cut a h.0) (value_cut b h.1)
  value_cut (choice c a b) h =
      let pick : Number → Number → Number → Number = λ n x y. cond (is_yes n) x y in
      ap (λ n. pick n (value_of a (take count bytes)) (value_of b (take count bytes))) (value_cut c h.0) ∙ ap₂ (pick (value_of c bytes)) (value_cut a h.1) (value_cut b h.2)

  pub met_cut : (c : List Tree) → AllByRecursion (ReadsBelow count) c → are_met_by (take count bytes) c ≡ are_met_by bytes c
  met_cut [] h = refl
  met_cut (t ∷ c) h = ap₂ (λ x y. x && y) (ap is_yes (value_cut t h.0)) (met_cut c h.1)
