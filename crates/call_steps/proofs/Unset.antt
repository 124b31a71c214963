-- Registers that aren't set.
use Rattle.std.proofs.Common.{◌≡◌, ℕ, ◌+◌, ◌<◌, List, [], ◌∷◌, ◌++◌, length, map, take, get_or, sym, ◌∙◌, ap, append_assoc}
use Rattle.std.proofs.lemmas.List.{take_more, map-append}

-- as many of one value as elements were counted, and one more
pub counted-more : {A B : Type 0} (v : B) (d : A) (xs : List A) (i : ℕ) (first now new : List B) → i < length xs
    → now ≡ first ++ map (λ x. v) (take i xs) → new ≡ now ++ v ∷ [] → new ≡ first ++ map (λ x. v) (take (i + 1) xs)
counted-more v d xs i first now new within h pushed =
    pushed ∙ (ap (λ l. l ++ v ∷ []) h
    ∙ (append_assoc first (map (λ x. v) (take i xs)) (v ∷ [])
    ∙ ap (λ l. first ++ l) (sym (ap (map (λ x. v)) (take_more xs i d within) ∙ map-append (λ x. v) (take i xs) (get_or xs i d ∷ [])))))
