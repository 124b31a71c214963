-- One more element in a loop that makes a list.
use Rattle.std.proofs.Common.{◌≡◌, ◌∙◌, ◌++◌, ◌+◌, ◌<◌, ℕ, suc, List, [], ◌∷◌, refl, length, drop, get_or, map, sym, ap, drop-cons, add-one, append_assoc}
use Rattle.std.specs.List.{flat_map}
use Rattle.std.proofs.lemmas.List.{map-append}

pub rest_less : {A : Type 0} (xs : List A) (i : ℕ) (x : A) → i < length xs → x ≡ get_or xs i x → drop i xs ≡ x ∷ drop (i + 1) xs
rest_less {A} xs i x lt is = rw add-one (drop-cons xs i x lt ∙ ap (λ (y : A). y ∷ drop (suc i) xs) (sym is))

pub flat_more : {A B : Type 0} (f : A → List B) (xs : List A) (i : ℕ) (x : A) (made more all : List B) → i < length xs → x ≡ get_or xs i x → more ≡ made ++ f x →
    made ++ flat_map f (drop i xs) ≡ all → more ++ flat_map f (drop (i + 1) xs) ≡ all
flat_more {A} {B} f xs i x made more all lt is e before =
    ap (λ (m : List B). m ++ flat_map f (drop (i + 1) xs)) e ∙ append_assoc made (f x) (flat_map f (drop (i + 1) xs))
    ∙ ap (λ (ys : List A). made ++ flat_map f ys) (sym (rest_less xs i x lt is)) ∙ before

pub flat_mapped_more : {A B C : Type 0} (f : B → List C) (g : A → B) (xs : List A) (i : ℕ) (x : A) (made more all : List C) → i < length xs → x ≡ get_or xs i x → more ≡ made ++ f (g x) →
    made ++ flat_map f (map g (drop i xs)) ≡ all → more ++ flat_map f (map g (drop (i + 1) xs)) ≡ all
flat_mapped_more {A} {B} {C} f g xs i x made more all lt is e before =
    ap (λ (m : List C). m ++ flat_map f (map g (drop (i + 1) xs))) e ∙ append_assoc made (f (g x)) (flat_map f (map g (drop (i + 1) xs)))
    ∙ ap (λ (ys : List A). made ++ flat_map f (map g ys)) (sym (rest_less xs i x lt is)) ∙ before

-- a test of each of what is made of each
pub mapped_flat : {A B C : Type 0} (h : B → C) (k : A → List B) (xs : List A) → map h (flat_map k xs) ≡ flat_map (λ x. map h (k x)) xs
mapped_flat h k [] = refl
mapped_flat {A} {B} {C} h k (x ∷ xs) = map-append h (k x) (flat_map k xs) ∙ ap (λ (cs : List C). map h (k x) ++ cs) (mapped_flat h k xs)

pub mapped_flat_more : {A B C : Type 0} (h : B → C) (k : A → List B) (xs : List A) (i : ℕ) (x : A) (made more all : List C) → i < length xs → x ≡ get_or xs i x → more ≡ made ++ map h (k x) →
    made ++ map h (flat_map k (drop i xs)) ≡ all → more ++ map h (flat_map k (drop (i + 1) xs)) ≡ all
mapped_flat_more {A} {B} {C} h k xs i x made more all lt is e before =
    ap (λ (cs : List C). more ++ cs) (mapped_flat h k (drop (i + 1) xs))
    ∙ flat_more (λ (y : A). map h (k y)) xs i x made more all lt is e (ap (λ (cs : List C). made ++ cs) (sym (mapped_flat h k (drop i xs))) ∙ before)
