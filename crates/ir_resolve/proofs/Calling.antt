-- A name among those that functions call.
use Rattle.std.proofs.Common.{◌≡◌, ◌<◌, ℕ, zero, suc, List, [], ◌∷◌, length, get_or, Option, Some, None, subst, arith}
use Rattle.std.specs.Prelude.{IfSome}
use Rattle.std.specs.List.{Contains, flat_map}
use Rattle.std.proofs.lemmas.List.Elements.{Contains-append_left, Contains-append_right}
use Rattle.ir_tree.specs.declared.types.Name.{Name}

abbrev pub called : ℕ → List ℕ → Name
called at text = record { text = text; at = at }

pub some_weaker : {X : Type 0} (o : Option X) (P Q : X → Type 0) → ((x : X) → P x → Q x) → IfSome o P → IfSome o Q
some_weaker None P Q f h = h
some_weaker (Some x) P Q f h = f x h

pub in_flat : {A B : Type 0} (f : A → List B) (xs : List A) (i : ℕ) (x : A) (y : B) → i < length xs → x ≡ get_or xs i x → Contains (f x) y → Contains (flat_map f xs) y
in_flat f [] i x y lt is h = absurd (omega (arith, lt))
in_flat {A} {B} f (z ∷ zs) zero x y lt is h = Contains-append_left (f z) (flat_map f zs) y (subst (λ (a : A). Contains (f a) y) is h)
in_flat f (z ∷ zs) (suc i) x y lt is h = Contains-append_right (f z) (flat_map f zs) y (in_flat f zs i x y (omega (arith, lt)) is h)
