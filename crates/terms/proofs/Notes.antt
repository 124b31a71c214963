-- What a memo remembers, by the entries of its map.
use Rattle.std.proofs.Common.{◌≡◌, ℕ, Bool, true, false, List, Some, ◌⊎◌, inl, inr, nat_eq, refl, sym, ap, ◌∙◌}
use Rattle.std.specs.Prelude.{cond}
use Rattle.std.specs.Option.{option_map}
use Rattle.std.proofs.lemmas.Bool.{eq-eqb}
use Rattle.std.proofs.lemmas.Map.Made.{lookup-map_values}
use Rattle.std.specs.Map.{lookup}
use Rattle.terms.specs.declared.memo.Known.{Known}
use Rattle.terms.specs.Tree.{Tree}
use Rattle.bitnum.specs.Number.{Number}
use Rattle.terms.specs.Value.{value_of}
use Rattle.places.specs.Place.{At}
use Rattle.terms.specs.Memo.{Note, notes_of, Remembers, AreValues, AreMatches}

module _ {H V : Type 0} where
  abbrev note_of : Known H V → Note V
  note_of k = record { tree = k.place.value; value = k.value }

  note_is : (k : Known H V) (t : Tree) (v : V) → k.place.value ≡ Some t → k.value ≡ v → note_of k ≡ record { tree = Some t; value = v }
  note_is k t v p q = λ i. record { tree = p i; value = q i }

  -- an entry whose place names the tree is remembered of it
  pub found_is : (es : List (ℕ × Known H V)) (n : ℕ) (k : Known H V) (t : Tree) (v : V) → lookup (nat_eq n) es ≡ Some k → k.place.value ≡ Some t → k.value ≡ v
      → Remembers (notes_of es) t v
  found_is es n k t v found p q = (n, lookup-map_values note_of (nat_eq n) es ∙ ap (option_map note_of) found ∙ ap (λ x. Some x) (note_is k t v p q))

  -- an entry was put at a number
  abbrev Puts : List (ℕ × Known H V) → List (ℕ × Known H V) → ℕ → Known H V → Type 0
  Puts old new n k = (q : ℕ) → lookup (nat_eq q) new ≡ cond (nat_eq n q) (Some k) (lookup (nat_eq q) old)

  pub put_is : (old new : List (ℕ × Known H V)) (n : ℕ) (k : Known H V) (t : Tree) (v : V) → Puts old new n k → k.place.value ≡ Some t → k.value ≡ v
      → Remembers (notes_of new) t v
  put_is old new n k t v puts p q = found_is new n k t v (puts n ∙ ap (λ b. cond b (Some k) (lookup (nat_eq n) old)) (eq-eqb n n refl)) p q

  of_one : (k : Known H V) (t u : Tree) (v w : V) → k.place.value ≡ Some t → k.value ≡ v → Some (note_of k) ≡ Some (record { tree = Some u; value = w }) → (u ≡ t) × (w ≡ v)
  of_one k t u v w p q e =
      let note : note_of k ≡ record { tree = Some u; value = w } = cc in
      let tree : Some t ≡ Some u = sym p ∙ ap (λ x. x.tree) note in
      let value : v ≡ w = sym q ∙ ap (λ x. x.value) note in
      (cc, sym value)

  -- what is remembered after it was, or is what was put
  pub put_keeps : (old new : List (ℕ × Known H V)) (n : ℕ) (k : Known H V) (t : Tree) (v : V) → Puts old new n k → k.place.value ≡ Some t → k.value ≡ v
      → (u : Tree) (w : V) → Remembers (notes_of new) u w → Remembers (notes_of old) u w ⊎ ((u ≡ t) × (w ≡ v))
  put_keeps old new n k t v puts p q u w r =
      here (nat_eq n r.0) (ap (option_map note_of) (sym (puts r.0)) ∙ sym (lookup-map_values note_of (nat_eq r.0) new) ∙ r.1)
    where
      here : (b : Bool) → option_map note_of (cond b (Some k) (lookup (nat_eq r.0) old)) ≡ Some (record { tree = Some u; value = w })
          → Remembers (notes_of old) u w ⊎ ((u ≡ t) × (w ≡ v))
      here true e = inr (of_one k t u v w p q e)
      here false e = inl (r.0, lookup-map_values note_of (nat_eq r.0) old ∙ e)

-- so the numbers stay values, where a value was put
pub values_stay : (old new : List (ℕ × Note Number)) (input : List ℕ) (t : Tree) (n : Number) → AreValues old input → n ≡ value_of t input
    → ((u : Tree) (m : Number) → Remembers new u m → Remembers old u m ⊎ ((u ≡ t) × (m ≡ n))) → AreValues new input
values_stay old new input t n known is others u m r =
    elim (others u m r) [
      | inl before ↦ known u m before
      | inr now ↦ now.1 ∙ is ∙ ap (λ x. value_of x input) (sym now.0)
    ]

-- the places stay places of their trees, where the place of an equal tree was put
pub matches_stay : (old new : List (ℕ × Note (At Tree))) (t : Tree) (place : At Tree) → AreMatches old → place.value ≡ Some t
    → ((u : Tree) (p : At Tree) → Remembers new u p → Remembers old u p ⊎ ((u ≡ t) × (p ≡ place))) → AreMatches new
matches_stay old new t place known is others u p r =
    elim (others u p r) [
      | inl before ↦ known u p before
      | inr now ↦ ap (λ q. q.value) now.1 ∙ is ∙ ap (λ x. Some x) (sym now.0)
    ]

-- one place names one tree
pub one_tree : (p q : At Tree) (t u : Tree) → p.value ≡ Some t → p ≡ q → q.value ≡ Some u → t ≡ u
one_tree p q t u left is right = let both : Some t ≡ Some u = sym left ∙ ap (λ r. r.value) is ∙ right in cc
