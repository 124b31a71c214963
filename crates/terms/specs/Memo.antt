-- What is remembered of trees, by the numbers of their places.
use Rattle.std.specs.Prelude.{ℕ, ◌≡◌, List, map, nat_eq}
use Rattle.std.specs.Prelude.{Option, Some}
use Rattle.std.specs.Map.{lookup}
use base.Stored.{Coded, coded×, coded_via}
use Rattle.std.specs.Coded.{coded_option}
use Rattle.places.specs.Place.{At}
use Rattle.terms.specs.Tree.{Tree}
use Rattle.terms.specs.Codes.{coded_tree}
use Rattle.terms.specs.Value.{value_of}
use Rattle.bitnum.specs.Number.{Number}
use Rattle.terms.specs.declared.memo.Known.{Known}

-- the tree that a place names, with what is remembered of it
pub record Note (V : Type 0) : Type 0 where
  pub tree : Option Tree
  pub value : V

abbrev pub coded_note : {V : Type 0} → Coded V → Coded (Note V)
coded_note c = coded_via (coded× (coded_option coded_tree) c) (λ p. (p.tree, p.value)) (λ x y e i. record { tree = (e i).0; value = (e i).1 })

abbrev pub notes_of : {H V : Type 0} → List (ℕ × Known H V) → List (ℕ × Note V)
notes_of entries = map (λ e. (e.0, record { tree = e.1.place.value; value = e.1.value })) entries

-- the value is remembered of the tree, at some place
abbrev pub Remembers : {V : Type 0} → List (ℕ × Note V) → Tree → V → Type 0
Remembers notes t v = (number : ℕ) × (lookup (nat_eq number) notes ≡ Some (record { tree = Some t; value = v }))

-- each number that is remembered is its term's value under the input
abbrev pub AreValues : List (ℕ × Note Number) → List ℕ → Type 0
AreValues notes input = (t : Tree) (n : Number) → Remembers notes t n → n ≡ value_of t input

-- each place that is remembered names its term's tree
abbrev pub AreMatches : List (ℕ × Note (At Tree)) → Type 0
AreMatches notes = (t : Tree) (place : At Tree) → Remembers notes t place → place.value ≡ Some t
