-- Which retained nodes are met first, and which sets of nodes are closed: weak control closure, after S. Danicic, R. Barraclough,
-- M. Harman, J. Howroyd, Á. Kiss and M. Laurence, "A unifying theory of control dependence and its application to arbitrary program
-- structures", Theoretical Computer Science 412 (2011). Closing is by rounds, so that it has no order.
use Rattle.std.specs.Prelude.{◌≡◌, ◌≢◌, ◌<◌, ◌⊎◌, ◌↔◌, ℕ, Bool, true, false, List, [], length, slice_index, slice_index_or}
use Rattle.std.specs.List.{Contains}
use Rattle.least.specs.Sets.{has}

-- a graph is the list of its nodes' successors
abbrev pub HasEdge : List (List ℕ) → ℕ → ℕ → Type 0
HasEdge g n m = Contains (slice_index_or g n []) m

-- each successor is a node
abbrev pub IsGraph : List (List ℕ) → Type 0
IsGraph g = (n m : ℕ) → HasEdge g n m → m < length g

-- some path from n meets m first of the retained nodes
pub data Meets (g : List (List ℕ)) (kept : ℕ → Bool) : ℕ → ℕ → Type 0 where
  here : {n : ℕ} → kept n ≡ true → Meets g kept n n
  beyond : {n m : ℕ} (k : ℕ) → kept n ≡ false → HasEdge g n k → Meets g kept k m → Meets g kept n m

-- two different successors from which different retained nodes are met first
pub record Parts (g : List (List ℕ)) (kept : ℕ → Bool) (n : ℕ) : Type 0 where
  pub one : ℕ
  pub other : ℕ
  pub one_edge : HasEdge g n one
  pub other_edge : HasEdge g n other
  pub apart : one ≢ other
  pub one_met : ℕ
  pub other_met : ℕ
  pub from_one : Meets g kept one one_met
  pub from_other : Meets g kept other other_met
  pub differ : one_met ≢ other_met

-- no node that isn't retained parts its ways
abbrev pub IsClosed : List (List ℕ) → (ℕ → Bool) → Type 0
IsClosed g kept = (n : ℕ) → kept n ≡ false → Parts g kept n → ⊥

-- a closing round adds the nodes that part their ways
pub record IsRound (g : List (List ℕ)) (old new : List Bool) : Type 0 where
  pub size : length new ≡ length old
  pub nodes : (n : ℕ) → (has new n ≡ true) ↔ ((has old n ≡ true) ⊎ Parts g (has old) n)

-- rounds until nothing is added
pub data Closes (g : List (List ℕ)) : List Bool → List Bool → Type 0 where
  closed : {kept : List Bool} → IsClosed g (has kept) → Closes g kept kept
  round : {old end : List Bool} (new : List Bool) → IsRound g old new → Closes g new end → Closes g old end

-- the list has the numbers that pass, ascending
pub record Lists (P : ℕ → Type 0) (found : List ℕ) : Type 0 where
  pub ascending : (i j : ℕ) → i < j → j < length found → slice_index found i < slice_index found j
  pub only : (m : ℕ) → Contains found m → P m
  pub all : (m : ℕ) → P m → Contains found m
