-- Walks over the lists of a function's nodes.
use Rattle.std.specs.Prelude.{◌≡◌, ◌<◌, ◌≤◌, ◌++◌, ℕ, Bool, true, List, [], ◌∷◌, length, map, Some, slice_get, slice_index_or}
use Rattle.std.specs.List.{Contains}
use Rattle.flat_ir.specs.declared.names.NodeId.{NodeId}
use Rattle.flat_ir.specs.declared.names.RegId.{RegId}
use Rattle.flat_ir.specs.declared.nodes.Node.{Node}
use Rattle.flat_ir.specs.declared.program.Func.{Func}
use Rattle.flat_ir.specs.Whole.{successors_of, results_of}
use Rattle.flow.specs.Flow.{IsUndefined, reads}

-- the numbers of the nodes that a node leads to
abbrev pub row_of : Node → List ℕ
row_of x = map (λ s. s.0) (successors_of x)

-- an edge leads from node n to node m, where the list has each node's successors
abbrev pub HasEdge : List (List ℕ) → ℕ → ℕ → Type 0
HasEdge rows n m = Contains (slice_index_or rows n []) m

-- each successor is a node
abbrev pub IsGraph : List (List ℕ) → Type 0
IsGraph rows = (n m : ℕ) → HasEdge rows n m → m < length rows

-- node n sets the register, where the list has what each node sets
abbrev pub SetsAt : List (List RegId) → RegId → ℕ → Type 0
SetsAt results r n = Contains (slice_index_or results n []) r

-- some walk from node 0 comes to the node, and no node before it sets the register
pub data Comes (rows : List (List ℕ)) (results : List (List RegId)) (r : RegId) : ℕ → Type 0 where
  starts : Comes rows results r 0
  goes_on : {m : ℕ} (n : ℕ) → Comes rows results r n → (SetsAt results r n → ⊥) → HasEdge rows n m → Comes rows results r m

-- what the rule of node n gives
pub record FiresAt (rows : List (List ℕ)) (results : List (List RegId)) (r : RegId) (n : ℕ) (S T : ℕ → Bool) : Type 0 where
  pub starts : n ≡ 0 → T n ≡ true
  pub goes_on : S n ≡ true → (SetsAt results r n → ⊥) → (m : ℕ) → HasEdge rows n m → T m ≡ true

abbrev pub node_of : ℕ → NodeId
node_of n = record { 0 = n }

-- some walk comes to the node with the register, which is no parameter, not yet set
pub record IsLost (f : Func) (n : ℕ) (r : RegId) : Type 0 where
  pub no_param : f.params ≤ r.0
  pub comes : Comes (map row_of f.nodes) (map results_of f.nodes) r n

-- none of the registers is so
abbrev pub NoneOf : (RegId → Type 0) → List RegId → Type 0
NoneOf P registers = (s : RegId) → Contains registers s → P s → ⊥

-- the register is the first of those that is so
pub record FirstOf (P : RegId → Type 0) (registers : List RegId) (r : RegId) : Type 0 where
  pub front : List RegId
  pub rest : List RegId
  pub order : registers ≡ front ++ r ∷ rest
  pub earlier : NoneOf P front
  pub is : P r

-- the node reads no undefined register
abbrev pub NoneAt : Func → NodeId → Type 0
NoneAt f n = (s : RegId) → IsUndefined f n s → ⊥

-- the register is the first undefined one that the node reads
pub record FirstAt (f : Func) (n : NodeId) (r : RegId) : Type 0 where
  pub node : Node
  pub there : slice_get f.nodes n.0 ≡ Some node
  pub first : FirstOf (IsUndefined f n) (reads node) r
