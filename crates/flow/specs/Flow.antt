-- Whether each register is set on every path to where it is read: the rule of well formed programs in the LLVM Language Reference
-- (section "Well-Formedness": a definition dominates all of its uses), said over the paths of one function.
use Rattle.std.specs.Prelude.{◌≡◌, ◌<◌, ◌≤◌, List, [], ◌∷◌, ◌++◌, Some, slice_get}
use Rattle.std.specs.List.{Contains, flat_map}
use Rattle.flat_ir.specs.declared.names.NodeId.{NodeId}
use Rattle.flat_ir.specs.declared.names.RegId.{RegId}
use Rattle.flat_ir.specs.declared.nodes.Node.{Node}
use Rattle.flat_ir.specs.declared.nodes.Operand.{Operand}
use Rattle.flat_ir.specs.declared.nodes.Operand.TheVariants as operand
use Rattle.flat_ir.specs.declared.program.Func.{Func}
use Rattle.flat_ir.specs.Whole.{operands_of, results_of, successors_of}

-- from its entry, node 0, the function may execute the nodes `before`, the last first, and then come to node n
pub data Leads (f : Func) : List NodeId → NodeId → Type 0 where
  entry : Leads f [] (record { 0 = 0 })
  goes : {before : List NodeId} {n m : NodeId} (x : Node) → Leads f before n → slice_get f.nodes n.0 ≡ Some x → Contains (successors_of x) m → Leads f (n ∷ before) m

-- the register that an operand reads
abbrev pub read_by : Operand → List RegId
read_by (operand.Reg r) = r ∷ []
read_by (operand.Int n) = []
read_by operand.Null = []
read_by (operand.Global g offset) = []

-- the registers that a node reads, in the order of its operands
abbrev pub reads : Node → List RegId
reads x = flat_map read_by (operands_of x)

-- one of the nodes sets r
pub record IsSet (f : Func) (before : List NodeId) (r : RegId) : Type 0 where
  pub at' : NodeId
  pub node : Node
  pub among : Contains before at'
  pub there : slice_get f.nodes at'.0 ≡ Some node
  pub sets : Contains (results_of node) r

-- node n reads r, which is no parameter, and on some path that leads to n no node before it sets r
pub record IsUndefined (f : Func) (n : NodeId) (r : RegId) : Type 0 where
  pub node : Node
  pub there : slice_get f.nodes n.0 ≡ Some node
  pub read : Contains (reads node) r
  pub no_param : f.params ≤ r.0
  pub before : List NodeId
  pub leads : Leads f before n
  pub unset : IsSet f before r → ⊥

-- on every path each register is set before it is read
abbrev pub AreDefined : Func → Type 0
AreDefined f = (n : NodeId) (r : RegId) → IsUndefined f n r → ⊥

-- n is the lowest node with such a register, and r the first such register among those that it reads
pub record IsFirst (f : Func) (n : NodeId) (r : RegId) : Type 0 where
  pub undefined : IsUndefined f n r
  pub lowest : (m : NodeId) (s : RegId) → m.0 < n.0 → IsUndefined f m s → ⊥
  pub node : Node
  pub there : slice_get f.nodes n.0 ≡ Some node
  pub front : List RegId
  pub rest : List RegId
  pub order : reads node ≡ front ++ r ∷ rest
  pub earlier : (s : RegId) → Contains front s → IsUndefined f n s → ⊥
