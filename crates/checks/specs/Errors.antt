-- Which conditions a program has to meet, and which place is named where it doesn't: the first by function and node; at one node a clash of types comes before
-- a register that may not be set, and that before a bad edge.
use Rattle.std.specs.Prelude.{◌≡◌, ℕ, ◌<◌, false, List, Some, slice_get}
use Rattle.std.specs.List.{Contains}
use Rattle.flat_ir.specs.declared.check.CheckError.{CheckError}
use Rattle.flat_ir.specs.declared.check.CheckError.TheVariants.{Undefined, TypeClash, BadEdge}
use Rattle.flat_ir.specs.declared.names.FuncId.{FuncId}
use Rattle.flat_ir.specs.declared.names.NodeId.{NodeId}
use Rattle.flat_ir.specs.declared.names.RegId.{RegId}
use Rattle.flat_ir.specs.declared.nodes.Node.{Node}
use Rattle.flat_ir.specs.declared.program.Func.{Func}
use Rattle.flow.specs.Paths.{NoneAt, FirstAt, node_of}
use Rattle.checks.specs.Typed.{is_typed}

-- types clash at the node: by what the module's text says of them, or since the node doesn't have the types that it needs
pub data IsClash (funcs : List Func) (f : Func) (n : NodeId) : Type 0 where
  known : Contains f.clashes n → IsClash funcs f n
  mistyped : (x : Node) → slice_get f.nodes n.0 ≡ Some x → is_typed funcs f.regs f.result x ≡ false → IsClash funcs f n

-- a branch goes to the first block, or a phi doesn't fit its block's predecessors, as the module's text says
abbrev pub IsBadEdge : Func → NodeId → Type 0
IsBadEdge f n = Contains f.bad_edges n

-- no condition fails at the node
pub record IsClean (funcs : List Func) (f : Func) (n : NodeId) : Type 0 where
  pub clash : IsClash funcs f n → ⊥
  pub undefined : NoneAt f n
  pub edge : IsBadEdge f n → ⊥

-- the first condition that fails at a node, in the order of the conditions; of several registers the first that the node reads
pub data FailsAt (funcs : List Func) (k : FuncId) (f : Func) (n : NodeId) : CheckError → Type 0 where
  clash : IsClash funcs f n → FailsAt funcs k f n (TypeClash k n)
  undefined : (r : RegId) → (IsClash funcs f n → ⊥) → FirstAt f n r → FailsAt funcs k f n (Undefined k n r)
  edge : (IsClash funcs f n → ⊥) → NoneAt f n → IsBadEdge f n → FailsAt funcs k f n (BadEdge k n)

abbrev pub func_of : ℕ → FuncId
func_of k = record { 0 = k }

-- no condition fails in the function
abbrev pub IsCleanFunc : List Func → Func → Type 0
IsCleanFunc funcs f = (n : ℕ) → IsClean funcs f (node_of n)

-- no condition fails in the first functions, so many of them
abbrev pub AreClean : List Func → ℕ → Type 0
AreClean funcs k = (j : ℕ) → j < k → (f : Func) → slice_get funcs j ≡ Some f → IsCleanFunc funcs f

-- no condition fails in any of the functions
abbrev pub IsChecked : List Func → Type 0
IsChecked funcs = (k : ℕ) (f : Func) → slice_get funcs k ≡ Some f → IsCleanFunc funcs f

-- the condition fails in the function at its lowest node where one does
pub record IsFirstIn (funcs : List Func) (k : FuncId) (f : Func) (e : CheckError) : Type 0 where
  pub node : ℕ
  pub fails : FailsAt funcs k f (node_of node) e
  pub lowest : (m : ℕ) → m < node → IsClean funcs f (node_of m)

-- the condition fails in the lowest function where one does
pub record IsFirstOf (funcs : List Func) (e : CheckError) : Type 0 where
  pub function : ℕ
  pub func : Func
  pub there : slice_get funcs function ≡ Some func
  pub first : IsFirstIn funcs (func_of function) func e
  pub lowest : AreClean funcs function
