-- What an exploration tells, with no table of terms in it.
use Rattle.std.specs.Prelude.{ℕ, List, Option}
use Rattle.terms.specs.Tree.{Tree}
use Rattle.flat_ir.specs.declared.names.FuncId.{FuncId}
use Rattle.flat_ir.specs.declared.names.NodeId.{NodeId}
use Rattle.flat_ir.specs.declared.values.FaultKind.{FaultKind}
use Rattle.sym_bytes.specs.declared.names.CallId.{CallId}
use Rattle.sym_bytes.specs.Entry.{Entry}
use Rattle.sym_bytes.specs.Value.{SymValue}
use Rattle.leaves.specs.declared.options.Cause.{Cause}

-- a branch or a switch of a function took a side, numbered as its successors are; a load gave a value
pub data Event : Type 0 where
  Branch : (func : FuncId) (node : NodeId) (side : ℕ) → Event
  Load : (func : FuncId) (node : NodeId) (value : SymValue) → Event

-- a skipped call, and its recovered result
pub record Recovered : Type 0 where
  pub call : CallId
  pub value : SymValue

-- a leaf's condition, its kept input where there is one, its branches and loads, the oldest first, the recovered results by
-- their calls, and the steps that it left
pub record Told : Type 0 where
  pub condition : List Tree
  pub kept : Option (List ℕ)
  pub path : List Event
  pub results : List Recovered
  pub left : ℕ

-- The program ends with a status, or has a fault, having written these bytes out; a skipped call has a fault, and so doesn't
-- return; the exploration stopped; a recovery is done, with what its call changed in a location, the newest first, or returned.
pub data Leaf : Type 0 where
  Complete : (told : Told) (status : Tree) (output : List Tree) → Leaf
  Fault : (told : Told) (kind : FaultKind) (func : FuncId) (node : NodeId) (output : List Tree) → Leaf
  Skipped : (told : Told) (kind : FaultKind) (func : FuncId) (node : NodeId) → Leaf
  Open : (told : Told) (cause : Cause) → Leaf
  Done : (told : Told) (entries : List Entry) (result : Option SymValue) → Leaf

abbrev pub told_of : Leaf → Told
told_of (Complete told status output) = told
told_of (Fault told kind func n output) = told
told_of (Skipped told kind func n) = told
told_of (Open told cause) = told
told_of (Done told entries result) = told
