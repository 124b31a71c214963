-- The end of a frame: the changes that it adds, one after another, and what a store has to have for them.
use Rattle.std.specs.Prelude.{◌≡◌, ℕ, ◌≤◌, true, List, [], ◌∷◌, Option, Some, None, slice_get, unwrap_or}
use Rattle.flat_ir.specs.declared.names.NodeId.{NodeId}
use Rattle.flat_ir.specs.declared.names.RegId.{RegId}
use Rattle.flat_ir.specs.declared.nodes.Node.{Node}
use Rattle.flat_ir.specs.declared.nodes.Node.TheVariants as node
use Rattle.flat_ir.specs.declared.program.ProgramData.{ProgramData}
use Rattle.flat_ir.specs.History.{Change, History}
use Rattle.flat_ir.specs.Orderly.{is_made}
use Rattle.flat_ir.specs.Machine as run
use Rattle.flat_ir.specs.MadeNames.{count_at, is_alloca, object_of}
use Rattle.flat_ir.specs.Steps.{call_result, call_next}
use Rattle.concrete_memory.specs.declared.objects.Store.{Store}
use Rattle.concrete_memory.specs.Standing.{StandsFor}

-- the history after some changes, one after another
abbrev pub after_all : List Change → History → History
after_all [] h = h
after_all (c ∷ cs) h = after_all cs (c ∷ h)

-- the new store stands for each history that the old one does with these changes more
abbrev pub AddsAll : Store → Store → List Change → Type 0
AddsAll old new cs = (p : ProgramData) (h : History) → StandsFor p old h → StandsFor p new (after_all cs h)

-- the store has what the frame's node made, which was executed so often
pub record KeepsOf (store : Store) (f : run.Frame) (n : NodeId) (count : ℕ) : Type 0 where
  pub program : ProgramData
  pub history : History
  pub stands : StandsFor program store history
  pub made : (k : ℕ) → 1 ≤ k → k ≤ count → is_made (object_of f n k) history ≡ true

-- the store has what those of these nodes made that are Alloca nodes
pub record KeepsAll (store : Store) (f : run.Frame) (nodes : List Node) : Type 0 where
  pub program : ProgramData
  pub history : History
  pub stands : StandsFor program store history
  pub made : (n : NodeId) (k : ℕ) → is_alloca (unwrap_or (slice_get nodes n.0) node.Unreachable) ≡ true → 1 ≤ k → k ≤ count_at f n
      → is_made (object_of f n k) history ≡ true

-- what the code reads of a call's node, where there is one
abbrev pub result_in : Option Node → Option RegId
result_in None = None
result_in (Some n) = call_result n

abbrev pub next_in : Option Node → NodeId
next_in None = record { 0 = 0 }
next_in (Some n) = call_next n
