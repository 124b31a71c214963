-- Where a switch leads, and what moves leave, without counting and without the frame that was read.
use Rattle.std.specs.Prelude.{◌≡◌, ℕ, ◌+◌, ◌==◌, if◌then◌else◌, nat_lt, List, [], ◌∷◌, length}
use Rattle.flat_ir.specs.declared.names.NodeId.{NodeId}
use Rattle.flat_ir.specs.declared.names.RegId.{RegId}
use Rattle.flat_ir.specs.declared.nodes.SwitchCase.{SwitchCase}
use Rattle.flat_ir.specs.declared.values.ConcreteValue.{ConcreteValue}
use Rattle.flat_ir.specs.Machine as run
use Rattle.flat_ir.specs.Machine.{set}
use Rattle.concrete_machine.specs.declared.machine.Machine.{Machine}

-- the node of the case that fits, or of the default
abbrev pub target_of : ℕ → List SwitchCase → NodeId → NodeId
target_of v [] otherwise = otherwise
target_of v (c ∷ cs) otherwise = if c.number.bits == v then c.to else target_of v cs otherwise

-- registers set one after another
abbrev pub all_set : List (RegId × ConcreteValue) → run.Frame → run.Frame
all_set [] frame = frame
all_set (pair ∷ pairs) frame = all_set pairs (set pair.0 pair.1 frame)

-- the new machine has read one byte more, unless the input was at its end, and else is the old one
pub record ReadsOn (old new : Machine) (input : List ℕ) : Type 0 where
  pub frame : new.frame ≡ old.frame
  pub callers : new.callers ≡ old.callers
  pub store : new.store ≡ old.store
  pub position : new.position ≡ (if nat_lt old.position (length input) then old.position + 1 else old.position)
  pub output : new.output ≡ old.output
