use Rattle.std.proofs.Common.{◌<◌, ℕ, Bool, get_or}
use Rattle.control_closure.specs.Sums.{SumUp, PartsIn}
use Rattle.control_closure.proofs.closing.parts.Given as goal

abbrev pub invariant-loop-one : goal.invariant-loop-one
invariant-loop-one l = (kept : ℕ → Bool) → SumUp l.graph.succ kept l.mets → (i : ℕ) → i < l.one-index → PartsIn l.graph.succ kept l.row (get_or l.row i 0) → ⊥
