use Rattle.std.proofs.Common.{◌<◌, ℕ, Bool, List, get_or}
use Rattle.control_closure.specs.Sums.{SumUp, PartsAt}
use Rattle.control_closure.proofs.closing.part_in.Given as goal

abbrev pub invariant-loop-other : goal.invariant-loop-other
invariant-loop-other l = (g : List (List ℕ)) (kept : ℕ → Bool) → SumUp g kept l.mets → (i : ℕ) → i < l.other-index → PartsAt g kept l.one (get_or l.row i 0) → ⊥
