-- How often the frames of a run have executed their nodes.
use Rattle.std.specs.Prelude.{ℕ, ◌≤◌}
use Rattle.std.specs.List.{AllByRecursion as Each}
use Rattle.flat_ir.specs.Machine.{Frame, State, Run, On, Over}

-- the frame has executed each node at most n times
abbrev pub CountsTo : ℕ → Frame → Type 0
CountsTo n f = Each (λ k. k ≤ n) f.counts

-- so it is with each frame of the state
abbrev pub StateCountsTo : ℕ → State → Type 0
StateCountsTo n s = CountsTo n s.frame × Each (CountsTo n) s.callers

-- where the run goes on, so it is in its state
abbrev pub RunCountsTo : ℕ → Run → Type 0
RunCountsTo n (On s) = StateCountsTo n s
RunCountsTo n (Over e s) = Unit {0}
