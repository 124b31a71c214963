use Rattle.std.proofs.Common.{◌≡◌, take}
use Rattle.await_core.specs.Slots.{capped, task_sum}
use Rattle.await_core.proofs.slots.sum_of.Given as goal

abbrev pub invariant-loop-count : goal.invariant-loop-count
invariant-loop-count l = l.sum ≡ capped (task_sum (take l.count-index l.tasks))
