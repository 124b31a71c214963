use Rattle.std.proofs.Common.{◌≡◌, ◌+◌, ◌≤◌, ◌++◌, length, take}
use Rattle.await_core.specs.Meaning.{joined}
use Rattle.await_core.proofs.slots.add_before.Given as goal

abbrev pub invariant-loop-at : goal.invariant-loop-at
invariant-loop-at g l = record {
  leaves : joined (take l.at l.lists.items) ++ l.load.leaves ≡ joined (take l.to l.initial.lists.items) ++ l.initial.load.leaves;
  tasks : l.load.tasks ≡ l.initial.load.tasks;
  room : l.load.room + length (joined (take l.to l.initial.lists.items)) ≡ l.initial.load.room + length (joined (take l.at l.lists.items));
  within : l.at ≤ length l.lists.items;
}

abbrev pub decreases-loop-at : goal.decreases-loop-at
decreases-loop-at g l = l.at
