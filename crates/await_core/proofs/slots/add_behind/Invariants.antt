use Rattle.std.proofs.Common.{◌≡◌, ◌+◌, ◌-◌, ◌≤◌, ◌++◌, length, take, drop}
use Rattle.await_core.specs.Meaning.{joined}
use Rattle.await_core.proofs.slots.add_behind.Given as goal

abbrev pub invariant-loop-at : goal.invariant-loop-at
invariant-loop-at g l = record {
  leaves : l.load.leaves ++ joined (drop l.at l.lists.items) ≡ l.initial.load.leaves ++ joined (drop l.from l.initial.lists.items);
  tasks : l.load.tasks ≡ l.initial.load.tasks;
  room : l.load.room + length (joined (drop l.from l.initial.lists.items)) ≡ l.initial.load.room + length (joined (drop l.at l.lists.items));
  behind : l.from ≤ l.at;
  before : take l.from l.lists.items ≡ take l.from l.initial.lists.items;
  same : length l.lists.items ≡ length l.initial.lists.items;
}

abbrev pub decreases-loop-at : goal.decreases-loop-at
decreases-loop-at g l = length l.initial.lists.items - l.at
