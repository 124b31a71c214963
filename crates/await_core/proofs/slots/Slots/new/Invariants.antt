use Rattle.std.proofs.Common.{◌≡◌, length}
use Rattle.await_core.specs.Slots.{no_lists, slots_view, empty_count}
use Rattle.await_core.proofs.slots.Slots.new.Given as goal

abbrev pub invariant-loop-slot : goal.invariant-loop-slot
invariant-loop-slot g l = record {
  lists : length l.lists.items ≡ l._slot;
  tasks : length l.tasks.items ≡ l._slot;
  view : slots_view l.lists.items l.tasks.items ≡ no_lists l._slot;
  empty : empty_count l.tasks.items ≡ l._slot;
}
