use Rattle.std.proofs.Common.{◌≡◌, take}
use Rattle.write_log.proofs.items.copy_entries.Given as goal

abbrev pub invariant-loop-entry : goal.invariant-loop-entry
invariant-loop-entry g l = l.list ≡ take l.entry-index l.entries
