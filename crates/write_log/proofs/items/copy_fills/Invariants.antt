use Rattle.std.proofs.Common.{◌≡◌, take}
use Rattle.write_log.proofs.items.copy_fills.Given as goal

abbrev pub invariant-loop-fill : goal.invariant-loop-fill
invariant-loop-fill g l = l.list ≡ take l.fill-index l.fills
