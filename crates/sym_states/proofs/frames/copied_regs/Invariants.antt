use Rattle.std.proofs.Common.{◌≡◌, take}
use Rattle.sym_states.proofs.frames.copied_regs.Given as goal

abbrev pub invariant-loop-value : goal.invariant-loop-value
invariant-loop-value g l = l.list ≡ take l.value-index l.regs
