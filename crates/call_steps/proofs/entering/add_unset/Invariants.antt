use Rattle.std.proofs.Common.{◌≡◌, ◌++◌, map, take, None}
use Rattle.call_steps.proofs.entering.add_unset.Given as goal

abbrev pub invariant-types : goal.invariant-types
invariant-types g l = l.regs ≡ l.fn.regs ++ map (λ t. None) (take l._kind-index l.types)
