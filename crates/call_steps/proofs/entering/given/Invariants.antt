use Rattle.std.proofs.Common.{◌≡◌, ◌++◌, map, Some}
use Rattle.call_steps.proofs.entering.given.Given as goal

abbrev pub invariant-values : goal.invariant-values
invariant-values g l = l.regs ++ map Some l.value-iterator.rest.items ≡ map Some l.fn.args
