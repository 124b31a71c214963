use Rattle.std.proofs.Common.{◌≡◌, ◌++◌, drop}
use Rattle.prelude.specs.Shapes as spec
use Rattle.prelude.proofs.shapes.no_names.Given as goal

abbrev pub invariant-loop-reg : goal.invariant-loop-reg
invariant-loop-reg l = l.names.items ++ spec.no_names (drop l._reg-index l.regs) ≡ spec.no_names l.regs
