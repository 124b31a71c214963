use Rattle.std.proofs.Common.{◌≡◌, ◌++◌, map, take}
use Rattle.flat_ir.specs.Registers.{zero_of}
use Rattle.concrete_machine.proofs.calls.add_zeros.Given as goal

abbrev pub invariant-loop-kind : goal.invariant-loop-kind
invariant-loop-kind l = l.regs.items ≡ l.initial.regs.items ++ map zero_of (take l.kind-index l.types)
