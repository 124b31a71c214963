use Rattle.std.proofs.Common.{◌≡◌, replicate}
use Rattle.flat_ir.specs.declared.nodes.RegType.TheVariants as kind
use Rattle.bench_programs.proofs.pointers.regs_of.Given as goal

abbrev pub invariant-loop : goal.invariant-loop
invariant-loop l = l.regs.items ≡ replicate l.counter kind.Ptr
