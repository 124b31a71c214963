use Rattle.std.proofs.Common.{◌≡◌, ◌+◌, ◌^◌, ◌%◌}
use Rattle.flat_ir.specs.Registers.{first_of}
use Rattle.write_log.proofs.covers.numbers_from.Given as goal

abbrev pub invariant-loop-j : goal.invariant-loop-j
invariant-loop-j l = l.list ≡ first_of l.j 0 (λ j. (l.first + j) % 2 ^ 64)
