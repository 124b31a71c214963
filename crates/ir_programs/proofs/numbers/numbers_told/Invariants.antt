use Rattle.std.proofs.Common.{◌≡◌, ◌≤◌, drop}
use Rattle.ir_programs.specs.Steps.{numbers_left}
use Rattle.ir_programs.proofs.numbers.numbers_told.Given as goal

abbrev pub invariant-each : goal.invariant-each
invariant-each l = record {
  left : numbers_left l.counter.told l.counter.number (drop l.local-index l.locals) ≡ numbers_left l.fn.told 0 l.locals;
  few : l.counter.number ≤ l.local-index;
}
