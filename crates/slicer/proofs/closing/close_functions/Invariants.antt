use Rattle.std.proofs.Common.{◌≡◌, length}
use Rattle.slicer.specs.Closing.{ClosesFirst}
use Rattle.slicer.proofs.closing.close_functions.Given as goal

abbrev pub invariant-each : goal.invariant-each
invariant-each l = record {
  size : length l.set ≡ length l.grown;
  closes : ClosesFirst l.places.program.now l.places.starts.items l.looked l.f l.grown l.set;
}
