use Rattle.std.proofs.Common.{◌≡◌}
use Rattle.slicer.specs.Places.{AreRows, start}
use Rattle.slicer.proofs.places.starts.Given as goal

abbrev pub invariant-each : goal.invariant-each
invariant-each l = record {
  rows : AreRows l.program l.f l.starts.items;
  last : start l.starts.items l.f ≡ l.total;
}
