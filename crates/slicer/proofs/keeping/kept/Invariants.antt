use Rattle.slicer.specs.Keeping.{AreKept}
use Rattle.slicer.proofs.keeping.kept.Given as goal

abbrev pub invariant-each : goal.invariant-each
invariant-each l = AreKept l.places.program.now l.places.starts.items l.set l.f l.kept
