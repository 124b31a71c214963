use Rattle.slicer.specs.Graphs.{AreGraphs}
use Rattle.slicer.proofs.graphs.graphs.Given as goal

abbrev pub invariant-each : goal.invariant-each
invariant-each l = AreGraphs l.program l.f l.graphs.items
