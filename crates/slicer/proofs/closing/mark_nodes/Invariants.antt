use Rattle.std.proofs.Common.{◌≡◌, length}
use Rattle.slicer.specs.Closing.{MarksNodes}
use Rattle.slicer.proofs.closing.mark_nodes.Given as goal

abbrev pub invariant-each : goal.invariant-each
invariant-each l = record {
  size : length l.set ≡ length l.fn.set;
  marks : MarksNodes l.places.program.now l.places.starts.items l.func l.n l.nodes l.fn.set l.set;
}
