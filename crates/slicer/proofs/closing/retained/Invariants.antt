use Rattle.std.proofs.Common.{ℕ, ◌≡◌, ◌<◌, length}
use Rattle.least.specs.Sets.{has}
use Rattle.slicer.specs.declared.marks.Mark.TheVariants.{Kept}
use Rattle.slicer.specs.Closing.{node}
use Rattle.slicer.specs.Places.{marked}
use Rattle.slicer.proofs.closing.retained.Given as goal

abbrev pub invariant-each : goal.invariant-each
invariant-each l = record {
  size : length l.bits.items ≡ l.n;
  bits : (k : ℕ) → k < l.n → has l.bits.items k ≡ marked l.places.program.now l.places.starts.items l.set (Kept l.func (node k));
}
