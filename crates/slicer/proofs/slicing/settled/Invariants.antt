use Rattle.std.proofs.Common.{◌≡◌, ◌-◌, length, count_by}
use Rattle.flat_ir.specs.declared.names.FuncId.{FuncId}
use Rattle.flat_ir.specs.declared.names.Location.{Location}
use Rattle.points_to.specs.Rows.{Tables}
use Rattle.slicer.specs.Facts.{AreGiven}
use Rattle.slicer.specs.Places.{size_of}
use Rattle.slicer.specs.Settling.{nothing, IsReady, IsOnTheWay}
use Rattle.slicer.proofs.slicing.settled.Given as goal

abbrev pub invariant-rounds : goal.invariant-rounds
invariant-rounds l = record {
  size : length l.set.items ≡ size_of l.places.program.now l.places.starts.items;
  way : (t : Tables) (f : FuncId) (at' : Location) → IsReady l.places.program.now t f l.places.starts.items l.looked l.arrows
      → AreGiven l.places.program.now f at' l.places.starts.items nothing l.asked → IsOnTheWay l.places.program.now f at' l.places.starts.items l.set.items;
}

abbrev pub decreases-rounds : goal.decreases-rounds
decreases-rounds l = length l.set.items - count_by (λ b. b) l.set.items
