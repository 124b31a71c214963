use Rattle.std.proofs.Common.{◌≡◌, ◌<◌, List, length, Option}
use Rattle.std.specs.Prelude.{vec_capacity}
use Rattle.await_core.specs.declared.record.Record.{Record}
use Rattle.await_core.specs.declared.record.Resumption.{Resumption}
use Rattle.await_core.specs.declared.evaluation.Evaluation.{Evaluation}
use Rattle.await_core.specs.Load.{worth_of}
use Rattle.await_core.specs.Boards.{HomesBelow}
use Rattle.await_core.specs.Rising.{Rises}
use Rattle.await_core.specs.Steps.{HasRoom}
use Rattle.await_core.proofs.settle.settle.Given as goal

abbrev pub invariant-up : goal.invariant-up
invariant-up g l = record {
  within : l.at < length l.records.items;
  homes : HomesBelow 0 l.records.items;
  room : HasRoom l.records.items l.at l.load.room;
  rises : (after : List (Record g.row.N.Denot g.row.L.Denot g.row.R.Denot)) (last : Option (Evaluation g.row.L.Denot)) (made : Option (Resumption g.row.L.Denot g.row.R.Denot))
      → Rises l.records.items l.value l.at (worth_of l.load) after last made → Rises l.initial.records.items l.initial.value l.fn.ticket (worth_of l.fn.load) after last made;
  capacity : vec_capacity l.records ≡ vec_capacity l.initial.records;
}

abbrev pub decreases-up : goal.decreases-up
decreases-up g l = l.at
