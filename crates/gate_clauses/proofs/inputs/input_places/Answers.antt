use Rattle.std.proofs.Common.{◌<◌, length, arith, subst}
use Rattle.gate_clauses.specs.Marks.{Notes}
use Rattle.gate_clauses.proofs.MarkLemmas.{places_first, places_unmarked, places_more}
use Rattle.gate_clauses.proofs.inputs.input_places.Goals as goal
use Rattle.gate_clauses.proofs.inputs.input_places.Goals.{then-marks-k, else-marks-k}

pub loop-k-init : goal.loop-k-init
loop-k-init c = places_first c.args.table.now c.args.marks.now c.in_ok-places.places.items c.in_ok-places.ensures

pub loop-k-preserved : goal.loop-k-preserved
loop-k-preserved c =
    let nodes = c.args.table.now in
    let marks = c.args.marks.now in
    let k = c.loop-k.k in
    let low : k < length nodes = omega (arith, c.loop-k-test.true, c.len-len.ensures.len) in
    elim c.if-marks-k.branch [
      | then-marks-k w ↦ rw w.places-is (places_more nodes marks c.loop-k.places.items k low c.loop-k.invariant w.note_input.new.places.items w.if-marks-k.true (subst (λ g. Notes g k c.loop-k.places.items w.note_input.new.places.items) w.node.ensures.node w.note_input.ensures))
      | else-marks-k w ↦ rw w.places-is (places_unmarked nodes marks c.loop-k.places.items k low c.loop-k.invariant w.if-marks-k.false)
    ]
