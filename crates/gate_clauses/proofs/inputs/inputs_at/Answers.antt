use Rattle.std.proofs.Common.{◌≡◌, ◌<◌, ◌≤◌, None, get_or, length, map, sym, subst, ap, ◌∙◌, arith}
use Rattle.std.proofs.lemmas.List.{get_or_default}
use Rattle.gates.specs.Bits.{input}
use Rattle.nodes.specs.Names.{bits_at}
use Rattle.gate_clauses.specs.Marks.{ArePlaces, position}
use Rattle.gate_clauses.proofs.MarkLemmas.{names_first, names_same, names_more, none_of, taken-all}
use Rattle.gate_clauses.proofs.inputs.inputs_at.Goals as goal
use Rattle.gate_clauses.proofs.inputs.inputs_at.Goals.{in-Some+in_ok-push+in_ok-push-2, in_default}

pub loop-j-init : goal.loop-j-init
loop-j-init c =
    names_first c.args.table.now (bits_at c.args.table.now c.args.conjuncts.now) c.new-names.result.items c.new-bits.result.items c.new-names.ensures.items c.new-bits.ensures.items

pub loop-j-preserved : goal.loop-j-preserved
loop-j-preserved c =
    let nodes = c.args.table.now in
    let b = bits_at nodes c.args.conjuncts.now in
    let marks = c.in_ok-marks.marks.items in
    let places = c.in_ok-places.places.items in
    let j = c.loop-j.j in
    let low : j < 512 = c.loop-j-test.true in
    let at : ArePlaces nodes marks (length nodes) places = subst (λ m. ArePlaces nodes m (length nodes) places) c.deref.ensures.value c.in_ok-places.ensures.places in
    let long : j < length places = omega (arith, at.sized) in
    let found : get_or places j None ≡ c.index.result.now = get_or_default places j None c.index.result.now long ∙ sym c.index.ensures in
    elim c.match-index.branch [
      | in-Some+in_ok-push+in_ok-push-2 w ↦ rw (w.names-is, w.bits-is) (names_more nodes b marks places c.input_places.ensures.table c.in_ok-marks.ensures at j low c.loop-j.names.items c.loop-j.bits.items c.loop-j.invariant w.in-Some.k w.push.new.self.items w.push-in-Some.new.self.items (found ∙ w.in-Some.is) w.in_ok-push.ensures.items w.in_ok-push-2.ensures.items)
      | in_default w ↦ rw (w.names-is, w.bits-is) (names_same nodes b marks places c.input_places.ensures.table c.in_ok-marks.ensures at j low c.loop-j.names.items c.loop-j.bits.items c.loop-j.invariant (found ∙ none_of c.index.result.now w.in_default.not-Some))
    ]

pub returns-clause-names : goal.returns-clause-names
returns-clause-names c =
    let b = bits_at c.args.table.now c.args.conjuncts.now in
    let past : 512 ≤ c.loop-j.j = c.loop-j-test.false in
    c.loop-j.invariant.named ∙ ap (map input) (taken-all b c.loop-j.j past)

pub returns-clause-bits : goal.returns-clause-bits
returns-clause-bits c =
    let b = bits_at c.args.table.now c.args.conjuncts.now in
    let past : 512 ≤ c.loop-j.j = c.loop-j-test.false in
    c.loop-j.invariant.positions ∙ ap (map position) (taken-all b c.loop-j.j past)
