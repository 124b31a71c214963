use Rattle.std.proofs.Common.{true, length, sym, ap, ap₂, ◌∙◌}
use Rattle.gates.specs.Bits.{constant}
use Rattle.nodes.specs.Names.{bits_at}
use Rattle.nodes.proofs.GrowthLemmas.{stays, grows_on, lent, made, length-bits_at, grown_on, lent_within, repeated_sized, repeated_within, still_within}
use Rattle.rows.specs.Rows.{added, fills}
use Rattle.row_nodes.proofs.RowLemmas.{bits_at-replicate}
use Rattle.row_nodes.proofs.sums.negated.Goals as goal

pub returns-clause-bits : goal.returns-clause-bits
returns-clause-bits c =
    let old = c.args.table.now in
    let one = c.inverted.new.table in
    let two = c.constant.new.self in
    let three = c.constant-2.new.self in
    let xs = c.args.xs.now in
    let turned = c.in_ok-turned in
    let later = grows_on one two three c.constant.ensures.grows c.constant-2.ensures.grows in
    let left = lent one three turned.turned.items c.deref.result.now c.deref.ensures.value later turned.ensures.within ∙ turned.ensures.bits in
    let zero = stays two three c.constant-2.ensures.grows c.in_ok-zero.zero c.in_ok-zero.ensures.within ∙ c.in_ok-zero.ensures.bit in
    let right = ap (bits_at three) (c.deref-2.ensures.value ∙ c.in_ok-zeros.ensures) ∙ bits_at-replicate three (length xs) c.in_ok-zero.zero ∙ ap₂ fills (sym (length-bits_at old xs)) zero in
    made c.added.result (λ row. bits_at c.added.new.table row.items) _ _ c.added.ensures.bits (ap (λ b. added b (bits_at three c.deref.result.now) (bits_at three c.deref-2.result.now)) c.in_ok-one.ensures.bit ∙ ap₂ (added (constant true)) left right)

pub added-requires-clause-places : goal.added-requires-clause-places
added-requires-clause-places c =
    let xs = c.args.xs.now in
    ap length c.deref.ensures.value ∙ c.in_ok-turned.ensures.sized ∙ sym (repeated_sized (length xs) c.in_ok-zero.zero c.deref-2.result.now (c.deref-2.ensures.value ∙ c.in_ok-zeros.ensures))

pub added-requires-clause-left : goal.added-requires-clause-left
added-requires-clause-left c =
    let later = grows_on c.inverted.new.table c.constant.new.self c.constant-2.new.self c.constant.ensures.grows c.constant-2.ensures.grows in
    lent_within c.inverted.new.table c.constant-2.new.self c.in_ok-turned.turned.items c.deref.result.now c.deref.ensures.value later c.in_ok-turned.ensures.within

pub added-requires-clause-right : goal.added-requires-clause-right
added-requires-clause-right c =
    let two = c.constant.new.self in
    let three = c.constant-2.new.self in
    repeated_within three (length c.args.xs.now) c.in_ok-zero.zero c.deref-2.result.now (c.deref-2.ensures.value ∙ c.in_ok-zeros.ensures) (still_within two three c.constant-2.ensures.grows c.in_ok-zero.zero c.in_ok-zero.ensures.within)

pub returns-clause-sized : goal.returns-clause-sized
returns-clause-sized c =
    made c.added.result (λ row. length row.items) _ _ c.added.ensures.sized (ap length c.deref.ensures.value ∙ c.in_ok-turned.ensures.sized)

pub returns-clause-grows : goal.returns-clause-grows
returns-clause-grows c =
    let old = c.args.table.now in
    let one = c.inverted.new.table in
    let two = c.constant.new.self in
    let three = c.constant-2.new.self in
    grown_on c.added.result old three c.added.new.table (grows_on old one three c.in_ok-turned.ensures.grows (grows_on one two three c.constant.ensures.grows c.constant-2.ensures.grows)) c.added.ensures.grows
