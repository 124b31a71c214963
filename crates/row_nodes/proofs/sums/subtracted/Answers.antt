use Rattle.std.proofs.Common.{true, ap, ap₂, ◌∙◌, length, sym}
use Rattle.gates.specs.Bits.{constant}
use Rattle.nodes.specs.Names.{bits_at}
use Rattle.nodes.proofs.GrowthLemmas.{all_stay, grows_on, lent, made, all_within, grown_on, lent_within}
use Rattle.rows.specs.Rows.{added}
use Rattle.row_nodes.proofs.sums.subtracted.Goals as goal

pub returns-clause-bits : goal.returns-clause-bits
returns-clause-bits c =
    let old = c.args.table.now in
    let one = c.inverted.new.table in
    let two = c.constant.new.self in
    let turned = c.in_ok-turned in
    let left = all_stay old two (grows_on old one two turned.ensures.grows c.constant.ensures.grows) c.args.xs.now c.requires.left in
    let right = lent one two turned.turned.items c.deref.result.now c.deref.ensures.value c.constant.ensures.grows turned.ensures.within ∙ turned.ensures.bits in
    made c.added.result (λ row. bits_at c.added.new.table row.items) _ _ c.added.ensures.bits (ap (λ b. added b (bits_at two c.args.xs.now) (bits_at two c.deref.result.now)) c.in_ok-one.ensures.bit ∙ ap₂ (added (constant true)) left right)

pub added-requires-clause-places : goal.added-requires-clause-places
added-requires-clause-places c =
    c.requires.places ∙ sym (ap length c.deref.ensures.value ∙ c.in_ok-turned.ensures.sized)

pub added-requires-clause-left : goal.added-requires-clause-left
added-requires-clause-left c =
    let old = c.args.table.now in
    let one = c.inverted.new.table in
    let two = c.constant.new.self in
    all_within old two (grows_on old one two c.in_ok-turned.ensures.grows c.constant.ensures.grows) c.args.xs.now c.requires.left

pub added-requires-clause-right : goal.added-requires-clause-right
added-requires-clause-right c =
    lent_within c.inverted.new.table c.constant.new.self c.in_ok-turned.turned.items c.deref.result.now c.deref.ensures.value c.constant.ensures.grows c.in_ok-turned.ensures.within

pub returns-clause-grows : goal.returns-clause-grows
returns-clause-grows c =
    let old = c.args.table.now in
    let one = c.inverted.new.table in
    let two = c.constant.new.self in
    grown_on c.added.result old two c.added.new.table (grows_on old one two c.in_ok-turned.ensures.grows c.constant.ensures.grows) c.added.ensures.grows
