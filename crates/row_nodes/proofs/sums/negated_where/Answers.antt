use Rattle.std.proofs.Common.{ap, ap₂, ◌∙◌, length, subst, sym}
use Rattle.nodes.specs.Names.{bits_at, AreWithin}
use Rattle.nodes.proofs.GrowthLemmas.{stays, all_stay, made, all_within, grown_on, still_within}
use Rattle.rows.specs.Rows.{fold_mux, each}
use Rattle.row_nodes.proofs.sums.negated_where.Goals as goal

pub returns-clause-bits : goal.returns-clause-bits
returns-clause-bits c =
    let old = c.args.table.now in
    let one = c.negated.new.table in
    let opposite = c.in_ok-opposite in
    let xs = c.args.xs.now in
    let left = ap (bits_at one) c.deref.ensures.value ∙ opposite.ensures.bits in
    let right = all_stay old one opposite.ensures.grows xs c.requires.row in
    let test = stays old one opposite.ensures.grows c.args.test c.requires.test in
    made c.each.result (λ row. bits_at c.each.new.table row.items) _ _ c.each.ensures.bits (ap (λ t. each (fold_mux t) (bits_at one c.deref.result.now) (bits_at one xs)) test ∙ ap₂ (each (fold_mux _)) left right)

pub each-requires-clause-gate : goal.each-requires-clause-gate
each-requires-clause-gate c =
    still_within c.args.table.now c.negated.new.table c.in_ok-opposite.ensures.grows c.args.test c.requires.test

pub each-requires-clause-places : goal.each-requires-clause-places
each-requires-clause-places c =
    ap length c.deref.ensures.value ∙ c.in_ok-opposite.ensures.sized

pub each-requires-clause-left : goal.each-requires-clause-left
each-requires-clause-left c =
    subst (AreWithin c.negated.new.table) (sym c.deref.ensures.value) c.in_ok-opposite.ensures.within

pub each-requires-clause-right : goal.each-requires-clause-right
each-requires-clause-right c =
    all_within c.args.table.now c.negated.new.table c.in_ok-opposite.ensures.grows c.args.xs.now c.requires.row

pub returns-clause-sized : goal.returns-clause-sized
returns-clause-sized c =
    made c.each.result (λ row. length row.items) _ _ c.each.ensures.sized (ap length c.deref.ensures.value ∙ c.in_ok-opposite.ensures.sized)

pub returns-clause-grows : goal.returns-clause-grows
returns-clause-grows c =
    grown_on c.each.result c.args.table.now c.negated.new.table c.each.new.table c.in_ok-opposite.ensures.grows c.each.ensures.grows
