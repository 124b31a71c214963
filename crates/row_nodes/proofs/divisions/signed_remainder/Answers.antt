use Rattle.std.proofs.Common.{◌<◌, ◌-◌, length, arith, sym, ap, ap₂, ◌∙◌, subst}
use Rattle.nodes.specs.Names.{bits_at, AreWithin}
use Rattle.nodes.proofs.GrowthLemmas.{stays, made, grown_on, still_within}
use Rattle.rows.specs.Rows.{negated_if}
use Rattle.row_nodes.proofs.divisions.signed_remainder.Goals as goal

pub returns-clause-bits : goal.returns-clause-bits
returns-clause-bits c =
    let old = c.args.table.now in
    let one = c.divided_absolute.new.table in
    let xs = c.args.xs.now in
    let sign = c.top-sign.result in
    let in_table : sign < length old = subst (λ k. k < length old) (sym c.top-sign.ensures.place) (c.requires.left (length xs - 1) (omega (arith, c.requires.some))) in
    let test = stays old one c.in_ok-division.ensures.grows sign in_table ∙ c.top-sign.ensures.bit old in
    let row = ap (bits_at one) c.deref.ensures.value ∙ c.in_ok-division.ensures.remainder in
    made c.negated_where.result (λ row. bits_at c.negated_where.new.table row.items) _ _ c.negated_where.ensures.bits (ap₂ negated_if test row)

pub negated_where-requires-clause-test : goal.negated_where-requires-clause-test
negated_where-requires-clause-test c =
    let old = c.args.table.now in
    let xs = c.args.xs.now in
    let in_table : c.top-sign.result < length old = subst (λ k. k < length old) (sym c.top-sign.ensures.place) (c.requires.left (length xs - 1) (omega (arith, c.requires.some))) in
    still_within old c.divided_absolute.new.table c.in_ok-division.ensures.grows c.top-sign.result in_table

pub negated_where-requires-clause-row : goal.negated_where-requires-clause-row
negated_where-requires-clause-row c =
    subst (AreWithin c.divided_absolute.new.table) (sym c.deref.ensures.value) c.in_ok-division.ensures.remainder_within

pub returns-clause-sized : goal.returns-clause-sized
returns-clause-sized c =
    made c.negated_where.result (λ row. length row.items) _ _ c.negated_where.ensures.sized (ap length c.deref.ensures.value ∙ c.in_ok-division.ensures.remainder_sized)

pub returns-clause-grows : goal.returns-clause-grows
returns-clause-grows c =
    grown_on c.negated_where.result c.args.table.now c.divided_absolute.new.table c.negated_where.new.table c.in_ok-division.ensures.grows c.negated_where.ensures.grows
