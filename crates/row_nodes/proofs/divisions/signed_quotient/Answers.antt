use Rattle.std.proofs.Common.{ap, ap₂, ◌∙◌, arith, length, subst, sym, ◌-◌, ◌<◌}
use Rattle.gates.specs.Bits.{fold_xor}
use Rattle.nodes.specs.Names.{bits_at, AreWithin}
use Rattle.nodes.proofs.GrowthLemmas.{stays, all_stay, made, all_within, grown_on, grows_on, still_within}
use Rattle.rows.specs.Rows.{absolute, division, negated_if}
use Rattle.row_nodes.proofs.divisions.signed_quotient.Goals as goal

pub returns-clause-bits : goal.returns-clause-bits
returns-clause-bits c =
    let old = c.args.table.now in
    let one = c.xor.new.self in
    let two = c.divided_absolute.new.table in
    let grown = c.xor.ensures.grows in
    let test = stays one two c.in_ok-division.ensures.grows c.in_ok-differ.differ c.in_ok-differ.ensures.within ∙ c.in_ok-differ.ensures.bit ∙ ap₂ fold_xor (c.top.ensures.bit old) (c.top-2.ensures.bit old) in
    let row = ap (bits_at two) c.deref.ensures.value ∙ c.in_ok-division.ensures.quotient ∙ ap₂ (λ x y. (division (absolute x) (absolute y)).quotient) (all_stay old one grown c.args.xs.now c.requires.left) (all_stay old one grown c.args.ys.now c.requires.right) in
    made c.negated_where.result (λ row. bits_at c.negated_where.new.table row.items) _ _ c.negated_where.ensures.bits (ap₂ negated_if test row)

pub xor-requires-clause-left : goal.xor-requires-clause-left
xor-requires-clause-left c =
    subst (λ k. k < length c.args.table.now) (sym c.top.ensures.place) (c.requires.left (length c.args.xs.now - 1) (omega (arith, c.requires.some)))

pub xor-requires-clause-right : goal.xor-requires-clause-right
xor-requires-clause-right c =
    subst (λ k. k < length c.args.table.now) (sym c.top-2.ensures.place) (c.requires.right (length c.args.ys.now - 1) (omega (arith, c.requires.divisor)))

pub divided_absolute-requires-clause-left : goal.divided_absolute-requires-clause-left
divided_absolute-requires-clause-left c =
    all_within c.args.table.now c.xor.new.self c.xor.ensures.grows c.args.xs.now c.requires.left

pub divided_absolute-requires-clause-right : goal.divided_absolute-requires-clause-right
divided_absolute-requires-clause-right c =
    all_within c.args.table.now c.xor.new.self c.xor.ensures.grows c.args.ys.now c.requires.right

pub negated_where-requires-clause-test : goal.negated_where-requires-clause-test
negated_where-requires-clause-test c =
    still_within c.xor.new.self c.divided_absolute.new.table c.in_ok-division.ensures.grows c.in_ok-differ.differ c.in_ok-differ.ensures.within

pub negated_where-requires-clause-row : goal.negated_where-requires-clause-row
negated_where-requires-clause-row c =
    subst (AreWithin c.divided_absolute.new.table) (sym c.deref.ensures.value) c.in_ok-division.ensures.quotient_within

pub returns-clause-sized : goal.returns-clause-sized
returns-clause-sized c =
    made c.negated_where.result (λ row. length row.items) _ _ c.negated_where.ensures.sized (ap length c.deref.ensures.value ∙ c.in_ok-division.ensures.quotient_sized)

pub returns-clause-grows : goal.returns-clause-grows
returns-clause-grows c =
    let old = c.args.table.now in
    let one = c.xor.new.self in
    let two = c.divided_absolute.new.table in
    grown_on c.negated_where.result old two c.negated_where.new.table (grows_on old one two c.xor.ensures.grows c.in_ok-division.ensures.grows) c.negated_where.ensures.grows
