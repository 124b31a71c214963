use Rattle.std.proofs.Common.{ap, ap₂, ◌∙◌, arith, length, subst, sym}
use Rattle.nodes.specs.Names.{bits_at, AreWithin}
use Rattle.nodes.proofs.GrowthLemmas.{all_stay, lent, made, all_within, grown_on, grows_on, lent_within}
use Rattle.rows.specs.Rows.{absolute, division}
use Rattle.row_nodes.proofs.divisions.divided_absolute.Goals as goal

pub returns-clause-quotient : goal.returns-clause-quotient
returns-clause-quotient c =
    let old = c.args.table.now in
    let one = c.absolute.new.table in
    let two = c.absolute-2.new.table in
    let left = lent one two c.in_ok-left.left.items c.deref.result.now c.deref.ensures.value c.in_ok-right.ensures.grows c.in_ok-left.ensures.within ∙ c.in_ok-left.ensures.bits in
    let right = ap (bits_at two) c.deref-2.ensures.value ∙ c.in_ok-right.ensures.bits ∙ ap absolute (all_stay old one c.in_ok-left.ensures.grows c.args.ys.now c.requires.right) in
    made c.divided.result (λ d. bits_at c.divided.new.table d.quotient.items) _ _ c.divided.ensures.quotient (ap₂ (λ x y. (division x y).quotient) left right)

pub returns-clause-remainder : goal.returns-clause-remainder
returns-clause-remainder c =
    let old = c.args.table.now in
    let one = c.absolute.new.table in
    let two = c.absolute-2.new.table in
    let left = lent one two c.in_ok-left.left.items c.deref.result.now c.deref.ensures.value c.in_ok-right.ensures.grows c.in_ok-left.ensures.within ∙ c.in_ok-left.ensures.bits in
    let right = ap (bits_at two) c.deref-2.ensures.value ∙ c.in_ok-right.ensures.bits ∙ ap absolute (all_stay old one c.in_ok-left.ensures.grows c.args.ys.now c.requires.right) in
    made c.divided.result (λ d. bits_at c.divided.new.table d.remainder.items) _ _ c.divided.ensures.remainder (ap₂ (λ x y. (division x y).remainder) left right)

pub absolute-requires-2-clause-row : goal.absolute-requires-2-clause-row
absolute-requires-2-clause-row c =
    all_within c.args.table.now c.absolute.new.table c.in_ok-left.ensures.grows c.args.ys.now c.requires.right

pub divided-requires-clause-width : goal.divided-requires-clause-width
divided-requires-clause-width c =
    omega (arith, ap length c.deref-2.ensures.value, c.in_ok-right.ensures.sized, c.requires.width)

pub divided-requires-clause-left : goal.divided-requires-clause-left
divided-requires-clause-left c =
    lent_within c.absolute.new.table c.absolute-2.new.table c.in_ok-left.left.items c.deref.result.now c.deref.ensures.value c.in_ok-right.ensures.grows c.in_ok-left.ensures.within

pub divided-requires-clause-right : goal.divided-requires-clause-right
divided-requires-clause-right c =
    subst (AreWithin c.absolute-2.new.table) (sym c.deref-2.ensures.value) c.in_ok-right.ensures.within

pub returns-clause-quotient_sized : goal.returns-clause-quotient_sized
returns-clause-quotient_sized c =
    made c.divided.result (λ d. length d.quotient.items) _ _ c.divided.ensures.quotient_sized (ap length c.deref.ensures.value ∙ c.in_ok-left.ensures.sized)

pub returns-clause-remainder_sized : goal.returns-clause-remainder_sized
returns-clause-remainder_sized c =
    made c.divided.result (λ d. length d.remainder.items) _ _ c.divided.ensures.remainder_sized (ap length c.deref-2.ensures.value ∙ c.in_ok-right.ensures.sized)

pub returns-clause-grows : goal.returns-clause-grows
returns-clause-grows c =
    let old = c.args.table.now in
    let one = c.absolute.new.table in
    let two = c.absolute-2.new.table in
    grown_on c.divided.result old two c.divided.new.table (grows_on old one two c.in_ok-left.ensures.grows c.in_ok-right.ensures.grows) c.divided.ensures.grows
