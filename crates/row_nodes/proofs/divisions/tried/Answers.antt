use Rattle.std.proofs.Common.{◌-◌, length, take, sym, ap, ap₂, ◌∙◌, subst}
use Rattle.gates.specs.Bits.{fold_not}
use Rattle.nodes.specs.Names.{bits_at, AreWithin}
use Rattle.nodes.proofs.GrowthLemmas.{stays, all_stay, grows_on, bits_at-take, length-bits_at, all_within, still_within, within_take}
use Rattle.rows.specs.Rows.{fold_mux, each, subtracted}
use Rattle.row_nodes.proofs.divisions.tried.Goals as goal

pub returns-clause-fits : goal.returns-clause-fits
returns-clause-fits c =
    let two = c.not.new.self in
    let three = c.subtracted.new.table in
    let four = c.each.new.table in
    stays two four (grows_on two three four c.in_ok-difference.ensures.grows c.in_ok-chosen.ensures.grows) c.in_ok-fits.fits c.in_ok-fits.ensures.within ∙ c.in_ok-fits.ensures.bit ∙ ap fold_not c.in_ok-below.ensures.bit

pub returns-clause-remainder : goal.returns-clause-remainder
returns-clause-remainder c =
    let old = c.args.table.now in
    let one = c.less.new.table in
    let two = c.not.new.self in
    let three = c.subtracted.new.table in
    let four = c.each.new.table in
    let rest = c.args.rest.now in
    let difference = c.in_ok-difference in
    let g2 = grows_on old one two c.in_ok-below.ensures.grows c.not.ensures.grows in
    let g3 = grows_on old two three g2 difference.ensures.grows in
    let fits = stays two three difference.ensures.grows c.in_ok-fits.fits c.in_ok-fits.ensures.within ∙ c.in_ok-fits.ensures.bit ∙ ap fold_not c.in_ok-below.ensures.bit in
    let left = ap (bits_at three) c.deref.ensures.value ∙ difference.ensures.bits ∙ ap₂ subtracted (all_stay old two g2 rest c.requires.left) (all_stay old two g2 c.args.divisor.now c.requires.right) in
    let right = all_stay old three g3 rest c.requires.left in
    let chosen = c.in_ok-chosen.ensures.bits ∙ ap (λ b. each (fold_mux b) (bits_at three c.deref.result.now) (bits_at three rest)) fits ∙ ap₂ (each (fold_mux _)) left right in
    let n = length rest - 1 in
    ap (bits_at four) (c.in_ok-remainder.ensures ∙ ap (take n) c.deref-2.ensures.value) ∙ bits_at-take four n c.in_ok-chosen.chosen.items ∙ ap₂ (λ m bs. take (m - 1) bs) (sym (length-bits_at old rest)) chosen

pub subtracted-requires-clause-left : goal.subtracted-requires-clause-left
subtracted-requires-clause-left c =
    let old = c.args.table.now in
    let one = c.less.new.table in
    let two = c.not.new.self in
    all_within old two (grows_on old one two c.in_ok-below.ensures.grows c.not.ensures.grows) c.args.rest.now c.requires.left

pub subtracted-requires-clause-right : goal.subtracted-requires-clause-right
subtracted-requires-clause-right c =
    let old = c.args.table.now in
    let one = c.less.new.table in
    let two = c.not.new.self in
    all_within old two (grows_on old one two c.in_ok-below.ensures.grows c.not.ensures.grows) c.args.divisor.now c.requires.right

pub each-requires-clause-gate : goal.each-requires-clause-gate
each-requires-clause-gate c =
    still_within c.not.new.self c.subtracted.new.table c.in_ok-difference.ensures.grows c.in_ok-fits.fits c.in_ok-fits.ensures.within

pub each-requires-clause-places : goal.each-requires-clause-places
each-requires-clause-places c =
    ap length c.deref.ensures.value ∙ c.in_ok-difference.ensures.sized

pub each-requires-clause-left : goal.each-requires-clause-left
each-requires-clause-left c =
    subst (AreWithin c.subtracted.new.table) (sym c.deref.ensures.value) c.in_ok-difference.ensures.within

pub each-requires-clause-right : goal.each-requires-clause-right
each-requires-clause-right c =
    let old = c.args.table.now in
    let one = c.less.new.table in
    let two = c.not.new.self in
    let three = c.subtracted.new.table in
    all_within old three (grows_on old one three c.in_ok-below.ensures.grows (grows_on one two three c.not.ensures.grows c.in_ok-difference.ensures.grows)) c.args.rest.now c.requires.left

pub returns-clause-fits_within : goal.returns-clause-fits_within
returns-clause-fits_within c =
    let two = c.not.new.self in
    let three = c.subtracted.new.table in
    let four = c.each.new.table in
    still_within two four (grows_on two three four c.in_ok-difference.ensures.grows c.in_ok-chosen.ensures.grows) c.in_ok-fits.fits c.in_ok-fits.ensures.within

pub returns-clause-within : goal.returns-clause-within
returns-clause-within c =
    let four = c.each.new.table in
    subst (AreWithin four) (sym (c.in_ok-remainder.ensures ∙ ap (take (length c.args.rest.now - 1)) c.deref-2.ensures.value)) (within_take four (length c.args.rest.now - 1) c.in_ok-chosen.chosen.items c.in_ok-chosen.ensures.within)

pub returns-clause-grows : goal.returns-clause-grows
returns-clause-grows c =
    let old = c.args.table.now in
    let one = c.less.new.table in
    let two = c.not.new.self in
    let three = c.subtracted.new.table in
    let four = c.each.new.table in
    grows_on old two four (grows_on old one two c.in_ok-below.ensures.grows c.not.ensures.grows) (grows_on two three four c.in_ok-difference.ensures.grows c.in_ok-chosen.ensures.grows)
