use Rattle.std.proofs.Common.{◌<◌, ◌-◌, length, arith, sym, ap, ap₂, ◌∙◌, subst}
use Rattle.nodes.specs.Names.{bits_at}
use Rattle.nodes.proofs.GrowthLemmas.{stays, all_stay, grows_on, lent, made, length-bits_at, all_within, grown_on, lent_within, repeated_sized, repeated_within, still_within}
use Rattle.rows.specs.Rows as rows
use Rattle.rows.specs.Rows.{fold_mux, each, fills, moved_down, top}
use Rattle.row_nodes.proofs.RowLemmas.{bits_at-replicate}
use Rattle.row_nodes.proofs.shifts.sign_shifted_down.Goals as goal

pub returns-clause-bits : goal.returns-clause-bits
returns-clause-bits c =
    let old = c.args.table.now in
    let one = c.moved_by.new.table in
    let two = c.too_far.new.table in
    let xs = c.args.xs.now in
    let ys = c.args.ys.now in
    let row = c.in_ok-row in
    let sign = c.top-sign.result in
    let bit = c.top-sign.ensures.bit old in
    let in_table : sign < length old = subst (λ k. k < length old) (sym c.top-sign.ensures.place) (c.requires.left (length xs - 1) (omega (arith, c.requires.some))) in
    let later = grows_on old one two row.ensures.grows c.in_ok-far.ensures.grows in
    let signs = ap (bits_at two) (c.deref.ensures.value ∙ c.in_ok-signs.ensures) ∙ bits_at-replicate two (length xs) sign ∙ ap₂ fills (sym (length-bits_at old xs)) (stays old two later sign in_table ∙ bit) in
    let moved = lent one two row.row.items c.deref-2.result.now c.deref-2.ensures.value c.in_ok-far.ensures.grows row.ensures.within ∙ row.ensures.bits ∙ ap (λ b. rows.moved_by (moved_down b) 1 (bits_at old xs) (bits_at old ys)) bit in
    let far = c.in_ok-far.ensures.bit ∙ ap rows.too_far (all_stay old one row.ensures.grows ys c.requires.right) in
    made c.each.result (λ row. bits_at c.each.new.table row.items) _ _ c.each.ensures.bits (ap (λ f. each (fold_mux f) (bits_at two c.deref.result.now) (bits_at two c.deref-2.result.now)) far ∙ ap₂ (each (fold_mux _)) signs moved)

pub moved_by-requires-clause-way : goal.moved_by-requires-clause-way
moved_by-requires-clause-way c =
    subst (λ k. k < length c.args.table.now) (sym c.top-sign.ensures.place) (c.requires.left (length c.args.xs.now - 1) (omega (arith, c.requires.some)))

pub too_far-requires : goal.too_far-requires
too_far-requires c =
    all_within c.args.table.now c.moved_by.new.table c.in_ok-row.ensures.grows c.args.ys.now c.requires.right

pub each-requires-clause-places : goal.each-requires-clause-places
each-requires-clause-places c =
    repeated_sized (length c.args.xs.now) c.top-sign.result c.deref.result.now (c.deref.ensures.value ∙ c.in_ok-signs.ensures) ∙ sym (ap length c.deref-2.ensures.value ∙ c.in_ok-row.ensures.sized)

pub each-requires-clause-left : goal.each-requires-clause-left
each-requires-clause-left c =
    let old = c.args.table.now in
    let one = c.moved_by.new.table in
    let two = c.too_far.new.table in
    let xs = c.args.xs.now in
    let sign = c.top-sign.result in
    let in_table : sign < length old = subst (λ k. k < length old) (sym c.top-sign.ensures.place) (c.requires.left (length xs - 1) (omega (arith, c.requires.some))) in
    repeated_within two (length xs) sign c.deref.result.now (c.deref.ensures.value ∙ c.in_ok-signs.ensures) (still_within old two (grows_on old one two c.in_ok-row.ensures.grows c.in_ok-far.ensures.grows) sign in_table)

pub each-requires-clause-right : goal.each-requires-clause-right
each-requires-clause-right c =
    lent_within c.moved_by.new.table c.too_far.new.table c.in_ok-row.row.items c.deref-2.result.now c.deref-2.ensures.value c.in_ok-far.ensures.grows c.in_ok-row.ensures.within

pub returns-clause-sized : goal.returns-clause-sized
returns-clause-sized c =
    made c.each.result (λ row. length row.items) _ _ c.each.ensures.sized (repeated_sized (length c.args.xs.now) c.top-sign.result c.deref.result.now (c.deref.ensures.value ∙ c.in_ok-signs.ensures))

pub returns-clause-grows : goal.returns-clause-grows
returns-clause-grows c =
    let old = c.args.table.now in
    let one = c.moved_by.new.table in
    let two = c.too_far.new.table in
    grown_on c.each.result old two c.each.new.table (grows_on old one two c.in_ok-row.ensures.grows c.in_ok-far.ensures.grows) c.each.ensures.grows
