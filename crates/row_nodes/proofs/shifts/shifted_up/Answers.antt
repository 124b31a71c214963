use Rattle.std.proofs.Common.{length, take, ◌++◌, ap, ap₂, ◌∙◌}
use Rattle.nodes.specs.Names.{bits_at}
use Rattle.nodes.proofs.GrowthLemmas.{all_stay, grows_on, lent, made, all_within, grown_on, lent_within}
use Rattle.rows.specs.Rows as rows
use Rattle.rows.specs.Rows.{fills, moved_up}
use Rattle.row_nodes.proofs.shifts.shifted_up.Goals as goal

pub returns-clause-bits : goal.returns-clause-bits
returns-clause-bits c =
    let old = c.args.table.now in
    let one = c.constant.new.self in
    let two = c.moved_by.new.table in
    let three = c.too_far.new.table in
    let xs = c.args.xs.now in
    let ys = c.args.ys.now in
    let row = c.in_ok-row in
    let move = ap (λ b by xs. take (length xs) (fills by b ++ xs)) c.in_ok-zero.ensures.bit in
    let left = all_stay old one c.constant.ensures.grows xs c.requires.left in
    let right = all_stay old one c.constant.ensures.grows ys c.requires.right in
    let later = all_stay old two (grows_on old one two c.constant.ensures.grows row.ensures.grows) ys c.requires.right in
    let moved = lent two three row.row.items c.deref.result.now c.deref.ensures.value c.in_ok-far.ensures.grows row.ensures.within ∙ row.ensures.bits ∙ ap (λ m. rows.moved_by m 1 (bits_at one xs) (bits_at one ys)) move ∙ ap₂ (rows.moved_by moved_up 1) left right in
    let far = c.in_ok-far.ensures.bit ∙ ap rows.too_far later in
    made c.guarded.result (λ row. bits_at c.guarded.new.table row.items) _ _ c.guarded.ensures.bits (ap₂ rows.guarded far moved)

pub moved_by-requires-clause-left : goal.moved_by-requires-clause-left
moved_by-requires-clause-left c =
    all_within c.args.table.now c.constant.new.self c.constant.ensures.grows c.args.xs.now c.requires.left

pub moved_by-requires-clause-right : goal.moved_by-requires-clause-right
moved_by-requires-clause-right c =
    all_within c.args.table.now c.constant.new.self c.constant.ensures.grows c.args.ys.now c.requires.right

pub too_far-requires : goal.too_far-requires
too_far-requires c =
    let old = c.args.table.now in
    let one = c.constant.new.self in
    let two = c.moved_by.new.table in
    all_within old two (grows_on old one two c.constant.ensures.grows c.in_ok-row.ensures.grows) c.args.ys.now c.requires.right

pub guarded-requires-clause-row : goal.guarded-requires-clause-row
guarded-requires-clause-row c =
    lent_within c.moved_by.new.table c.too_far.new.table c.in_ok-row.row.items c.deref.result.now c.deref.ensures.value c.in_ok-far.ensures.grows c.in_ok-row.ensures.within

pub returns-clause-sized : goal.returns-clause-sized
returns-clause-sized c =
    made c.guarded.result (λ row. length row.items) _ _ c.guarded.ensures.sized (ap length c.deref.ensures.value ∙ c.in_ok-row.ensures.sized)

pub returns-clause-grows : goal.returns-clause-grows
returns-clause-grows c =
    let old = c.args.table.now in
    let one = c.constant.new.self in
    let two = c.moved_by.new.table in
    let three = c.too_far.new.table in
    grown_on c.guarded.result old three c.guarded.new.table (grows_on old one three c.constant.ensures.grows (grows_on one two three c.in_ok-row.ensures.grows c.in_ok-far.ensures.grows)) c.guarded.ensures.grows
