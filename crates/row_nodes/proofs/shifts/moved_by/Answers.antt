use Rattle.std.proofs.Common.{◌≡◌, ◌<◌, ◌+◌, ◌*◌, length, drop, get_or, arith, sym, ap, ap₂, ◌∙◌, subst, length-append}
use Rattle.nodes.specs.Nodes.{bit_at}
use Rattle.nodes.specs.Names.{bits_at, AreWithin}
use Rattle.nodes.proofs.GrowthLemmas.{stays, grows_none, grows_on, bits_at-more, length-bits_at, read_within}
use Rattle.rows.specs.Rows as rows
use Rattle.rows.specs.Rows.{fold_mux, each}
use Rattle.row_nodes.specs.Moves.{bits_moved}
use Rattle.row_nodes.proofs.MoveLemmas.{move_stays, moved_by-more, moved_by-far, moved_by-none, fills_within}
use Rattle.row_nodes.proofs.shifts.moved_by.Goals as goal

pub loop-i-init : goal.loop-i-init
loop-i-init c =
    let old = c.args.table.now in
    let same = c.in_ok-row.ensures.items in
    record {
      grows = grows_none old;
      within = subst (AreWithin old) (sym same) c.requires.left;
      sized = ap length same;
      bits = ap (λ ks. rows.moved_by (bits_moved old c.args.way) 1 (bits_at old ks) (bits_at old c.args.ys.now)) same;
    }

pub loop-i-preserved : goal.loop-i-preserved
loop-i-preserved c =
    let old = c.args.table.now in
    let now = c.loop-i.table in
    let next = c.moved_where.new.table in
    let ys = c.args.ys.now in
    let i = c.loop-i.i in
    let by = c.loop-i.by in
    let low : i < length ys = c.loop-i-test.true in
    let grown = c.loop-i.invariant.grows in
    let move = bits_moved old c.args.way in
    let row = bits_at now c.loop-i.row.items in
    let rest = bits_at old (drop (i + 1) ys) in
    let bit = bit_at old (get_or ys i 0) in
    let near : by < length row = omega (arith, length-bits_at now c.loop-i.row.items, c.loop-i.invariant.sized, c.if-by-xs.false) in
    let twice : by * 2 ≡ 2 * by = omega arith in
    let test = stays old now grown (get_or ys i 0) (c.requires.right i low) in
    let lent_row = ap (bits_at now) c.deref.ensures.value in
    let made = c.in_ok-row-2.ensures.bits ∙ ap₂ (λ b x. each (fold_mux b) (bits_moved now c.args.way by x) x) test lent_row ∙ ap (λ m. each (fold_mux bit) (m by row) row) (move_stays old now grown c.args.way c.requires.way) in
    record {
      grows = grows_on old now next grown c.in_ok-row-2.ensures.grows;
      within = c.in_ok-row-2.ensures.within;
      sized = c.in_ok-row-2.ensures.sized ∙ ap length c.deref.ensures.value ∙ c.loop-i.invariant.sized;
      bits = ap₂ (λ n x. rows.moved_by move n x rest) twice made ∙ sym (moved_by-more move by row bit rest near) ∙ ap (rows.moved_by move by row) (sym (bits_at-more old ys i low)) ∙ c.loop-i.invariant.bits;
    }

pub returns-then-by-xs-clause-bits : goal.returns-then-by-xs-clause-bits
returns-then-by-xs-clause-bits c =
    let old = c.args.table.now in
    let row = bits_at c.loop-i.table c.loop-i.row.items in
    sym (moved_by-far (bits_moved old c.args.way) c.loop-i.by row (bits_at old (drop c.loop-i.i c.args.ys.now)) (omega (arith, length-bits_at c.loop-i.table c.loop-i.row.items, c.loop-i.invariant.sized, c.if-by-xs.true))) ∙ c.loop-i.invariant.bits

pub returns-clause-bits : goal.returns-clause-bits
returns-clause-bits c =
    let old = c.args.table.now in
    let row = bits_at c.loop-i.table c.loop-i.row.items in
    sym (moved_by-none (bits_moved old c.args.way) c.loop-i.by row old c.args.ys.now c.loop-i.i c.loop-i-test.false) ∙ c.loop-i.invariant.bits

pub moved_where-requires-clause-test : goal.moved_where-requires-clause-test
moved_where-requires-clause-test c =
    let low : c.loop-i.i < length c.args.ys.now = c.loop-i-test.true in
    read_within c.args.table.now c.loop-i.table c.loop-i.invariant.grows c.args.ys.now c.requires.right c.loop-i.i low

pub moved_where-requires-clause-way : goal.moved_where-requires-clause-way
moved_where-requires-clause-way c =
    let old = c.args.table.now in
    let now = c.loop-i.table in
    fills_within old now (omega (arith, length-append old c.loop-i.invariant.grows.0, ap length c.loop-i.invariant.grows.1)) c.args.way c.requires.way

pub moved_where-requires-clause-by : goal.moved_where-requires-clause-by
moved_where-requires-clause-by c =
    omega (arith, ap length c.deref.ensures.value, c.loop-i.invariant.sized, c.if-by-xs.false)

pub moved_where-requires-clause-row : goal.moved_where-requires-clause-row
moved_where-requires-clause-row c =
    subst (AreWithin c.loop-i.table) (sym c.deref.ensures.value) c.loop-i.invariant.within
