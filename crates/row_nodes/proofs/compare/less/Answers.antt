use Rattle.std.proofs.Common.{◌<◌, ◌+◌, length, drop, get_or, arith, sym, ap, ap₂, ◌∙◌}
use Rattle.gates.specs.Bits.{fold_xor}
use Rattle.nodes.specs.Nodes.{bit_at}
use Rattle.nodes.specs.Names.{bits_at}
use Rattle.nodes.proofs.GrowthLemmas.{stays, grows_on, read_within}
use Rattle.rows.specs.Rows.{fold_mux, below}
use Rattle.row_nodes.proofs.RowLemmas.{below_more, below_past}
use Rattle.row_nodes.proofs.compare.less.Goals as goal

pub loop-i-preserved : goal.loop-i-preserved
loop-i-preserved c =
    let old = c.args.table.now in
    let xs = c.args.xs.now in
    let ys = c.args.ys.now in
    let i = c.loop-i.i in
    let low : i < length xs = c.loop-i-test.true in
    let grown = c.loop-i.invariant.grows in
    let left = stays old c.loop-i.table grown (get_or xs i 0) (c.requires.left i low) in
    let right = stays old c.loop-i.table grown (get_or ys i 0) (c.requires.right i (omega arith)) in
    let bit = c.in_ok-so_far-2.ensures.bit ∙ ap₂ (λ a b. fold_mux (fold_xor a b) b (bit_at c.loop-i.table c.loop-i.so_far)) left right in
    record {
      grows = grows_on old c.loop-i.table c.still_less.new.table grown c.in_ok-so_far-2.ensures.grows;
      within = c.in_ok-so_far-2.ensures.within;
      bit = ap (λ b. below b (bits_at old (drop (i + 1) xs)) (bits_at old (drop (i + 1) ys))) bit ∙ sym (below_more (bit_at c.loop-i.table c.loop-i.so_far) old xs ys i low c.requires.places) ∙ c.loop-i.invariant.bit;
    }

pub returns-clause-bit : goal.returns-clause-bit
returns-clause-bit c =
    sym (below_past (bit_at c.loop-i.table c.loop-i.so_far) c.args.table.now c.args.xs.now c.args.ys.now c.loop-i.i c.loop-i-test.false) ∙ c.loop-i.invariant.bit

pub loop-i-init : goal.loop-i-init
loop-i-init c =
    record {
      grows = c.constant.ensures.grows;
      within = c.in_ok-so_far.ensures.within;
      bit = ap (λ b. below b (bits_at c.args.table.now c.args.xs.now) (bits_at c.args.table.now c.args.ys.now)) c.in_ok-so_far.ensures.bit;
    }

pub still_less-requires-clause-left : goal.still_less-requires-clause-left
still_less-requires-clause-left c =
    let low : c.loop-i.i < length c.args.xs.now = c.loop-i-test.true in
    read_within c.args.table.now c.loop-i.table c.loop-i.invariant.grows c.args.xs.now c.requires.left c.loop-i.i low

pub still_less-requires-clause-right : goal.still_less-requires-clause-right
still_less-requires-clause-right c =
    let low : c.loop-i.i < length c.args.xs.now = c.loop-i-test.true in
    read_within c.args.table.now c.loop-i.table c.loop-i.invariant.grows c.args.ys.now c.requires.right c.loop-i.i (omega arith)
