use Rattle.std.proofs.Common.{◌<◌, ◌+◌, ◌++◌, false, length, take, drop, replicate, get_or, sym, ap, ap₂, ◌∙◌, subst}
use Rattle.std.proofs.lemmas.List.{length-replicate}
use Rattle.gates.specs.Bits.{constant}
use Rattle.nodes.specs.Nodes.{bit_at}
use Rattle.nodes.specs.Names.{bits_at, AreWithin}
use Rattle.nodes.proofs.GrowthLemmas.{stays, still_within, all_stay, all_within, grows_none, grows_on, bits_at-more, length-bits_at, within_replicate, read_within}
use Rattle.rows.specs.Rows.{added, fills, masked, multiplied}
use Rattle.row_nodes.proofs.RowLemmas.{bits_at-replicate}
use Rattle.row_nodes.proofs.MoveLemmas.{up_bits, up_within, up_sized, multiplied-more, multiplied-none}
use Rattle.row_nodes.proofs.products.product.Goals as goal

pub loop-i-init : goal.loop-i-init
loop-i-init c =
    let old = c.args.table.now in
    let one = c.constant.new.self in
    let xs = c.args.xs.now in
    let zero = c.in_ok-zero in
    let grown = c.constant.ensures.grows in
    let zeros = c.in_ok-sum.ensures in
    let same = c.in_ok-moved.ensures.items in
    record {
      start = grows_none one;
      grows = grown;
      sum_within = subst (AreWithin one) (sym zeros) (within_replicate one (length xs) zero.zero zero.ensures.within);
      sum_sized = ap length zeros ∙ length-replicate (length xs) zero.zero;
      moved_within = subst (AreWithin one) (sym same) (all_within old one grown xs c.requires.left);
      moved_sized = ap length same;
      bits = ap₂ (λ s m. multiplied s m (bits_at old c.args.ys.now)) (ap (bits_at one) zeros ∙ bits_at-replicate one (length xs) zero.zero ∙ ap₂ fills (sym (length-bits_at old xs)) zero.ensures.bit) (ap (bits_at one) same ∙ all_stay old one grown xs c.requires.left);
    }

pub loop-i-preserved : goal.loop-i-preserved
loop-i-preserved c =
    let old = c.args.table.now in
    let one = c.constant.new.self in
    let now = c.loop-i.table in
    let next = c.added_where.new.table in
    let ys = c.args.ys.now in
    let i = c.loop-i.i in
    let low : i < length ys = c.loop-i-test.true in
    let at = c.loop-i.invariant in
    let zero = c.in_ok-zero.zero in
    let more = c.in_ok-sum-2.ensures in
    let row = c.loop-i.moved.items in
    let sum = bits_at now c.loop-i.sum.items in
    let moved = bits_at now row in
    let rest = bits_at old (drop (i + 1) ys) in
    let bit = bit_at old (get_or ys i 0) in
    let start = grows_on one now next at.start more.grows in
    let places = c.in_ok-moved-2.ensures ∙ ap (λ ks. take (length ks) (replicate 1 zero ++ ks)) c.deref-in-loop-i-2.ensures.value in
    let test = stays old now at.grows (get_or ys i 0) (c.requires.right i low) in
    let zero_bit = stays one next start zero c.in_ok-zero.ensures.within ∙ c.in_ok-zero.ensures.bit in
    let sums = more.bits ∙ ap₂ (λ s b. added (constant false) s (masked b (bits_at now c.deref-in-loop-i.result.now))) (ap (bits_at now) c.deref.ensures.value) test ∙ ap (λ m. added (constant false) sum (masked bit m)) (ap (bits_at now) c.deref-in-loop-i.ensures.value) in
    let moves = ap (bits_at next) places ∙ up_bits next zero 1 row ∙ ap₂ (λ b m. take (length m) (fills 1 b ++ m)) zero_bit (all_stay now next more.grows row at.moved_within) in
    record {
      start = start;
      grows = grows_on old now next at.grows more.grows;
      sum_within = more.within;
      sum_sized = more.sized ∙ ap length c.deref-in-loop-i.ensures.value ∙ at.moved_sized;
      moved_within = subst (AreWithin next) (sym places) (up_within next zero 1 row (still_within one next start zero c.in_ok-zero.ensures.within) (all_within now next more.grows row at.moved_within));
      moved_sized = ap length places ∙ up_sized zero 1 row ∙ at.moved_sized;
      bits = ap₂ (λ s m. multiplied s m rest) sums moves ∙ sym (multiplied-more sum moved bit rest) ∙ ap (multiplied sum moved) (sym (bits_at-more old ys i low)) ∙ at.bits;
    }

pub returns-clause-bits : goal.returns-clause-bits
returns-clause-bits c =
    let now = c.loop-i.table in
    sym (multiplied-none (bits_at now c.loop-i.sum.items) (bits_at now c.loop-i.moved.items) c.args.table.now c.args.ys.now c.loop-i.i c.loop-i-test.false) ∙ c.loop-i.invariant.bits

pub added_where-requires-clause-test : goal.added_where-requires-clause-test
added_where-requires-clause-test c =
    let low : c.loop-i.i < length c.args.ys.now = c.loop-i-test.true in
    read_within c.args.table.now c.loop-i.table c.loop-i.invariant.grows c.args.ys.now c.requires.right c.loop-i.i low

pub added_where-requires-clause-places : goal.added_where-requires-clause-places
added_where-requires-clause-places c =
    ap length c.deref.ensures.value ∙ c.loop-i.invariant.sum_sized ∙ sym (ap length c.deref-in-loop-i.ensures.value ∙ c.loop-i.invariant.moved_sized)

pub added_where-requires-clause-left : goal.added_where-requires-clause-left
added_where-requires-clause-left c =
    subst (AreWithin c.loop-i.table) (sym c.deref.ensures.value) c.loop-i.invariant.sum_within

pub added_where-requires-clause-right : goal.added_where-requires-clause-right
added_where-requires-clause-right c =
    subst (AreWithin c.loop-i.table) (sym c.deref-in-loop-i.ensures.value) c.loop-i.invariant.moved_within
