use Rattle.std.proofs.Common.{[], ◌∷◌, ◌<◌, ◌+◌, length, drop, get_or, arith, sym, ap, ap₂, ◌∙◌, length-append}
use Rattle.gates.specs.Bits.{fold_and, fold_xor}
use Rattle.nodes.specs.Nodes.{bit_at}
use Rattle.nodes.specs.Names.{bits_at}
use Rattle.nodes.proofs.GrowthLemmas.{stays, grows_none, builds_first, builds_more, builds_last, read_within}
use Rattle.rows.specs.Rows as rows
use Rattle.rows.specs.Rows.{fold_or}
use Rattle.row_nodes.proofs.RowLemmas.{added_more, added_past}
use Rattle.row_nodes.proofs.sums.added.Goals as goal

pub loop-i-init : goal.loop-i-init
loop-i-init c = record {
  within = c.requires.carry;
  sized = ap length c.new-row.ensures.items;
  builds = builds_first c.args.table.now c.args.table.now c.new-row.result.items _ (grows_none c.args.table.now) c.new-row.ensures.items;
}

pub loop-i-preserved : goal.loop-i-preserved
loop-i-preserved c =
    let old = c.args.table.now in
    let now = c.loop-i.table in
    let xs = c.args.xs.now in
    let ys = c.args.ys.now in
    let i = c.loop-i.i in
    let low : i < length xs = c.loop-i-test.true in
    let grown = c.loop-i.invariant.builds.grows in
    let carry = bit_at now c.loop-i.carry in
    let left = stays old now grown (get_or xs i 0) (c.requires.left i low) in
    let right = stays old now grown (get_or ys i 0) (c.requires.right i (omega arith)) in
    let bit = c.in_ok-sum.ensures.bit ∙ ap₂ (λ a b. fold_xor (fold_xor a b) carry) left right in
    let next = c.in_ok-sum.ensures.carry ∙ ap₂ (λ a b. fold_or (fold_and a b) (fold_and carry (fold_xor a b))) left right in
    record {
      within = c.in_ok-sum.ensures.carry_within;
      sized = omega (arith, ap length c.in_ok-push.ensures.items, length-append c.loop-i.row.items (c.in_ok-sum.sum.bit ∷ []), c.loop-i.invariant.sized);
      builds = builds_more old now c.full_adder.new.table c.loop-i.row.items c.push.new.self.items c.in_ok-sum.sum.bit _ _ _ _ c.loop-i.invariant.builds (added_more carry old xs ys i low c.requires.places ∙ ap (λ d. fold_xor (fold_xor (bit_at old (get_or xs i 0)) (bit_at old (get_or ys i 0))) carry ∷ rows.added d (bits_at old (drop (i + 1) xs)) (bits_at old (drop (i + 1) ys))) (sym next)) c.in_ok-sum.ensures.grows c.in_ok-sum.ensures.bit_within bit c.in_ok-push.ensures.items;
    }

pub returns-clause-bits : goal.returns-clause-bits
returns-clause-bits c =
    builds_last c.args.table.now c.loop-i.table c.loop-i.row.items _ _ c.loop-i.invariant.builds (added_past (bit_at c.loop-i.table c.loop-i.carry) c.args.table.now c.args.xs.now c.args.ys.now c.loop-i.i c.loop-i-test.false)

pub full_adder-requires-clause-left : goal.full_adder-requires-clause-left
full_adder-requires-clause-left c =
    let low : c.loop-i.i < length c.args.xs.now = c.loop-i-test.true in
    read_within c.args.table.now c.loop-i.table c.loop-i.invariant.builds.grows c.args.xs.now c.requires.left c.loop-i.i low

pub full_adder-requires-clause-right : goal.full_adder-requires-clause-right
full_adder-requires-clause-right c =
    let low : c.loop-i.i < length c.args.xs.now = c.loop-i-test.true in
    read_within c.args.table.now c.loop-i.table c.loop-i.invariant.builds.grows c.args.ys.now c.requires.right c.loop-i.i (omega arith)

pub returns-clause-within : goal.returns-clause-within
returns-clause-within c =
    c.loop-i.invariant.builds.within

pub returns-clause-grows : goal.returns-clause-grows
returns-clause-grows c =
    c.loop-i.invariant.builds.grows
