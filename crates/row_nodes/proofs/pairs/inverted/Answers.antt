use Rattle.std.proofs.Common.{[], ◌∷◌, ◌<◌, length, get_or, arith, ap, ◌∙◌, length-append}
use Rattle.gates.specs.Bits.{fold_not}
use Rattle.nodes.proofs.GrowthLemmas.{stays, grows_none, builds_first, builds_more, builds_last, read_within}
use Rattle.row_nodes.proofs.RowLemmas.{inverted_more, inverted_past}
use Rattle.row_nodes.proofs.pairs.inverted.Goals as goal

pub loop-i-init : goal.loop-i-init
loop-i-init c = record {
  sized = ap length c.new-row.ensures.items;
  builds = builds_first c.args.table.now c.args.table.now c.new-row.result.items _ (grows_none c.args.table.now) c.new-row.ensures.items;
}

pub loop-i-preserved : goal.loop-i-preserved
loop-i-preserved c =
    let old = c.args.table.now in
    let now = c.loop-i.table in
    let xs = c.args.xs.now in
    let i = c.loop-i.i in
    let low : i < length xs = c.loop-i-test.true in
    let grown = c.loop-i.invariant.builds.grows in
    let bit = c.in_ok-not.ensures.bit ∙ ap fold_not (stays old now grown (get_or xs i 0) (c.requires i low)) in
    record {
      sized = omega (arith, ap length c.in_ok-push.ensures.items, length-append c.loop-i.row.items (c.in_ok-not.field-0 ∷ []), c.loop-i.invariant.sized);
      builds = builds_more old now c.not.new.self c.loop-i.row.items c.push.new.self.items c.in_ok-not.field-0 _ _ _ _ c.loop-i.invariant.builds (inverted_more old xs i low) c.not.ensures.grows c.in_ok-not.ensures.within bit c.in_ok-push.ensures.items;
    }

pub returns-clause-bits : goal.returns-clause-bits
returns-clause-bits c =
    builds_last c.args.table.now c.loop-i.table c.loop-i.row.items _ _ c.loop-i.invariant.builds (inverted_past c.args.table.now c.args.xs.now c.loop-i.i c.loop-i-test.false)

pub not-requires : goal.not-requires
not-requires c =
    let low : c.loop-i.i < length c.args.xs.now = c.loop-i-test.true in
    read_within c.args.table.now c.loop-i.table c.loop-i.invariant.builds.grows c.args.xs.now c.requires c.loop-i.i low

pub returns-clause-within : goal.returns-clause-within
returns-clause-within c =
    c.loop-i.invariant.builds.within

pub returns-clause-grows : goal.returns-clause-grows
returns-clause-grows c =
    c.loop-i.invariant.builds.grows
