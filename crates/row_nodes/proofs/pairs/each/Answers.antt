use Rattle.std.proofs.Common.{[], ◌∷◌, ◌<◌, length, get_or, arith, ap, ap₂, ◌∙◌, length-append}
use Rattle.nodes.specs.Nodes.{bit_at}
use Rattle.nodes.proofs.GrowthLemmas.{stays, grows_none, builds_first, builds_more, builds_last, read_within}
use Rattle.row_nodes.specs.Gates.{folded}
use Rattle.row_nodes.proofs.RowLemmas.{each_more, each_past, folded_stays, gate_within}
use Rattle.row_nodes.proofs.pairs.each.Goals as goal

pub loop-i-init : goal.loop-i-init
loop-i-init c = record {
  sized = ap length c.new-row.ensures.items;
  builds = builds_first c.args.table.now c.args.table.now c.new-row.result.items _ (grows_none c.args.table.now) c.new-row.ensures.items;
}

pub loop-i-preserved : goal.loop-i-preserved
loop-i-preserved c =
    let old = c.args.table.now in
    let now = c.loop-i.table in
    let xs = c.args.xs.now in
    let ys = c.args.ys.now in
    let i = c.loop-i.i in
    let low : i < length xs = c.loop-i-test.true in
    let grown = c.loop-i.invariant.builds.grows in
    let left = stays old now grown (get_or xs i 0) (c.requires.left i low) in
    let right = stays old now grown (get_or ys i 0) (c.requires.right i (omega arith)) in
    let bit = c.in_ok-pair.ensures.bit ∙ ap (λ f. f (bit_at now (get_or xs i 0)) (bit_at now (get_or ys i 0))) (folded_stays old now grown c.args.gate c.requires.gate) ∙ ap₂ (folded old c.args.gate) left right in
    record {
      sized = omega (arith, ap length c.in_ok-push.ensures.items, length-append c.loop-i.row.items (c.in_ok-pair.field-0 ∷ []), c.loop-i.invariant.sized);
      builds = builds_more old now c.pair.new.table c.loop-i.row.items c.push.new.self.items c.in_ok-pair.field-0 _ _ _ _ c.loop-i.invariant.builds (each_more (folded old c.args.gate) old xs ys i low c.requires.places) c.in_ok-pair.ensures.grows c.in_ok-pair.ensures.within bit c.in_ok-push.ensures.items;
    }

pub returns-clause-bits : goal.returns-clause-bits
returns-clause-bits c =
    builds_last c.args.table.now c.loop-i.table c.loop-i.row.items _ _ c.loop-i.invariant.builds (each_past (folded c.args.table.now c.args.gate) c.args.table.now c.args.xs.now c.args.ys.now c.loop-i.i c.loop-i-test.false)

pub pair-requires-clause-gate : goal.pair-requires-clause-gate
pair-requires-clause-gate c =
    gate_within c.args.table.now c.loop-i.table c.loop-i.invariant.builds.grows c.args.gate c.requires.gate

pub pair-requires-clause-left : goal.pair-requires-clause-left
pair-requires-clause-left c =
    let low : c.loop-i.i < length c.args.xs.now = c.loop-i-test.true in
    read_within c.args.table.now c.loop-i.table c.loop-i.invariant.builds.grows c.args.xs.now c.requires.left c.loop-i.i low

pub pair-requires-clause-right : goal.pair-requires-clause-right
pair-requires-clause-right c =
    let low : c.loop-i.i < length c.args.xs.now = c.loop-i-test.true in
    read_within c.args.table.now c.loop-i.table c.loop-i.invariant.builds.grows c.args.ys.now c.requires.right c.loop-i.i (omega arith)

pub returns-clause-within : goal.returns-clause-within
returns-clause-within c =
    c.loop-i.invariant.builds.within

pub returns-clause-grows : goal.returns-clause-grows
returns-clause-grows c =
    c.loop-i.invariant.builds.grows
