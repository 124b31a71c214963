use Rattle.std.proofs.Common.{ℕ, arith, below_more, get_or}
use Rattle.std.proofs.lemmas.List.Elements.{Contains-get_or}
use Rattle.least.proofs.Bits.{each_contained}
use Rattle.control_closure.specs.Sums.{PartsIn}
use Rattle.control_closure.proofs.WalkSets.{in_graph}
use Rattle.control_closure.proofs.SumsUp.{tells_true, tells_false, parts_there, parts_among}
use Rattle.control_closure.proofs.closing.parts.Goals as goal

pub part_in-requires-clause-one : goal.part_in-requires-clause-one
part_in-requires-clause-one c =
    let h = in_graph c.args.graph.now.succ c.args.node c.successors-row.result.now c.requires.graph c.successors-row.ensures _
    (Contains-get_or c.successors-row.result.now c.loop-one.one-index 0 c.loop-one-test.true) in
    omega (arith, h, c.requires.size)

pub part_in-requires-clause-row : goal.part_in-requires-clause-row
part_in-requires-clause-row c = λ k there.
    let h = in_graph c.args.graph.now.succ c.args.node c.successors-row.result.now c.requires.graph c.successors-row.ensures k there in
    omega (arith, h, c.requires.size)

pub returns-then-part_in : goal.returns-then-part_in
returns-then-part_in c = λ kept sums.
    parts_there c.args.graph.now.succ kept c.args.node _ c.successors-row.result.now c.successors-row.ensures
    (Contains-get_or c.successors-row.result.now c.loop-one.one-index 0 c.loop-one-test.true)
    (tells_true _ c.part_in.result (c.part_in.ensures c.args.graph.now.succ kept sums) c.if-part_in.true)

pub loop-one-preserved : goal.loop-one-preserved
loop-one-preserved c = λ kept sums.
    below_more (λ (i : ℕ). PartsIn c.args.graph.now.succ kept c.successors-row.result.now (get_or c.successors-row.result.now i 0) → ⊥) c.loop-one.one-index
    (c.loop-one.invariant kept sums) (tells_false _ c.part_in.result (c.part_in.ensures c.args.graph.now.succ kept sums) c.if-part_in.false)

pub returns : goal.returns
returns c = λ kept sums p.
    let there = parts_among c.args.graph.now.succ kept c.args.node c.successors-row.result.now c.successors-row.ensures p in
    each_contained (λ (x : ℕ). PartsIn c.args.graph.now.succ kept c.successors-row.result.now x → ⊥) c.successors-row.result.now
    (λ i h. c.loop-one.invariant kept sums i (omega arith)) p.one there.0 there.1
