use Rattle.std.proofs.Common.{ℕ, arith, below_more, get_or}
use Rattle.std.proofs.lemmas.List.Elements.{Contains-get_or}
use Rattle.least.proofs.Bits.{each_contained}
use Rattle.control_closure.specs.Sums.{PartsAt}
use Rattle.control_closure.proofs.SumsUp.{tells_true, tells_false}
use Rattle.control_closure.proofs.closing.part_in.Goals as goal

pub part_at-requires-clause-other : goal.part_at-requires-clause-other
part_at-requires-clause-other c = c.requires.row _ (Contains-get_or c.args.row.now c.loop-other.other-index 0 c.loop-other-test.true)

pub returns-then-part_at : goal.returns-then-part_at
returns-then-part_at c = λ g kept sums. record {
  other = get_or c.args.row.now c.loop-other.other-index 0;
  there = Contains-get_or c.args.row.now c.loop-other.other-index 0 c.loop-other-test.true;
  parts = tells_true _ c.part_at.result (c.part_at.ensures g kept sums) c.if-part_at.true;
}

pub loop-other-preserved : goal.loop-other-preserved
loop-other-preserved c = λ g kept sums.
    below_more (λ (i : ℕ). PartsAt g kept c.args.one (get_or c.args.row.now i 0) → ⊥) c.loop-other.other-index (c.loop-other.invariant g kept sums)
    (tells_false _ c.part_at.result (c.part_at.ensures g kept sums) c.if-part_at.false)

pub returns : goal.returns
returns c = λ g kept sums p. each_contained (λ (x : ℕ). PartsAt g kept c.args.one x → ⊥) c.args.row.now
    (λ i h. c.loop-other.invariant g kept sums i (omega arith)) p.other p.there p.parts
