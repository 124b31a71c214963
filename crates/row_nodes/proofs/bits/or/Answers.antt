use Rattle.std.proofs.Common.{ap, ap₂, ◌∙◌}
use Rattle.nodes.specs.Nodes.{bit_at}
use Rattle.gates.specs.Bits.{fold_and, fold_not}
use Rattle.rows.specs.Rows.{fold_or}
use Rattle.nodes.proofs.GrowthLemmas.{grown_all, grows_on, stays, still_within}
use Rattle.nodes.proofs.FoldLemmas.{made_bit}
use Rattle.row_nodes.proofs.bits.or.Goals as goal

pub not-requires-2 : goal.not-requires-2
not-requires-2 c =
    still_within c.args.table.now c.not.new.self c.not.ensures.grows c.args.b c.requires.right

pub and-requires-clause-left : goal.and-requires-clause-left
and-requires-clause-left c =
    still_within c.not.new.self c.not-2.new.self c.not-2.ensures.grows c.in_ok-a.a c.in_ok-a.ensures.within

pub returns-clause-bit : goal.returns-clause-bit
unfolding fold_or
returns-clause-bit c =
    let old = c.args.table.now in
    let one = c.not.new.self in
    let two = c.not-2.new.self in
    let left = stays one two c.not-2.ensures.grows c.in_ok-a.a c.in_ok-a.ensures.within ∙ c.in_ok-a.ensures.bit in
    let right = c.in_ok-b.ensures.bit ∙ ap fold_not (stays old one c.not.ensures.grows c.args.b c.requires.right) in
    made_bit c.not-3.result (λ k. bit_at c.not-3.new.self k) _ _ c.not-3.ensures.bit (ap fold_not (c.in_ok-neither.ensures.bit ∙ ap₂ fold_and left right))

pub returns-clause-grows : goal.returns-clause-grows
returns-clause-grows c =
    let old = c.args.table.now in
    let one = c.not.new.self in
    let two = c.not-2.new.self in
    let three = c.and.new.self in
    let last = c.not-3.new.self in
    grown_all c.not-3.result old last (grows_on old two last (grows_on old one two c.not.ensures.grows c.not-2.ensures.grows) (grows_on two three last c.and.ensures.grows c.not-3.ensures.grows))
