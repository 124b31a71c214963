use Rattle.std.proofs.Common.{ap, ap₂, ◌∙◌}
use Rattle.gates.specs.Bits.{fold_not, fold_and}
use Rattle.nodes.specs.Nodes.{bit_at}
use Rattle.nodes.proofs.FoldLemmas.{made_bit}
use Rattle.nodes.proofs.GrowthLemmas.{stays, grows_on, grown_all, still_within}
use Rattle.row_nodes.proofs.bits.still_equal.Goals as goal

pub returns-clause-bit : goal.returns-clause-bit
returns-clause-bit c =
    let old = c.args.table.now in
    let one = c.xor.new.self in
    let two = c.not.new.self in
    let so_far = stays old two (grows_on old one two c.xor.ensures.grows c.not.ensures.grows) c.args.equal c.requires.below in
    made_bit c.and.result (λ k. bit_at c.and.new.self k) _ _ c.and.ensures.bit (ap₂ fold_and so_far (c.in_ok-same.ensures.bit ∙ ap fold_not c.in_ok-differ.ensures.bit))

pub and-requires-clause-left : goal.and-requires-clause-left
and-requires-clause-left c =
    let old = c.args.table.now in
    let one = c.xor.new.self in
    let two = c.not.new.self in
    still_within old two (grows_on old one two c.xor.ensures.grows c.not.ensures.grows) c.args.equal c.requires.below

pub returns-clause-grows : goal.returns-clause-grows
returns-clause-grows c =
    let old = c.args.table.now in
    let one = c.xor.new.self in
    let two = c.not.new.self in
    let last = c.and.new.self in
    grown_all c.and.result old last (grows_on old two last (grows_on old one two c.xor.ensures.grows c.not.ensures.grows) c.and.ensures.grows)
