use Rattle.std.proofs.Common.{ap₂, ◌∙◌}
use Rattle.gates.specs.Bits.{fold_and, fold_xor}
use Rattle.rows.specs.Rows.{fold_mux}
use Rattle.nodes.specs.Nodes.{bit_at}
use Rattle.nodes.proofs.FoldLemmas.{made_bit}
use Rattle.nodes.proofs.GrowthLemmas.{stays, grows_on, grown_all, still_within}
use Rattle.row_nodes.proofs.bits.mux.Goals as goal

pub returns-clause-bit : goal.returns-clause-bit
unfolding fold_mux
returns-clause-bit c =
    let old = c.args.table.now in
    let one = c.xor.new.self in
    let two = c.and.new.self in
    let test = stays old one c.xor.ensures.grows c.args.test c.requires.test in
    let right = stays old two (grows_on old one two c.xor.ensures.grows c.and.ensures.grows) c.args.b c.requires.right in
    made_bit c.xor-2.result (λ k. bit_at c.xor-2.new.self k) _ _ c.xor-2.ensures.bit (ap₂ fold_xor right (c.in_ok-turned.ensures.bit ∙ ap₂ fold_and test c.in_ok-differ.ensures.bit))

pub and-requires-clause-left : goal.and-requires-clause-left
and-requires-clause-left c =
    still_within c.args.table.now c.xor.new.self c.xor.ensures.grows c.args.test c.requires.test

pub xor-requires-2-clause-left : goal.xor-requires-2-clause-left
xor-requires-2-clause-left c =
    let old = c.args.table.now in
    let one = c.xor.new.self in
    let two = c.and.new.self in
    still_within old two (grows_on old one two c.xor.ensures.grows c.and.ensures.grows) c.args.b c.requires.right

pub returns-clause-grows : goal.returns-clause-grows
returns-clause-grows c =
    let old = c.args.table.now in
    let one = c.xor.new.self in
    let two = c.and.new.self in
    let last = c.xor-2.new.self in
    grown_all c.xor-2.result old last (grows_on old two last (grows_on old one two c.xor.ensures.grows c.and.ensures.grows) c.xor-2.ensures.grows)
