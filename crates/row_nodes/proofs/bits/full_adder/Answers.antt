use Rattle.std.proofs.Common.{ap₂, ◌∙◌}
use Rattle.gates.specs.Bits.{fold_and, fold_xor}
use Rattle.rows.specs.Rows.{fold_or}
use Rattle.nodes.proofs.GrowthLemmas.{stays, grows_on, still_within}
use Rattle.row_nodes.proofs.bits.full_adder.Goals as goal

pub returns-clause-bit : goal.returns-clause-bit
returns-clause-bit c =
    let old = c.args.table.now in
    let two = c.xor-2.new.self in
    let four = c.and-2.new.self in
    let later = grows_on two four c.or.new.table (grows_on two c.and.new.self four c.and.ensures.grows c.and-2.ensures.grows) c.in_ok-carry.ensures.grows in
    stays two c.or.new.table later c.in_ok-bit.bit c.in_ok-bit.ensures.within ∙ c.in_ok-bit.ensures.bit ∙ ap₂ fold_xor c.in_ok-differ.ensures.bit (stays old c.xor.new.self c.xor.ensures.grows c.args.carry c.requires.carry)

pub returns-clause-carry : goal.returns-clause-carry
returns-clause-carry c =
    let old = c.args.table.now in
    let one = c.xor.new.self in
    let two = c.xor-2.new.self in
    let three = c.and.new.self in
    let four = c.and-2.new.self in
    let g2 = grows_on old one two c.xor.ensures.grows c.xor-2.ensures.grows in
    let g3 = grows_on old two three g2 c.and.ensures.grows in
    let d3 = grows_on one two three c.xor-2.ensures.grows c.and.ensures.grows in
    let differ = stays one three d3 c.in_ok-differ.differ c.in_ok-differ.ensures.within ∙ c.in_ok-differ.ensures.bit in
    let both = stays three four c.and-2.ensures.grows c.in_ok-both.both c.in_ok-both.ensures.within ∙ c.in_ok-both.ensures.bit ∙ ap₂ fold_and (stays old two g2 c.args.a c.requires.left) (stays old two g2 c.args.b c.requires.right) in
    let passed = c.in_ok-passed.ensures.bit ∙ ap₂ fold_and (stays old three g3 c.args.carry c.requires.carry) differ in
    c.in_ok-carry.ensures.bit ∙ ap₂ fold_or both passed

pub xor-requires-2-clause-right : goal.xor-requires-2-clause-right
xor-requires-2-clause-right c =
    still_within c.args.table.now c.xor.new.self c.xor.ensures.grows c.args.carry c.requires.carry

pub and-requires-clause-left : goal.and-requires-clause-left
and-requires-clause-left c =
    let old = c.args.table.now in
    let two = c.xor-2.new.self in
    still_within old two (grows_on old c.xor.new.self two c.xor.ensures.grows c.xor-2.ensures.grows) c.args.a c.requires.left

pub and-requires-clause-right : goal.and-requires-clause-right
and-requires-clause-right c =
    let old = c.args.table.now in
    let two = c.xor-2.new.self in
    still_within old two (grows_on old c.xor.new.self two c.xor.ensures.grows c.xor-2.ensures.grows) c.args.b c.requires.right

pub and-requires-2-clause-left : goal.and-requires-2-clause-left
and-requires-2-clause-left c =
    let old = c.args.table.now in
    let one = c.xor.new.self in
    let two = c.xor-2.new.self in
    let three = c.and.new.self in
    still_within old three (grows_on old one three c.xor.ensures.grows (grows_on one two three c.xor-2.ensures.grows c.and.ensures.grows)) c.args.carry c.requires.carry

pub and-requires-2-clause-right : goal.and-requires-2-clause-right
and-requires-2-clause-right c =
    let one = c.xor.new.self in
    let two = c.xor-2.new.self in
    let three = c.and.new.self in
    still_within one three (grows_on one two three c.xor-2.ensures.grows c.and.ensures.grows) c.in_ok-differ.differ c.in_ok-differ.ensures.within

pub or-requires-clause-left : goal.or-requires-clause-left
or-requires-clause-left c =
    still_within c.and.new.self c.and-2.new.self c.and-2.ensures.grows c.in_ok-both.both c.in_ok-both.ensures.within

pub returns-clause-bit_within : goal.returns-clause-bit_within
returns-clause-bit_within c =
    let two = c.xor-2.new.self in
    let four = c.and-2.new.self in
    let later = grows_on two four c.or.new.table (grows_on two c.and.new.self four c.and.ensures.grows c.and-2.ensures.grows) c.in_ok-carry.ensures.grows in
    still_within two c.or.new.table later c.in_ok-bit.bit c.in_ok-bit.ensures.within

pub returns-clause-grows : goal.returns-clause-grows
returns-clause-grows c =
    let old = c.args.table.now in
    let one = c.xor.new.self in
    let two = c.xor-2.new.self in
    let three = c.and.new.self in
    let four = c.and-2.new.self in
    let last = c.or.new.table in
    grows_on old two last (grows_on old one two c.xor.ensures.grows c.xor-2.ensures.grows) (grows_on two four last (grows_on two three four c.and.ensures.grows c.and-2.ensures.grows) c.in_ok-carry.ensures.grows)
