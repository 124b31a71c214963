use Rattle.std.proofs.Common.{false, length, sym, ap, ap₂, ◌∙◌}
use Rattle.gates.specs.Bits.{constant, fold_and}
use Rattle.nodes.specs.Nodes.{bit_at}
use Rattle.nodes.specs.Names.{bits_at}
use Rattle.nodes.proofs.GrowthLemmas.{all_stay, grows_on, lent, made, length-bits_at, all_within, grown_on, lent_within, repeated_sized, repeated_within}
use Rattle.rows.specs.Rows.{fills, each, added}
use Rattle.row_nodes.proofs.RowLemmas.{bits_at-replicate}
use Rattle.row_nodes.proofs.MoveLemmas.{masked_each}
use Rattle.row_nodes.proofs.products.added_where.Goals as goal

pub returns-clause-bits : goal.returns-clause-bits
returns-clause-bits c =
    let old = c.args.table.now in
    let one = c.each.new.table in
    let two = c.constant.new.self in
    let xs = c.args.xs.now in
    let m = c.in_ok-masked in
    let tests = ap (bits_at old) (c.deref.ensures.value ∙ c.in_ok-tests.ensures) ∙ bits_at-replicate old (length xs) c.args.test ∙ ap (λ n. fills n (bit_at old c.args.test)) (sym (length-bits_at old xs)) in
    let left = all_stay old two (grows_on old one two m.ensures.grows c.constant.ensures.grows) c.args.sum.now c.requires.left in
    let right = lent one two m.masked.items c.deref-2.result.now c.deref-2.ensures.value c.constant.ensures.grows m.ensures.within ∙ m.ensures.bits ∙ ap (each fold_and (bits_at old xs)) tests ∙ masked_each (bit_at old c.args.test) (bits_at old xs) in
    made c.added.result (λ row. bits_at c.added.new.table row.items) _ _ c.added.ensures.bits (ap (λ b. added b (bits_at two c.args.sum.now) (bits_at two c.deref-2.result.now)) c.in_ok-zero.ensures.bit ∙ ap₂ (added (constant false)) left right)

pub each-requires-clause-places : goal.each-requires-clause-places
each-requires-clause-places c =
    sym (repeated_sized (length c.args.xs.now) c.args.test c.deref.result.now (c.deref.ensures.value ∙ c.in_ok-tests.ensures))

pub each-requires-clause-right : goal.each-requires-clause-right
each-requires-clause-right c =
    repeated_within c.args.table.now (length c.args.xs.now) c.args.test c.deref.result.now (c.deref.ensures.value ∙ c.in_ok-tests.ensures) c.requires.test

pub added-requires-clause-places : goal.added-requires-clause-places
added-requires-clause-places c =
    c.requires.places ∙ sym (ap length c.deref-2.ensures.value ∙ c.in_ok-masked.ensures.sized)

pub added-requires-clause-left : goal.added-requires-clause-left
added-requires-clause-left c =
    let old = c.args.table.now in
    let one = c.each.new.table in
    let two = c.constant.new.self in
    all_within old two (grows_on old one two c.in_ok-masked.ensures.grows c.constant.ensures.grows) c.args.sum.now c.requires.left

pub added-requires-clause-right : goal.added-requires-clause-right
added-requires-clause-right c =
    lent_within c.each.new.table c.constant.new.self c.in_ok-masked.masked.items c.deref-2.result.now c.deref-2.ensures.value c.constant.ensures.grows c.in_ok-masked.ensures.within

pub returns-clause-sized : goal.returns-clause-sized
returns-clause-sized c =
    made c.added.result (λ row. length row.items) _ _ c.added.ensures.sized c.requires.places

pub returns-clause-grows : goal.returns-clause-grows
returns-clause-grows c =
    let old = c.args.table.now in
    let one = c.each.new.table in
    let two = c.constant.new.self in
    grown_on c.added.result old two c.added.new.table (grows_on old one two c.in_ok-masked.ensures.grows c.constant.ensures.grows) c.added.ensures.grows
