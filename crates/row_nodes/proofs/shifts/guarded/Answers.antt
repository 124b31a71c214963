use Rattle.std.proofs.Common.{length, sym, ap, ap₂, ◌∙◌}
use Rattle.gates.specs.Bits.{fold_and}
use Rattle.nodes.specs.Names.{bits_at}
use Rattle.nodes.proofs.GrowthLemmas.{all_stay, made, length-bits_at, all_within, grown_on, repeated_sized, repeated_within}
use Rattle.rows.specs.Rows.{fills, each}
use Rattle.row_nodes.proofs.RowLemmas.{bits_at-replicate}
use Rattle.row_nodes.proofs.MoveLemmas.{guarded_each}
use Rattle.row_nodes.proofs.shifts.guarded.Goals as goal

pub returns-clause-bits : goal.returns-clause-bits
returns-clause-bits c =
    let old = c.args.table.now in
    let one = c.not.new.self in
    let xs = c.args.xs.now in
    let near = c.in_ok-near in
    let left = ap (bits_at one) (c.deref.ensures.value ∙ c.in_ok-tests.ensures) ∙ bits_at-replicate one (length xs) near.near ∙ ap₂ fills (sym (length-bits_at old xs)) near.ensures.bit in
    let right = all_stay old one c.not.ensures.grows xs c.requires.row in
    made c.each.result (λ row. bits_at c.each.new.table row.items) _ _ c.each.ensures.bits (ap₂ (each fold_and) left right ∙ guarded_each _ (bits_at old xs))

pub each-requires-clause-places : goal.each-requires-clause-places
each-requires-clause-places c =
    repeated_sized (length c.args.xs.now) c.in_ok-near.near c.deref.result.now (c.deref.ensures.value ∙ c.in_ok-tests.ensures)

pub each-requires-clause-left : goal.each-requires-clause-left
each-requires-clause-left c =
    repeated_within c.not.new.self (length c.args.xs.now) c.in_ok-near.near c.deref.result.now (c.deref.ensures.value ∙ c.in_ok-tests.ensures) c.in_ok-near.ensures.within

pub each-requires-clause-right : goal.each-requires-clause-right
each-requires-clause-right c =
    all_within c.args.table.now c.not.new.self c.not.ensures.grows c.args.xs.now c.requires.row

pub returns-clause-sized : goal.returns-clause-sized
returns-clause-sized c =
    made c.each.result (λ row. length row.items) _ _ c.each.ensures.sized (repeated_sized (length c.args.xs.now) c.in_ok-near.near c.deref.result.now (c.deref.ensures.value ∙ c.in_ok-tests.ensures))

pub returns-clause-grows : goal.returns-clause-grows
returns-clause-grows c =
    grown_on c.each.result c.args.table.now c.not.new.self c.each.new.table c.not.ensures.grows c.each.ensures.grows
