use Rattle.std.proofs.Common.{ap, ◌∙◌, length, subst, sym}
use Rattle.nodes.specs.Nodes.{bit_at}
use Rattle.nodes.specs.Names.{bits_at, AreWithin}
use Rattle.nodes.proofs.GrowthLemmas.{made}
use Rattle.rows.specs.Rows.{fold_mux, each}
use Rattle.row_nodes.proofs.MoveLemmas.{moved_bits, moved_sized, moved_within}
use Rattle.row_nodes.proofs.shifts.moved_where.Goals as goal

pub returns-clause-bits : goal.returns-clause-bits
returns-clause-bits c =
    let old = c.args.table.now in
    let there = ap (bits_at old) (c.deref.ensures.value ∙ c.in_ok-there.ensures) ∙ moved_bits old c.args.way c.args.by c.args.xs.now in
    made c.each.result (λ row. bits_at c.each.new.table row.items) _ _ c.each.ensures.bits (ap (λ r. each (fold_mux (bit_at old c.args.test)) r (bits_at old c.args.xs.now)) there)

pub each-requires-clause-places : goal.each-requires-clause-places
each-requires-clause-places c =
    ap length (c.deref.ensures.value ∙ c.in_ok-there.ensures) ∙ moved_sized c.args.way c.args.by c.args.xs.now c.requires.by

pub each-requires-clause-left : goal.each-requires-clause-left
each-requires-clause-left c =
    subst (AreWithin c.args.table.now) (sym (c.deref.ensures.value ∙ c.in_ok-there.ensures)) (moved_within c.args.table.now c.args.way c.args.by c.args.xs.now c.requires.way c.requires.row)

pub returns-clause-sized : goal.returns-clause-sized
returns-clause-sized c =
    made c.each.result (λ row. length row.items) _ _ c.each.ensures.sized (ap length (c.deref.ensures.value ∙ c.in_ok-there.ensures) ∙ moved_sized c.args.way c.args.by c.args.xs.now c.requires.by)
