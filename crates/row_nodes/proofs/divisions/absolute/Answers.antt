use Rattle.std.proofs.Common.{ap, arith, length, subst, sym, ◌-◌, ◌<◌}
use Rattle.nodes.specs.Names.{bits_at}
use Rattle.nodes.proofs.GrowthLemmas.{made}
use Rattle.rows.specs.Rows.{negated_if}
use Rattle.row_nodes.proofs.divisions.absolute.Goals as goal

pub returns-clause-bits : goal.returns-clause-bits
returns-clause-bits c =
    let old = c.args.table.now in
    made c.negated_where.result (λ row. bits_at c.negated_where.new.table row.items) _ _ c.negated_where.ensures.bits (ap (λ b. negated_if b (bits_at old c.args.xs.now)) (c.top-sign.ensures.bit old))

pub negated_where-requires-clause-test : goal.negated_where-requires-clause-test
negated_where-requires-clause-test c =
    subst (λ k. k < length c.args.table.now) (sym c.top-sign.ensures.place) (c.requires.row (length c.args.xs.now - 1) (omega (arith, c.requires.some)))
