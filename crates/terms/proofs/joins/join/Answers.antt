use Rattle.std.proofs.Common.{ap, sym, ◌∙◌, subst}
use Rattle.terms.specs.Tree.{width_of}
use Rattle.terms.specs.Value.{value_of, ReadsBelow}
use Rattle.terms.proofs.Bytes.{value-folded_join_of_some, width-folded_join, reads-folded_join}
use Rattle.terms.proofs.joins.join.Goals as goal

pub returns-clause-width : goal.returns-clause-width
returns-clause-width g c = ap width_of c.in_ok-t.ensures ∙ width-folded_join c.args.bytes.now c.requires.some c.requires.widths

pub returns-clause-reads : goal.returns-clause-reads
returns-clause-reads g c count h = subst (ReadsBelow count) (sym c.in_ok-t.ensures) (reads-folded_join count c.args.bytes.now h)

pub returns-clause-value : goal.returns-clause-value
returns-clause-value g c input =
    ap (λ t. value_of t input) c.in_ok-t.ensures
    ∙ value-folded_join_of_some c.args.bytes.now c.index-bytes-0.result input c.requires.some c.index-bytes-0.is c.width-first.ensures.tree
