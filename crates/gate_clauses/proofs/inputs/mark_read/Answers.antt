use Rattle.std.proofs.Common.{length, sym, subst, ◌∙◌, arith}
use Rattle.nodes.specs.Names.{bits_at}
use Rattle.gate_clauses.specs.Marks.{Marks}
use Rattle.gate_clauses.proofs.MarkLemmas.{written}
use Rattle.gate_clauses.proofs.inputs.mark_read.Goals as goal

pub returns : goal.returns
returns c =
    let nodes = c.args.table.now in
    let b = bits_at nodes c.args.conjuncts.now in
    let after = c.mark_down.new.marks in
    let first = subst (λ m. Marks nodes b (length nodes) m) (sym c.as_mut_slice.ensures.value) c.in_ok-marks.ensures in
    subst (λ m. Marks nodes b 0 m) (sym (written after c.in_ok-marks.marks.items c.in_ok-marks.marks.len (c.mark_down.auto.marks ∙ c.as_mut_slice.ensures.len) (omega (arith, c.in_ok-marks.marks.ok.0)))) (c.mark_down.ensures b first)
