use Rattle.std.proofs.Common.{take, length, get_or, sym, subst, ap, ◌∙◌}
use Rattle.std.proofs.Math.ListN.{set}
use Rattle.std.proofs.lemmas.List.{take_more}
use Rattle.nodes.specs.Names.{bits_at}
use Rattle.gate_clauses.specs.Marks.{Marks}
use Rattle.gate_clauses.proofs.MarkLemmas.{marks_first, marks_more}
use Rattle.std.proofs.Common.{false, true, replicate}
use Rattle.gate_clauses.proofs.inputs.mark_conjuncts.Goals as goal

pub loop-k-init : goal.loop-k-init
loop-k-init c =
    marks_first c.args.table.now c.in_ok-marks.marks.items (c.in_ok-marks.ensures ∙ ap (λ n. replicate n false) c.len.ensures.len)

pub loop-k-preserved : goal.loop-k-preserved
loop-k-preserved c =
    let nodes = c.args.table.now in
    let ks = c.args.conjuncts.now in
    let i = c.loop-k.k-index in
    let k = get_or ks i 0 in
    subst (λ xs. Marks nodes (bits_at nodes xs) (length nodes) (set c.loop-k.marks.items k true)) (sym (take_more ks i 0 c.loop-k-test.true)) (marks_more nodes (take i ks) k c.loop-k.marks.items (c.requires i c.loop-k-test.true) c.loop-k.invariant)
