use Rattle.std.proofs.Common.{◌≡◌, ◌<◌, ◌+◌, ◌-◌, length, subst, arith}
use Rattle.gate_clauses.specs.Marks.{Marks}
use Rattle.gate_clauses.proofs.MarkLemmas.{handed_down, passed_over}
use Rattle.gate_clauses.proofs.inputs.mark_down.Goals as goal

pub loop-k-preserved-then-marks-k : goal.loop-k-preserved-then-marks-k
loop-k-preserved-then-marks-k c =
    let nodes = c.args.table.now in
    let p = c.loop-k.k - 1 in
    let within : p < length nodes = omega arith in
    let next : c.loop-k.k ≡ p + 1 = omega arith in record {
      low = omega arith;
      marks = λ b h. handed_down nodes c.len-k.ensures.table p within b c.loop-k.marks (subst (λ n. Marks nodes b n c.loop-k.marks) next (c.loop-k.invariant.marks b h)) c.mark_operands.new.marks c.mark_operands.ensures c.if-marks-k.true;
    }

pub loop-k-preserved : goal.loop-k-preserved
loop-k-preserved c =
    let nodes = c.args.table.now in
    let p = c.loop-k.k - 1 in
    let within : p < length nodes = omega arith in
    let next : c.loop-k.k ≡ p + 1 = omega arith in record {
      low = omega arith;
      marks = λ b h. passed_over nodes c.len-k.ensures.table p within b c.loop-k.marks (subst (λ n. Marks nodes b n c.loop-k.marks) next (c.loop-k.invariant.marks b h)) c.if-marks-k.false;
    }

pub returns : goal.returns
returns c = λ b h.
    let none : c.loop-k.k ≡ 0 = omega arith in
    subst (λ n. Marks c.args.table.now b n c.loop-k.marks) none (c.loop-k.invariant.marks b h)
