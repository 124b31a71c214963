-- The program that is the answer is whole.
use Rattle.std.proofs.Common.{◌≡◌, Bool, true, false, cond, Option, Some, None, refl, sym, subst}
use Rattle.flat_ir.specs.declared.program.ProgramData.{ProgramData}
use Rattle.flat_ir.specs.Whole.{IsWhole}
use Rattle.ir_tree.specs.declared.module.IrTree.{IrTree}
use Rattle.ir_programs.specs.declared.refusals.Refusal.{Refusal}
use Rattle.ir_programs.specs.Refusals.{first}
use Rattle.ir_programs.specs.Programs.{program_of}
use Rattle.ir_programs.specs.Readable.{is_readable}
use Rattle.ir_programs.specs.Answers.{refusals, has_main, Resolved, Refused, NoMain, answered, answer}
use Rattle.whole_programs.specs.Few.{IsFew}
use Rattle.whole_programs.proofs.Law.{whole}

same_program : (p q : ProgramData) → Resolved p ≡ Resolved q → p ≡ q
same_program p q e = cc

not_refused : (r : Refusal) (p : ProgramData) → Refused r ≡ Resolved p → ⊥
not_refused r p e = cc

not_missing : (p : ProgramData) → NoMain ≡ Resolved p → ⊥
not_missing p e = cc

pub answer_whole : (t : IrTree) (p : ProgramData) → is_readable t ≡ true → answer t ≡ Resolved p → IsFew p → IsWhole p
answer_whole t p readable there few = by_refusal (first (refusals t)) refl there
  where
    by_main : (b : Bool) → has_main t ≡ b → first (refusals t) ≡ None → cond b (Resolved (program_of t)) NoMain ≡ Resolved p → IsWhole p
    by_main true main none e = let same = same_program (program_of t) p e in subst IsWhole same (whole t readable none main (subst IsFew (sym same) few))
    by_main false main none e = absurd (not_missing p e)

    by_refusal : (o : Option Refusal) → first (refusals t) ≡ o → answered t o ≡ Resolved p → IsWhole p
    by_refusal (Some r) q e = absurd (not_refused r p e)
    by_refusal None q e = by_main (has_main t) refl q e
