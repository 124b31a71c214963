-- The answer of a tree, by its first refusal and whether it has a main.
use Rattle.std.proofs.Common.{◌≡◌, ◌∙◌, Bool, true, false, Some, None, ap, sym}
use Rattle.std.specs.Prelude.{if◌then◌else◌}
use Rattle.flat_ir.specs.declared.program.ProgramData.{ProgramData}
use Rattle.ir_tree.specs.declared.module.IrTree.{IrTree}
use Rattle.ir_programs.specs.declared.refusals.Refusal.{Refusal}
use Rattle.ir_programs.specs.Refusals.{first}
use Rattle.ir_programs.specs.Answers.{Resolved, Refused, NoMain, refusals, has_main, answered, answer}
use Rattle.ir_programs.specs.Programs.{program_of}

pub refused_as : (t : IrTree) (r : Refusal) → first (refusals t) ≡ Some r → answer t ≡ Refused r
refused_as t r e = ap (answered t) e

pub no_main : (t : IrTree) → first (refusals t) ≡ None → has_main t ≡ false → answer t ≡ NoMain
no_main t e d = ap (answered t) e ∙ ap (λ (b : Bool). if b then Resolved (program_of t) else NoMain) d

pub resolved_as : (t : IrTree) (p : ProgramData) → first (refusals t) ≡ None → has_main t ≡ true → p ≡ program_of t → answer t ≡ Resolved p
resolved_as t p e d is = ap (answered t) e ∙ (ap (λ (b : Bool). if b then Resolved (program_of t) else NoMain) d ∙ ap (λ (q : ProgramData). Resolved q) (sym is))
