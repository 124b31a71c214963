-- What the leaves of an exploration without skips say: they split the inputs, each is sound, and each keeps the least input that
-- meets its condition.
use Rattle.std.specs.Prelude.{◌≡◌, ℕ, ◌≤◌, false, true, List, [], map, All, IfSome}
use Rattle.decider.specs.Inputs.{IsAtMost}
use Rattle.terms.specs.Tree.{Tree}
use Rattle.terms.specs.Value.{are_met_by}
use Rattle.flat_ir.specs.declared.program.ProgramData.{ProgramData}
use Rattle.flat_ir.specs.Sound.{IsInput, Splits, IsSound}
use Rattle.flat_ir.specs.Whole.{IsWhole}
use Rattle.checks.specs.Errors.{IsChecked}
use Rattle.typed_runs.specs.FittingRuns.{NumbersFit}
use Rattle.leaves.specs.Claims.{claim_of}
use Rattle.leaves.specs.Events.{Leaf, told_of}
use Rattle.leaves.specs.Fitting.{AreTermsOf}
use Rattle.sym_states.specs.Exploring.{Setting, context_of, first_state, Explores}
use Rattle.sym_states.specs.Verdicts.{Verdict, Sat, Unsat}
use Rattle.state_laws.specs.Kept.{ProgramFits}
use Rattle.state_sides.specs.Views.{verdict_by}
use Rattle.agreement.specs.Premises.{IsPlain, HasDistinctCases}

-- the least input of n bytes that meets a condition, in the order of a dictionary
pub record IsLeast (n : ℕ) (condition : List Tree) (kept : List ℕ) : Type 0 where
  pub fits : IsInput n kept
  pub met : are_met_by kept condition ≡ true
  pub least : (input : List ℕ) → IsInput n input → are_met_by input condition ≡ true → IsAtMost kept input

-- a leaf's kept input, where it has one, is the least that meets its condition
abbrev pub KeepsLeast : ℕ → Leaf → Type 0
KeepsLeast n leaf = IfSome (told_of leaf).kept (λ kept. IsLeast n (told_of leaf).condition kept)

-- the leaves split the inputs of n bytes, each is sound, and what each keeps is the least input that meets its condition
pub record AreRight (p : ProgramData) (n : ℕ) (leaves : List Leaf) : Type 0 where
  pub split : Splits n (map claim_of leaves)
  pub sound : All (IsSound p [] n) (map claim_of leaves)
  pub least : All (KeepsLeast n) leaves

-- Verdicts over inputs of n bytes are right: an input that is given is the least that meets the condition, and Unsat says that none
-- does.
pub record AreRightVerdicts (verdict : List Tree → ℕ → Verdict) (n : ℕ) : Type 0 where
  pub sat : (condition : List Tree) (input : List ℕ) → AreTermsOf n 1 condition → verdict condition n ≡ Sat input → IsLeast n condition input
  pub unsat : (condition : List Tree) (input : List ℕ) → AreTermsOf n 1 condition → verdict condition n ≡ Unsat → are_met_by input condition ≡ false

-- At most 64 bytes of input, and verdicts on them that are right; a program that passed its checks, whose numbers fit and whose
-- switches name no number twice, of which no call is skipped.
pub record IsPlainSetting (e : Setting) : Type 0 where
  pub most : e.inputs ≤ 64
  pub verdicts : AreRightVerdicts e.verdict e.inputs
  pub plain : IsPlain (context_of e (first_state e))
  pub distinct : HasDistinctCases e.program

-- the leaves of the exploration of such a setting are right
abbrev pub LeavesAreRight : Type 0
LeavesAreRight = (e : Setting) (leaves : List Leaf) (tasks : ℕ) → IsPlainSetting e → Explores e leaves tasks → AreRight e.program e.inputs leaves

-- ---- verdicts that are decided

-- a program that passed its checks, whose numbers fit, and whose switches name no number twice
pub record IsPlainProgram (p : ProgramData) : Type 0 where
  pub whole : IsWhole p
  pub checked : IsChecked p.funcs
  pub numbers : NumbersFit p
  pub fits : ProgramFits p
  pub distinct : HasDistinctCases p

-- Where no call is skipped, and verdicts are decided by a budget of conflicts, the leaves of a program over at most 64 bytes of
-- input are right.
abbrev pub DecidedLeavesAreRight : Type 0
DecidedLeavesAreRight = (e : Setting) (budget : ℕ) (leaves : List Leaf) (tasks : ℕ) → IsPlainProgram e.program → e.skips ≡ [] → e.inputs ≤ 64
    → e.verdict ≡ verdict_by budget → Explores e leaves tasks → AreRight e.program e.inputs leaves
