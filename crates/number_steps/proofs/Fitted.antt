-- The terms, tests and sides of nodes fit.
use Rattle.std.proofs.Common.{◌≡◌, ℕ, ◌+◌, ◌<◌, List, length, drop, get_or, sym, ◌∙◌, ap, subst}
use Rattle.std.proofs.lemmas.List.{at_drop_more}
use Rattle.terms.specs.Tree.{Tree}
use Rattle.flat_ir.specs.declared.nodes.GepPart.{GepPart}
use Rattle.flat_ir.specs.declared.nodes.Operand.{Operand}
use Rattle.flat_ir.specs.declared.nodes.SwitchCase.{SwitchCase}
use Rattle.leaves.specs.Fitting.{IsTerm, IsTermOf, AreTermsOf}
use Rattle.sym_states.specs.States.{State}
use Rattle.sym_states.specs.Terms.{number_in, moved_by, moved_by_all, is_nonzero, has_quotient, truth_of, size_in, is_small, branch_sides, switch_sides}
use Rattle.state_laws.specs.Kept.{StateFitsAt, OperandFits, CasesFit}
use Rattle.state_laws.proofs.States.{number_in-fits}
use Rattle.state_laws.proofs.Terms.{is_nonzero-fits, has_quotient-fits, truth_of-fits, size_in-fits, is_small-fits, branch_sides-fits, switch_sides-fits}

pub number-term : (n : ℕ) (s : State) (a : Operand) (t : Tree) → t ≡ number_in s a → StateFitsAt n s → OperandFits a → IsTerm n t
number-term n s a t e h k = subst (IsTerm n) (sym e) (number_in-fits n s a h k)

pub nonzero-truth : (n : ℕ) (b t : Tree) → t ≡ is_nonzero b → IsTerm n b → IsTermOf n 1 t
nonzero-truth n b t e h = subst (IsTermOf n 1) (sym e) (is_nonzero-fits n b h)

pub quotient-truth : (n : ℕ) (a b t : Tree) → t ≡ has_quotient a b → IsTerm n a → IsTerm n b → IsTermOf n 1 t
quotient-truth n a b t e g h = subst (IsTermOf n 1) (sym e) (has_quotient-fits n a b g h)

pub truth-truth : (n : ℕ) (condition t : Tree) → t ≡ truth_of condition → IsTerm n condition → IsTermOf n 1 t
truth-truth n condition t e h = subst (IsTermOf n 1) (sym e) (truth_of-fits n condition h)

pub small-truth : (n : ℕ) (s : State) (a : Operand) (t size u : Tree) → t ≡ number_in s a → size ≡ size_in t → u ≡ is_small size → StateFitsAt n s → OperandFits a → IsTermOf n 1 u
small-truth n s a t size u e sized tested h k =
    subst (IsTermOf n 1) (sym tested) (is_small-fits n size (subst (IsTermOf n 64) (sym sized) (size_in-fits n t (number-term n s a t e h k))))

-- the sides as they are passed
pub branch-truths : (n : ℕ) (s : State) (a : Operand) (t : Tree) (sides slice : List Tree) → t ≡ number_in s a → sides ≡ branch_sides t → slice ≡ sides → StateFitsAt n s → OperandFits a → AreTermsOf n 1 slice
branch-truths n s a t sides slice e are same h k = subst (AreTermsOf n 1) (sym (same ∙ are)) (branch_sides-fits n t (number-term n s a t e h k))

pub switch-truths : (n : ℕ) (s : State) (a : Operand) (cases : List SwitchCase) (t : Tree) (sides slice : List Tree) → t ≡ number_in s a → sides ≡ switch_sides t cases → slice ≡ sides
    → StateFitsAt n s → OperandFits a → CasesFit cases → AreTermsOf n 1 slice
switch-truths n s a cases t sides slice e are same h k f = subst (AreTermsOf n 1) (sym (same ∙ are)) (switch_sides-fits n t cases (number-term n s a t e h k) f)

-- one part more has moved an offset
pub moved-next : (s : State) (parts : List GepPart) (i : ℕ) (part : GepPart) (moved new all : Tree) → i < length parts → part ≡ get_or parts i part → new ≡ moved_by s moved part
    → moved_by_all s moved (drop i parts) ≡ all → moved_by_all s new (drop (i + 1) parts) ≡ all
moved-next s parts i part moved new all within here next h =
    ap (λ (t : Tree). moved_by_all s t (drop (i + 1) parts)) (next ∙ ap (moved_by s moved) here)
    ∙ (sym (at_drop_more (moved_by_all s moved) parts i part within) ∙ h)
