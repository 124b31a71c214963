-- The law of agreement: what an attempt gives goes along with the run, where no call is skipped.
use Rattle.std.specs.Prelude.{◌≡◌, ℕ, true, List, [], length}
use Rattle.terms.specs.Value.{are_met_by}
use Rattle.flat_ir.specs.Sound.{IsInput}
use Rattle.sym_states.specs.Attempts.{attempt}
use Rattle.sym_states.specs.States.{State, Context}
use Rattle.agreement.specs.Agreement.{StandsAt, StepGoesAlong}
use Rattle.agreement.specs.Premises.{IsPlain, HasDistinctCases, IsPlainState, none_gave}
use Rattle.sym_states.specs.Splitting.{IsNeverDenied}

-- An attempt of a state that agrees with a moment of the run on an input goes along with that run, where no verdict denies the
-- input.
abbrev pub AttemptsGoAlong : Type 0
AttemptsGoAlong = (c : Context) (input : List ℕ) (s : State) → IsPlain c → HasDistinctCases c.program → IsNeverDenied c input → IsInput (length s.kept) input → IsPlainState c (length input) s
    → StandsAt c.program [] input none_gave s → are_met_by input s.condition ≡ true → StepGoesAlong c.program [] input none_gave (attempt c s)
