-- What is decided of a condition.
use Rattle.std.specs.Prelude.{ℕ, List}

-- this input meets it, and is the least that does; no input meets it; or the solver's budget was spent first
pub data Verdict : Type 0 where
  Sat : (input : List ℕ) → Verdict
  Unsat : Verdict
  Spent : Verdict
