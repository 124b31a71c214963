-- A log cut before a call's mark stands for the history at that call.
use Rattle.std.specs.Prelude.{◌≡◌, ℕ, ◌||◌, Bool, true, false, List, [], ◌∷◌, ◌++◌}
use Rattle.flat_ir.specs.History.{Change, History}
use Rattle.sym_bytes.specs.declared.names.CallId.{CallId}
use Rattle.sym_bytes.specs.Building.{same_call}
use Rattle.sym_bytes.specs.Under.{Results}
use Rattle.log_laws.specs.Logs.{Log, Did, Marked, cut}
use Rattle.log_laws.specs.Standing.{Gave, StandsFor}

-- the log has a mark of the call
abbrev pub is_marked : CallId → Log → Bool
is_marked call [] = false
is_marked call (Did e ∷ log) = is_marked call log
is_marked call (Marked c mods fills ∷ log) = same_call call c || is_marked call log

-- a history whose older part, before what the call changed, is what the cut log stands for
pub record StandsBefore (call : CallId) (log : Log) (history : History) (input : List ℕ) (results : Results) (gave : Gave) : Type 0 where
  pub later : List Change
  pub earlier : History
  pub is : history ≡ later ++ (gave call ++ earlier)
  pub stands : StandsFor (cut call log) earlier input results gave

-- ---- the law

abbrev pub CutsStand : Type 0
CutsStand = (call : CallId) (log : Log) (history : History) (input : List ℕ) (results : Results) (gave : Gave)
    → is_marked call log ≡ true → StandsFor log history input results gave → StandsBefore call log history input results gave
