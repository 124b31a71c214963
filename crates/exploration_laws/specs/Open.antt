-- The calls that are needed for what is wanted of a log: each has a mark that may have changed it and has no fill for it, and they
-- rise.
use Rattle.std.specs.Prelude.{◌≡◌, ℕ, ◌<◌, true, List, [], ◌∷◌}
use Rattle.std.specs.List.{AllByRecursion as Each}
use Rattle.flat_ir.specs.declared.names.Location.{Location}
use Rattle.sym_bytes.specs.declared.names.CallId.{CallId}
use Rattle.sym_bytes.specs.Answers.{Want}
use Rattle.log_laws.specs.Logs.{Fill, Item, Log, Did, Marked, is_open}
use Rattle.log_laws.specs.Needs.{need, location_of}

-- a mark of the call may have changed the location, and that isn't recovered
pub data IsOpenIn (call : CallId) (at : Location) : Log → Type 0 where
  marked : (mods : List Location) (fills : List Fill) (log : Log) → is_open at mods fills ≡ true → IsOpenIn call at (Marked call mods fills ∷ log)
  behind : (log : Log) (item : Item) → IsOpenIn call at log → IsOpenIn call at (item ∷ log)

-- the marks of the log fall below a number: calls are numbered in their order
abbrev pub MarksFall : ℕ → Log → Type 0
MarksFall bound [] = Unit {0}
MarksFall bound (Did e ∷ log) = MarksFall bound log
MarksFall bound (Marked c mods fills ∷ log) = (c.0 < bound) × MarksFall c.0 log

-- each call is older than those behind it, so none stands twice
abbrev pub Rise : List CallId → Type 0
Rise [] = Unit {0}
Rise (c ∷ cs) = Each (λ d. c.0 < d.0) cs × Rise cs

-- ---- the laws

abbrev pub NeedsAreOpen : Type 0
NeedsAreOpen = (w : Want) (log : Log) → Each (λ c. IsOpenIn c (location_of w) log) (need w log)

abbrev pub NeedsRise : Type 0
NeedsRise = (w : Want) (log : Log) (bound : ℕ) → MarksFall bound log → Each (λ c. c.0 < bound) (need w log) × Rise (need w log)
