-- What is appended to a log that stands for a history.
use Rattle.std.proofs.Common.{ℕ, List, [], ◌∷◌, ◌++◌, ap}
use Rattle.flat_ir.specs.declared.names.Location.{Location}
use Rattle.flat_ir.specs.History.{History}
use Rattle.sym_bytes.specs.declared.names.CallId.{CallId}
use Rattle.sym_bytes.specs.Entry.{Entry}
use Rattle.sym_bytes.specs.Under.{Results}
use Rattle.log_laws.specs.Logs.{Did, Marked, Log}
use Rattle.log_laws.specs.Standing.{Gave, changes_under, OnlyIn, StandsFor}

pub entry_law : (input : List ℕ) (results : Results) (gave : Gave) (e : Entry) (log : Log) (h : History)
    → StandsFor log h input results gave → StandsFor (Did e ∷ log) (changes_under input results e ++ h) input results gave
entry_law input results gave e log h stands = record { is = ap (λ g. changes_under input results e ++ g) stands.is; marks = stands.marks }

pub mark_law : (input : List ℕ) (results : Results) (gave : Gave) (call : CallId) (mods : List Location) (log : Log) (h : History)
    → OnlyIn mods (gave call) → StandsFor log h input results gave → StandsFor (Marked call mods [] ∷ log) (gave call ++ h) input results gave
mark_law input results gave call mods log h within stands =
    record { is = ap (λ g. gave call ++ g) stands.is; marks = (record { within = within; fills_are = tt }, stands.marks) }
