-- What contracts see of a symbolic memory: the globals that it began with, and its log, the newest first.
use Rattle.std.specs.Prelude.{◌≡◌, List, ◌∷◌}
use Rattle.terms.specs.Tree.{width_of}
use Rattle.sym_bytes.specs.Answers.{Want, Bytes, Life, Input, Output}
use Rattle.flat_ir.specs.declared.program.GlobalVar.{GlobalVar}
use Rattle.log_laws.specs.Logs.{Item, Log}

pub record Memory : Type 0 where
  pub globals : List GlobalVar
  pub log : Log

-- the memory with one more item
abbrev pub with_item : Item → Memory → Memory
with_item item m = record { globals = m.globals; log = item ∷ m.log }

-- the memory with another log
abbrev pub with_log : Log → Memory → Memory
with_log log m = record { globals = m.globals; log = log }

-- an offset that is wanted has 64 bits
abbrev pub IsWanted : Want → Type 0
IsWanted (Bytes x offset count) = width_of offset ≡ 64
IsWanted (Life x) = Unit {0}
IsWanted Input = Unit {0}
IsWanted Output = Unit {0}
