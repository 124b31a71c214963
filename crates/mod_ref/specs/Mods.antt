-- The changes of each function of a program, as lists.
use Rattle.std.specs.Prelude.{◌≡◌, ◌<◌, ℕ, Bool, true, false, List, [], ◌∷◌, ◌++◌, length, slice_index_or}
use Rattle.std.specs.List.{Contains}
use Rattle.least.specs.Sets.{has}
use Rattle.flat_ir.specs.declared.names.FuncId.{FuncId}
use Rattle.flat_ir.specs.declared.names.Location.{Location}
use Rattle.flat_ir.specs.declared.program.ProgramData.{ProgramData}
use Rattle.mod_ref.specs.Changes.{Changes}
use Rattle.mod_ref.specs.Sites.{IsAscending}

-- the changes of a function, in their order
pub record AreChanges (p : ProgramData) (f : FuncId) (ls : List Location) : Type 0 where
  pub ascending : IsAscending ls
  pub only : (l : Location) → Contains ls l → Changes p f l
  pub all : (l : Location) → Changes p f l → Contains ls l

-- those of each function of the program
pub record AreMods (p : ProgramData) (lists : List (List Location)) : Type 0 where
  pub count : length lists ≡ length p.funcs
  pub each : (f : FuncId) → f.0 < length p.funcs → AreChanges p f (slice_index_or lists f.0 [])

abbrev pub kept : Bool → Location → List Location
kept true l = l ∷ []
kept false l = []

-- the locations whose set of functions has function f
abbrev pub chosen : ℕ → List Location → List (List Bool) → List Location
chosen f [] cs = []
chosen f (l ∷ ls) [] = []
chosen f (l ∷ ls) (c ∷ cs) = kept (has c f) l ++ chosen f ls cs
