-- What the parts of the search for the first refusal say.
use Rattle.std.specs.Prelude.{ℕ, not, ◌==◌, List, map, Option}
use Rattle.std.specs.List.{filter}
use Rattle.ir_tree.specs.declared.types.Name.{Name}
use Rattle.ir_programs.specs.declared.locals.Local.{Local}
use Rattle.ir_programs.specs.declared.refusals.Cause.{Cause}
use Rattle.ir_programs.specs.declared.refusals.Cause.TheVariants.{WrongNumber, DuplicateName}
use Rattle.ir_programs.specs.declared.refusals.Refusal.{Refusal}
use Rattle.ir_programs.specs.Locals.{wrong_numbers, repeated}
use Rattle.ir_programs.specs.Texts.{among, places_where}
use Rattle.ir_programs.specs.Refusals.{merged, first, refused}

-- what is told in the end, where this is told so far, and these names follow
abbrev pub numbers_left : Option Refusal → ℕ → List Local → Option Refusal
numbers_left told n locals = merged told (first (refused WrongNumber (wrong_numbers n locals)))

abbrev pub texts_of : List Local → List (List ℕ)
texts_of locals = map (λ l. l.name.text) locals

-- the same of names that stand twice, in a function whose name has a place, behind these names
abbrev pub repeats_left : ℕ → Option Refusal → List (List ℕ) → List Local → Option Refusal
repeats_left at told seen locals = merged told (first (refused DuplicateName (filter (λ p. not (p == at)) (repeated seen locals))))

-- the same of names that aren't among texts
abbrev pub absences_left : Cause → Option Refusal → List (List ℕ) → List Name → Option Refusal
absences_left cause told texts names = merged told (first (refused cause (places_where (λ n. not (among n.text texts)) names)))
