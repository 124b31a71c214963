-- The refusals of a tree, and the one that is told: the first in the order of the text, and at one place the first in the order of the conditions.
use Rattle.std.specs.Prelude.{ℕ, Bool, ◌==◌, nat_lt, nat_le, if◌then◌else◌, List, [], ◌∷◌, map, Option, Some, None}
use Rattle.ir_programs.specs.declared.refusals.Cause.{Cause}
use Rattle.ir_programs.specs.declared.refusals.Cause.TheVariants.{UnknownName, UnknownFunction, DuplicateName, ReservedName, ObjectTooLarge, RecursiveType, WrongNumber, BadInitialiser, FunctionValue, MainParameters}
use Rattle.ir_programs.specs.declared.refusals.Refusal.{Refusal}

abbrev pub order : Cause → ℕ
order UnknownName = 0
order UnknownFunction = 1
order DuplicateName = 2
order ReservedName = 3
order ObjectTooLarge = 4
order RecursiveType = 5
order WrongNumber = 6
order BadInitialiser = 7
order FunctionValue = 8
order MainParameters = 9

abbrev pub is_earlier : Refusal → Refusal → Bool
is_earlier a b = if a.at == b.at then nat_le (order a.cause) (order b.cause) else nat_lt a.at b.at

abbrev pub earlier : Refusal → Refusal → Refusal
earlier a b = if is_earlier a b then a else b

abbrev pub earlier_of : Refusal → Option Refusal → Refusal
earlier_of a None = a
earlier_of a (Some b) = earlier a b

-- the first of some refusals
abbrev pub first : List Refusal → Option Refusal
first [] = None
first (r ∷ rs) = Some (earlier_of r (first rs))

-- the first of what is told of two lists
abbrev pub merged : Option Refusal → Option Refusal → Option Refusal
merged None b = b
merged (Some a) b = Some (earlier_of a b)

abbrev pub refused : Cause → List ℕ → List Refusal
refused cause places = map (λ at. record { at = at; cause = cause }) places
