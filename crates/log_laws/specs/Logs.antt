-- The log of a path: what it did, the newest first, with a mark for each skipped call and the fills that stand there.
use Rattle.std.specs.Prelude.{ℕ, ◌+◌, ◌-◌, ◌==◌, ◌&&◌, not, Bool, true, false, List, [], ◌∷◌, ◌++◌, length, take, Option, Some, None, slice_get, if◌then◌else◌}
use Rattle.std.specs.List.{list_any}
use Rattle.terms.specs.Tree.{Tree}
use Rattle.flat_ir.specs.declared.names.Location.{Location}
use Rattle.flat_ir.specs.declared.names.Location.TheVariants as location
use Rattle.flat_ir.specs.declared.names.ObjectName.{ObjectName}
use Rattle.flat_ir.specs.declared.names.ObjectName.TheVariants as object
use Rattle.flat_ir.specs.declared.program.GlobalVar.{GlobalVar}
use Rattle.flat_ir.specs.History.{same_object, size_of_global}
use Rattle.flat_ir.specs.Locations.{cells_of, life_of, same_location}
use Rattle.sym_bytes.specs.declared.names.CallId.{CallId}
use Rattle.sym_bytes.specs.Entry.{Entry}
use Rattle.sym_bytes.specs.Entry as entry
use Rattle.sym_bytes.specs.Answers.{Living}
use Rattle.sym_bytes.specs.Answers.{Alive, Dead}
use Rattle.sym_bytes.specs.Building.{wide, same_call}

-- what a call changed in one location, the newest first
pub record Fill : Type 0 where
  pub at : Location
  pub entries : List Entry

-- a change, or the place of a skipped call: what it may change, and what is recovered of it
pub data Item : Type 0 where
  Did : Entry → Item
  Marked : CallId → List Location → List Fill → Item

abbrev pub Log : Type 0
Log = List Item

-- the location in which an entry lies
abbrev pub place_of : Entry → Location
place_of (entry.Write x offset bytes) = cells_of x
place_of (entry.Alloc x size) = life_of x
place_of (entry.Free x) = life_of x
place_of (entry.Put t) = location.Output
place_of entry.Get = location.Input

-- the entry lies in the location
abbrev pub lies_in : Location → Entry → Bool
lies_in at e = same_location at (place_of e)

-- what a call changed in the location is recovered
abbrev pub is_filled : Location → List Fill → Bool
is_filled at fills = list_any (λ f. same_location at f.at) fills

-- what is recovered of the location, the newest first
abbrev pub filled : Location → List Fill → List Entry
filled at [] = []
filled at (f ∷ fills) = if same_location at f.at then f.entries else filled at fills

-- a mark may have changed the location, and that isn't recovered
abbrev pub is_open : Location → List Location → List Fill → Bool
is_open at mods fills = list_any (same_location at) mods && not (is_filled at fills)

-- the log as one location sees it: the entries, and at each mark what is recovered there for the location
abbrev pub seen_at : Location → Log → List Entry
seen_at at [] = []
seen_at at (Did e ∷ log) = e ∷ seen_at at log
seen_at at (Marked c mods fills ∷ log) = filled at fills ++ seen_at at log

-- the entry makes the object
abbrev pub is_alloc_of : ObjectName → Entry → Bool
is_alloc_of x (entry.Alloc y size) = same_object x y
is_alloc_of x _ = false

-- the entry ends the object
abbrev pub is_free_of : ObjectName → Entry → Bool
is_free_of x (entry.Free y) = same_object x y
is_free_of x _ = false

-- the size with which the object was made last
abbrev pub newest_size : ObjectName → List Entry → Option Tree
newest_size x [] = None
newest_size x (entry.Alloc y size ∷ es) = if same_object x y then Some size else newest_size x es
newest_size x (_ ∷ es) = newest_size x es

abbrev pub alive_with : Option Tree → Living
alive_with None = Dead
alive_with (Some size) = Alive size

abbrev pub life_among : ObjectName → List Entry → Living
life_among x es = if list_any (is_free_of x) es then Dead else alive_with (newest_size x es)

-- a global always is alive, another object from its Alloc to its Free
abbrev pub life : List GlobalVar → ObjectName → Log → Living
life globals (object.Global g) log = Alive (wide (size_of_global (slice_get globals g)))
life globals (object.Made frame made) log = life_among (object.Made frame made) (seen_at (life_of (object.Made frame made)) log)

-- how many bytes of the input the entries read
abbrev pub gets_in : List Entry → ℕ
gets_in [] = 0
gets_in (entry.Get ∷ es) = gets_in es + 1
gets_in (_ ∷ es) = gets_in es

-- how many bytes of the input were read
abbrev pub position : Log → ℕ
position log = gets_in (seen_at location.Input log)

-- what the entries write out, the oldest first
abbrev pub puts_in : List Entry → List Tree
puts_in [] = []
puts_in (entry.Put t ∷ es) = puts_in es ++ t ∷ []
puts_in (_ ∷ es) = puts_in es

-- what was written out, the oldest first
abbrev pub output : Log → List Tree
output log = puts_in (seen_at location.Output log)

-- the entries stand at the call's mark for the location
abbrev pub fill : CallId → Location → List Entry → Log → Log
fill call at entries [] = []
fill call at entries (Did e ∷ log) = Did e ∷ fill call at entries log
fill call at entries (Marked c mods fills ∷ log) =
    if same_call call c then Marked c mods (fills ++ record { at = at; entries = entries } ∷ []) ∷ log
    else Marked c mods fills ∷ fill call at entries log

-- the log before the call's mark
abbrev pub cut : CallId → Log → Log
cut call [] = []
cut call (Did e ∷ log) = cut call log
cut call (Marked c mods fills ∷ log) = if same_call call c then log else cut call log

-- the entries in a location that stand in the log itself, the newest first
abbrev pub entries_in : Location → Log → List Entry
entries_in at [] = []
entries_in at (Did e ∷ log) = if lies_in at e then e ∷ entries_in at log else entries_in at log
entries_in at (Marked c mods fills ∷ log) = entries_in at log

-- the entries in a location since the log had that length, the newest first
abbrev pub entries_since : ℕ → Location → Log → List Entry
entries_since old at log = entries_in at (take (length log - old) log)
