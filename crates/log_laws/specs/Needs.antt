-- The skipped calls that have to be recovered before something is known.
use Rattle.std.specs.Prelude.{ℕ, ◌+◌, ◌%◌, ◌^◌, ◌==◌, ◌||◌, not, Bool, true, false, List, [], ◌∷◌, ◌++◌, length, filter, Option, Some, None, if◌then◌else◌}
use Rattle.std.specs.Option.{option_map}
use Rattle.std.specs.List.{list_any, flat_map}
use Rattle.bitnum.specs.Number.{Number}
use Rattle.terms.specs.Tree.{Tree}
use Rattle.terms.specs.Folding.{constant_of}
use Rattle.flat_ir.specs.declared.names.Location.{Location}
use Rattle.flat_ir.specs.declared.names.Location.TheVariants as location
use Rattle.flat_ir.specs.declared.names.ObjectName.{ObjectName}
use Rattle.flat_ir.specs.declared.names.ObjectName.TheVariants as object
use Rattle.flat_ir.specs.History.{same_object}
use Rattle.flat_ir.specs.Registers.{first_of}
use Rattle.sym_bytes.specs.declared.names.CallId.{CallId}
use Rattle.sym_bytes.specs.Entry.{Entry}
use Rattle.sym_bytes.specs.Entry as entry
use Rattle.sym_bytes.specs.Answers.{Want}
use Rattle.sym_bytes.specs.Answers as wanted
use Rattle.sym_bytes.specs.Building.{behind}
use Rattle.sym_bytes.specs.Joining.{put_before}
use Rattle.flat_ir.specs.Locations.{cells_of, life_of}
use Rattle.log_laws.specs.Logs.{Fill, Item, Did, Marked, Log, is_open, is_alloc_of, is_free_of}

abbrev pub bits_in : Option Number → Option ℕ
bits_in None = None
bits_in (Some n) = Some n.bits

-- the offsets, if all are constant
abbrev pub constants_of : List Tree → Option (List ℕ)
constants_of [] = Some []
constants_of (t ∷ ts) = put_before (bits_in (constant_of t)) (constants_of ts)

abbrev pub uncovered_by : ℕ → ℕ → List ℕ → List ℕ
uncovered_by n u ks = filter (λ k. not (list_any (λ j. ((u + j) % 2 ^ 64) == k) (first_of n 0 (λ j. j)))) ks

abbrev pub left_by : Option Number → ℕ → List ℕ → List ℕ
left_by None n ks = ks
left_by (Some u) n ks = uncovered_by n u.bits ks

-- the constant offsets that stay uncovered behind an entry
abbrev pub left_behind : ObjectName → Entry → List ℕ → List ℕ
left_behind x (entry.Write y offset bytes) ks = if same_object x y then left_by (constant_of offset) (length bytes) ks else ks
left_behind x _ ks = ks

abbrev pub left_behind_all : ObjectName → List Entry → List ℕ → List ℕ
left_behind_all x [] ks = ks
left_behind_all x (e ∷ es) ks = left_behind_all x es (left_behind x e ks)

abbrev pub recovered_at : List Fill → List Entry
recovered_at fills = flat_map (λ f. f.entries) fills

-- all wanted offsets are constant, and none is left
abbrev pub is_covered : Option (List ℕ) → Bool
is_covered (Some []) = true
is_covered _ = false

abbrev pub call_if : Bool → CallId → List CallId
call_if true c = c ∷ []
call_if false c = []

-- the marks to be recovered for bytes of x, the oldest first: back to its Alloc, or until each wanted offset is covered
abbrev pub need_bytes : ObjectName → Option (List ℕ) → Log → List CallId
need_bytes x left [] = []
need_bytes x left (Did e ∷ log) =
    if is_covered left || is_alloc_of x e then [] else need_bytes x (option_map (left_behind x e) left) log
need_bytes x left (Marked c mods fills ∷ log) =
    if is_covered left then []
    else (if list_any (is_alloc_of x) (recovered_at fills) then []
    else need_bytes x (option_map (left_behind_all x (recovered_at fills)) left) log)
    ++ call_if (is_open (cells_of x) mods fills) c

abbrev pub entries_of : Item → List Entry
entries_of (Did e) = e ∷ []
entries_of (Marked c mods fills) = recovered_at fills

abbrev pub is_freed : ObjectName → Log → Bool
is_freed x log = list_any (λ item. list_any (is_free_of x) (entries_of item)) log

-- the marks that may have changed the life of x, back to its Alloc
abbrev pub need_life_back : ObjectName → Log → List CallId
need_life_back x [] = []
need_life_back x (Did e ∷ log) = if is_alloc_of x e then [] else need_life_back x log
need_life_back x (Marked c mods fills ∷ log) =
    (if list_any (is_alloc_of x) (recovered_at fills) then [] else need_life_back x log)
    ++ call_if (is_open (life_of x) mods fills) c

abbrev pub need_life : ObjectName → Log → List CallId
need_life (object.Global g) log = []
need_life (object.Made frame made) log = if is_freed (object.Made frame made) log then [] else need_life_back (object.Made frame made) log

-- each mark that may have changed the location
abbrev pub need_all : Location → Log → List CallId
need_all at [] = []
need_all at (Did e ∷ log) = need_all at log
need_all at (Marked c mods fills ∷ log) = need_all at log ++ call_if (is_open at mods fills) c

abbrev pub offsets_from : Tree → ℕ → List Tree
offsets_from offset count = first_of count 0 (behind offset)

abbrev pub need : Want → Log → List CallId
need (wanted.Bytes x offset count) log = need_bytes x (constants_of (offsets_from offset count)) log
need (wanted.Life x) log = need_life x log
need wanted.Input log = need_all location.Input log
need wanted.Output log = need_all location.Output log

-- where what is wanted lies
abbrev pub location_of : Want → Location
location_of (wanted.Bytes x offset count) = cells_of x
location_of (wanted.Life x) = life_of x
location_of wanted.Input = location.Input
location_of wanted.Output = location.Output
