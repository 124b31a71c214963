-- How a walk through a log goes on, item by item.
use Rattle.std.specs.Prelude.{ℕ, ◌==◌, Bool, false, List, [], ◌∷◌, ◌++◌, Option, Some, None, if◌then◌else◌}
use Rattle.std.specs.List.{list_any}
use Rattle.terms.specs.Tree.{Tree}
use Rattle.term_store.specs.declared.conditions.Added.{Added}
use Rattle.term_store.specs.declared.conditions.Added.TheVariants.{Held, Appended, Contradicted}
use Rattle.flat_ir.specs.declared.names.Location.{Location}
use Rattle.flat_ir.specs.declared.names.ObjectName.{ObjectName}
use Rattle.flat_ir.specs.History.{same_object}
use Rattle.sym_bytes.specs.declared.names.CallId.{CallId}
use Rattle.sym_bytes.specs.Answers.{Living, Dead}
use Rattle.sym_bytes.specs.Building.{same_call, wide, equal}
use Rattle.term_store.specs.Condition.{answer}
use Rattle.flat_ir.specs.declared.program.InitByte.{InitByte}
use Rattle.sym_bytes.specs.Entry as entry
use Rattle.sym_bytes.specs.Byte.{SymByte}
use Rattle.sym_bytes.specs.Entry.{Entry}
use Rattle.log_laws.specs.Logs.{Fill, Item, Did, Marked, filled, is_open, is_free_of, newest_size, alive_with}
use Rattle.log_laws.specs.Needs.{call_if}
use Rattle.log_laws.specs.Reading.{Candidate, Chain, surely, choose, chained, sure_of, open_of, candidates_of, is_zero, scan_step, initial_byte}
use Rattle.sym_bytes.specs.Joining.{int_of}

-- what an item shows to a location
abbrev pub seen_in : Location → Item → List Entry
seen_in at (Did e) = e ∷ []
seen_in at (Marked call mods fills) = filled at fills

-- the item is the call's mark
abbrev pub is_mark_of : CallId → Item → Bool
is_mark_of call (Did e) = false
is_mark_of call (Marked c mods fills) = same_call call c

-- a mark with one more fill
abbrev pub with_fill : Fill → Item → Item
with_fill fill (Did e) = Did e
with_fill fill (Marked call mods fills) = Marked call mods (fills ++ fill ∷ [])

-- a mark's call, if the mark may have changed the location and that isn't recovered
abbrev pub open_call : Location → Item → List CallId
open_call at (Did e) = []
open_call at (Marked call mods fills) = call_if (is_open at mods fills) call

-- how many bytes of the input an entry reads
abbrev pub get_of : Entry → ℕ
get_of (entry.Get) = 1
get_of (entry.Write x offset bytes) = 0
get_of (entry.Alloc x size) = 0
get_of (entry.Free x) = 0
get_of (entry.Put t) = 0

-- what an entry writes out
abbrev pub put_of : Entry → Option Tree
put_of (entry.Put t) = Some t
put_of (entry.Get) = None
put_of (entry.Write x offset bytes) = None
put_of (entry.Alloc x size) = None
put_of (entry.Free x) = None

-- the size with which an entry makes the object
abbrev pub size_in : ObjectName → Entry → Option Tree
size_in x (entry.Alloc y size) = if same_object x y then Some size else None
size_in x (entry.Put t) = None
size_in x (entry.Get) = None
size_in x (entry.Write y offset bytes) = None
size_in x (entry.Free y) = None

abbrev pub or_size : Option Tree → Option Tree → Option Tree
or_size (Some size) other = Some size
or_size None other = other

-- an object's life, where newer entries than these made it with a size, if any did, and didn't end it
abbrev pub life_from : ObjectName → Option Tree → List Entry → Living
life_from x size es = if list_any (is_free_of x) es then Dead else alive_with (or_size size (newest_size x es))

-- the byte of a candidate whose test is 1
abbrev pub held_byte : Added → SymByte → Option SymByte
held_byte Held b = Some b
held_byte Appended b = None
held_byte Contradicted b = None

-- a candidate whose test is neither 1 nor 0
abbrev pub kept : Added → Candidate → List Candidate
kept Held c = []
kept Appended c = c ∷ []
kept Contradicted c = []

-- what a chain is behind some candidates, where the byte may be known for sure
abbrev pub ended : Option SymByte → Chain → Chain
ended (Some b) rest = surely b
ended None rest = rest

-- the chain of candidates as one term, upon the term of what stands behind them
abbrev pub chosen_from : List Candidate → Option Tree → Option Tree
chosen_from [] last = last
chosen_from (c ∷ cs) last = choose c.test (int_of c.found) (chosen_from cs last)

-- what a write of the object makes of the chain behind it
abbrev pub written : List Tree → Tree → Tree → List SymByte → Chain → Chain
written known at offset bytes rest = chained (sure_of known (candidates_of at offset 0 bytes)) (open_of known (candidates_of at offset 0 bytes)) rest

-- what an initial byte makes of the chain behind it
abbrev pub begun : List Tree → Tree → ℕ → InitByte → Chain → Chain
begun known at k b rest = if is_zero b then rest else scan_step (answer known (equal (wide k) at)) (equal (wide k) at) (initial_byte b) rest

-- no offsets, where none is wanted
abbrev pub none_unless_zero : ℕ → Option (List ℕ)
none_unless_zero count = if count == 0 then Some [] else None
