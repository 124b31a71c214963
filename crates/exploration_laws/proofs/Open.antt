-- The calls that are needed for what is wanted of a log have open marks, and rise.
use Rattle.std.proofs.Common.{◌≡◌, ℕ, ◌||◌, ◌<◌, Bool, true, false, List, [], ◌∷◌, ◌++◌, Option, refl, arith}
use Rattle.std.specs.Prelude.{cond}
use Rattle.std.specs.Option.{option_map}
use Rattle.std.specs.List.{AllByRecursion as Each, list_any}
use Rattle.flat_ir.specs.declared.names.Location.{Location}
use Rattle.flat_ir.specs.declared.names.Location.TheVariants as location
use Rattle.flat_ir.specs.declared.names.ObjectName.{ObjectName}
use Rattle.flat_ir.specs.declared.names.ObjectName.TheVariants as object
use Rattle.sym_bytes.specs.declared.names.CallId.{CallId}
use Rattle.sym_bytes.specs.Entry.{Entry}
use Rattle.sym_bytes.specs.Answers as wanted
use Rattle.sym_bytes.specs.Answers.{Want}
use Rattle.flat_ir.specs.Locations.{cells_of, life_of}
use Rattle.log_laws.specs.Logs.{Fill, Item, Log, Did, Marked, is_open, is_alloc_of}
use Rattle.log_laws.specs.Needs.{left_behind, left_behind_all, recovered_at, is_covered, call_if, need_bytes, constants_of, offsets_from, is_freed, need_life_back, need_life, need_all, need, location_of}
use Rattle.exploration_laws.specs.Open.{IsOpenIn, marked, behind, MarksFall, Rise, NeedsAreOpen, NeedsRise}

-- what is needed of a log: open marks, below a bound where the marks are, and rising
pub record AreNeeded (at : Location) (log : Log) (calls : List CallId) : Type 0 where
  pub are_open : Each (λ c. IsOpenIn c at log) calls
  pub below : (bound : ℕ) → MarksFall bound log → Each (λ c. c.0 < bound) calls × Rise calls

none-needed : (at : Location) (log : Log) → AreNeeded at log []
none-needed at log = record { are_open = tt; below = λ bound h. (tt, tt) }

open-behind : (at : Location) (item : Item) (log : Log) (calls : List CallId) → Each (λ c. IsOpenIn c at log) calls → Each (λ c. IsOpenIn c at (item ∷ log)) calls
open-behind at item log [] h = tt
open-behind at item log (c ∷ cs) h = (behind log item h.0, open-behind at item log cs h.1)

behind-entry : (at : Location) (e : Entry) (log : Log) (calls : List CallId) → AreNeeded at log calls → AreNeeded at (Did e ∷ log) calls
behind-entry at e log calls h = record { are_open = open-behind at (Did e) log calls h.are_open; below = h.below }

if-needed : (at : Location) (log : Log) (b : Bool) (calls : List CallId) → AreNeeded at log calls → AreNeeded at log (cond b [] calls)
if-needed at log true calls h = none-needed at log
if-needed at log false calls h = h

open-append : (at : Location) (log : Log) (cs ds : List CallId) → Each (λ c. IsOpenIn c at log) cs → Each (λ c. IsOpenIn c at log) ds → Each (λ c. IsOpenIn c at log) (cs ++ ds)
open-append at log [] ds h k = k
open-append at log (c ∷ cs) ds h k = (h.0, open-append at log cs ds h.1 k)

below-more : (low high : ℕ) (cs : List CallId) → low < high → Each (λ c. c.0 < low) cs → Each (λ c. c.0 < high) cs
below-more low high [] less h = tt
below-more low high (c ∷ cs) less h = (smaller c.0 low high h.0 less, below-more low high cs less h.1)
  where
    smaller : (n low high : ℕ) → n < low → low < high → n < high
    smaller n low high h k = omega (arith, h, k)

each-append : (P : CallId → Type 0) (cs ds : List CallId) → Each P cs → Each P ds → Each P (cs ++ ds)
each-append P [] ds h k = k
each-append P (c ∷ cs) ds h k = (h.0, each-append P cs ds h.1 k)

rise-append : (last : CallId) (cs : List CallId) → Each (λ c. c.0 < last.0) cs → Rise cs → Rise (cs ++ last ∷ [])
rise-append last [] h rise = (tt, tt)
rise-append last (c ∷ cs) h rise = (each-append (λ d. c.0 < d.0) cs (last ∷ []) rise.0 (h.0, tt), rise-append last cs h.1 rise.1)

none-more : (P : List CallId → Type 0) (cs : List CallId) → P cs → P (cs ++ [])
none-more P [] h = h
none-more P (c ∷ cs) h = none-more (λ ds. P (c ∷ ds)) cs h

with-mark : (at : Location) (c : CallId) (mods : List Location) (fills : List Fill) (log : Log) (b : Bool) (calls : List CallId) → is_open at mods fills ≡ b → AreNeeded at log calls → AreNeeded at (Marked c mods fills ∷ log) (calls ++ call_if b c)
with-mark at c mods fills log true calls is h = record {
  are_open = open-append at (Marked c mods fills ∷ log) calls (c ∷ []) (open-behind at (Marked c mods fills) log calls h.are_open) (marked mods fills log is, tt);
  below = λ bound fall. let older = h.below c.0 fall.1 in
      (each-append (λ d. d.0 < bound) calls (c ∷ []) (below-more c.0 bound calls fall.0 older.0) (fall.0, tt), rise-append c calls older.0 older.1);
}
with-mark at c mods fills log false calls is h = none-more (AreNeeded at (Marked c mods fills ∷ log)) calls (record {
  are_open = open-behind at (Marked c mods fills) log calls h.are_open;
  below = λ bound fall. let older = h.below c.0 fall.1 in (below-more c.0 bound calls fall.0 older.0, older.1);
})

bytes-needed : (x : ObjectName) (left : Option (List ℕ)) (log : Log) → AreNeeded (cells_of x) log (need_bytes x left log)
bytes-needed x left [] = none-needed (cells_of x) []
bytes-needed x left (Did e ∷ log) =
    if-needed (cells_of x) (Did e ∷ log) (is_covered left || is_alloc_of x e) (need_bytes x (option_map (left_behind x e) left) log)
    (behind-entry (cells_of x) e log (need_bytes x (option_map (left_behind x e) left) log) (bytes-needed x (option_map (left_behind x e) left) log))
bytes-needed x left (Marked c mods fills ∷ log) =
    let at = cells_of x in
    let rest = need_bytes x (option_map (left_behind_all x (recovered_at fills)) left) log in
    let allocs = list_any (is_alloc_of x) (recovered_at fills) in
    if-needed at (Marked c mods fills ∷ log) (is_covered left) (cond allocs [] rest ++ call_if (is_open at mods fills) c)
    (with-mark at c mods fills log (is_open at mods fills) (cond allocs [] rest) refl (if-needed at log allocs rest (bytes-needed x (option_map (left_behind_all x (recovered_at fills)) left) log)))

life-needed : (x : ObjectName) (log : Log) → AreNeeded (life_of x) log (need_life_back x log)
life-needed x [] = none-needed (life_of x) []
life-needed x (Did e ∷ log) = if-needed (life_of x) (Did e ∷ log) (is_alloc_of x e) (need_life_back x log) (behind-entry (life_of x) e log (need_life_back x log) (life-needed x log))
life-needed x (Marked c mods fills ∷ log) =
    let allocs = list_any (is_alloc_of x) (recovered_at fills) in
    with-mark (life_of x) c mods fills log (is_open (life_of x) mods fills) (cond allocs [] (need_life_back x log)) refl (if-needed (life_of x) log allocs (need_life_back x log) (life-needed x log))

all-needed : (at : Location) (log : Log) → AreNeeded at log (need_all at log)
all-needed at [] = none-needed at []
all-needed at (Did e ∷ log) = behind-entry at e log (need_all at log) (all-needed at log)
all-needed at (Marked c mods fills ∷ log) = with-mark at c mods fills log (is_open at mods fills) (need_all at log) refl (all-needed at log)

need-life : (x : ObjectName) (log : Log) → AreNeeded (life_of x) log (need_life x log)
need-life (object.Global g) log = none-needed (life_of (object.Global g)) log
need-life (object.Made frame made) log = let x = object.Made frame made in if-needed (life_of x) log (is_freed x log) (need_life_back x log) (life-needed x log)

need-is : (w : Want) (log : Log) → AreNeeded (location_of w) log (need w log)
need-is (wanted.Bytes x offset count) log = bytes-needed x (constants_of (offsets_from offset count)) log
need-is (wanted.Life x) log = need-life x log
need-is wanted.Input log = all-needed location.Input log
need-is wanted.Output log = all-needed location.Output log

pub needs-open : NeedsAreOpen
needs-open w log = (need-is w log).are_open

pub needs-rise : NeedsRise
needs-rise w log bound h = (need-is w log).below bound h
