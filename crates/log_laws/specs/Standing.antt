-- A log stands for a history under an input: its entries under the input, with what each skipped call changed at its mark.
use Rattle.std.specs.Prelude.{◌≡◌, ℕ, ◌+◌, ◌%◌, ◌^◌, Bool, true, List, [], ◌∷◌, ◌++◌, filter}
use Rattle.std.specs.List.{list_any, flat_map}
use Rattle.flat_ir.specs.declared.names.Location.{Location}
use Rattle.flat_ir.specs.declared.names.ObjectName.{ObjectName}
use Rattle.flat_ir.specs.History.{Change, Write, Alloc, Free, Get, Put, History}
use Rattle.sym_bytes.specs.declared.names.CallId.{CallId}
use Rattle.sym_bytes.specs.Entry.{Entry}
use Rattle.sym_bytes.specs.Entry as entry
use Rattle.sym_bytes.specs.Byte.{SymByte}
use Rattle.sym_bytes.specs.Under.{Results, bits_under, byte_under}
use Rattle.flat_ir.specs.Locations.{same_location, location_of, lies_in}
use Rattle.log_laws.specs.Logs.{Fill, Item, Did, Marked, Log}

-- the bytes of a Write from byte j on, the last one first
abbrev pub writes_under : List ℕ → Results → ObjectName → ℕ → ℕ → List SymByte → List Change
writes_under input results x offset j [] = []
writes_under input results x offset j (b ∷ bs) =
    writes_under input results x offset (j + 1) bs ++ Write x ((offset + j) % 2 ^ 64) (byte_under input results b) ∷ []

-- the changes that an entry is under an input, the newest first
abbrev pub changes_under : List ℕ → Results → Entry → List Change
changes_under input results (entry.Write x offset bytes) = writes_under input results x (bits_under input offset) 0 bytes
changes_under input results (entry.Alloc x size) = Alloc x (bits_under input size) ∷ []
changes_under input results (entry.Free x) = Free x ∷ []
changes_under input results (entry.Put t) = Put (bits_under input t) ∷ []
changes_under input results entry.Get = Get ∷ []

abbrev pub all_under : List ℕ → Results → List Entry → List Change
all_under input results es = flat_map (changes_under input results) es

-- what each skipped call changed, the newest first
abbrev pub Gave : Type 0
Gave = CallId → List Change

abbrev pub item_under : List ℕ → Results → Gave → Item → List Change
item_under input results gave (Did e) = changes_under input results e
item_under input results gave (Marked c mods fills) = gave c

-- the log under an input
abbrev pub log_under : List ℕ → Results → Gave → Log → History
log_under input results gave log = flat_map (item_under input results gave) log

-- each change lies in one of the locations
abbrev pub OnlyIn : List Location → List Change → Type 0
OnlyIn mods [] = Unit {0}
OnlyIn mods (change ∷ changes) = (list_any (same_location (location_of change)) mods ≡ true) × OnlyIn mods changes

-- each fill is the part of the changes that lies in its location
abbrev pub AreFills : List ℕ → Results → List Change → List Fill → Type 0
AreFills input results changes [] = Unit {0}
AreFills input results changes (f ∷ fills) = (all_under input results f.entries ≡ filter (lies_in f.at) changes) × AreFills input results changes fills

-- a call changed only what its mark names, and a fill is what it changed there
pub record IsMarkOf (input : List ℕ) (results : Results) (changes : List Change) (mods : List Location) (fills : List Fill) : Type 0 where
  pub within : OnlyIn mods changes
  pub fills_are : AreFills input results changes fills

abbrev pub AreMarks : List ℕ → Results → Gave → Log → Type 0
AreMarks input results gave [] = Unit {0}
AreMarks input results gave (Did e ∷ log) = AreMarks input results gave log
AreMarks input results gave (Marked c mods fills ∷ log) = IsMarkOf input results (gave c) mods fills × AreMarks input results gave log

pub record StandsFor (log : Log) (history : History) (input : List ℕ) (results : Results) (gave : Gave) : Type 0 where
  pub is : history ≡ log_under input results gave log
  pub marks : AreMarks input results gave log

-- a log stands for a history in one location: a slice's log lacks what the slice doesn't make
pub record StandsIn (at : Location) (log : Log) (history : History) (input : List ℕ) (results : Results) (gave : Gave) : Type 0 where
  pub is : filter (lies_in at) history ≡ filter (lies_in at) (log_under input results gave log)
  pub marks : AreMarks input results gave log
