-- Where pointers may point: the least sets of sites of all holders in which what is asked is kept.
use Rattle.std.specs.Prelude.{◌<◌, ◌+◌, ◌*◌, ℕ, List, length, slice_index_or}
use Rattle.std.specs.List.{Contains}
use Rattle.flat_ir.specs.declared.names.Site.{Site}
use Rattle.flat_ir.specs.declared.names.Site.TheVariants as site
use Rattle.flat_ir.specs.declared.program.ProgramData.{ProgramData}
use Rattle.flat_ir.specs.Machine.{func_at, regs_of, nodes_of}
use Rattle.points_to.specs.declared.holders.Holder.{Holder}
use Rattle.points_to.specs.declared.holders.Holder.TheVariants.{Register, Returned, Bytes, Address, Nothing}
use Rattle.points_to.specs.declared.holders.Inclusion.{Inclusion}
use Rattle.points_to.specs.declared.holders.Inclusion.TheVariants.{Names, Copies, Loads, Stores, Moves}
use Rattle.points_to.specs.Asked.{asked}

-- the holder may point to objects of the site, where the list asks so
pub data Points (list : List Inclusion) : Holder → Site → Type 0 where
  address : (g : ℕ) → Points list (Address g) (site.Global g)
  names : (h : Holder) (s : Site) → Contains list (Names h s) → Points list h s
  copies : (from to : Holder) (s : Site) → Contains list (Copies from to) → Points list from s → Points list to s
  loads : (q to : Holder) (t s : Site) → Contains list (Loads q to) → Points list q t → Points list (Bytes t) s → Points list to s
  stores : (from q : Holder) (t s : Site) → Contains list (Stores from q) → Points list q t → Points list from s → Points list (Bytes t) s
  moves : (from to : Holder) (t u s : Site) → Contains list (Moves from to) → Points list from t → Points list (Bytes t) s → Points list to u → Points list (Bytes u) s

-- the points-to sets of a program
abbrev pub PointsTo : ProgramData → Holder → Site → Type 0
PointsTo p h s = Points (asked p) h s

-- the order of sites: globals, then nodes by function and by node
abbrev pub rank : Site → ℕ
rank (site.Global g) = g
rank (site.Node f n) = (f.0 + 1) * 4294967296 + n.0

abbrev pub site_at : List Site → ℕ → Site
site_at sites k = slice_index_or sites k (site.Global 0)

abbrev pub IsAscending : List Site → Type 0
IsAscending sites = (i j : ℕ) → i < j → j < length sites → rank (site_at sites i) < rank (site_at sites j)

-- the list has the sites that are so, ascending
pub record Lists (P : Site → Type 0) (found : List Site) : Type 0 where
  pub ascending : IsAscending found
  pub only : (s : Site) → Contains found s → P s
  pub all : (s : Site) → P s → Contains found s

-- the holder is a register, a function, a node or a global of the program
abbrev pub IsIn : ProgramData → Holder → Type 0
IsIn p (Register f r) = r.0 < length (regs_of (func_at p f))
IsIn p (Returned f) = f.0 < length p.funcs
IsIn p (Bytes (site.Global g)) = g < length p.globals
IsIn p (Bytes (site.Node f n)) = n.0 < length (nodes_of (func_at p f))
IsIn p (Address g) = g < length p.globals
IsIn p Nothing = Unit {0}
