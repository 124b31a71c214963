-- The facts of a slice as numbers: each function has a place for each of its nodes and registers, all functions share one for globals, functions and the three
-- locations without a site, and each place has nine numbers, one for each kind of fact.
use Rattle.std.specs.Prelude.{◌≡◌, ◌<◌, ◌≤◌, ◌+◌, ◌*◌, ◌^◌, nat_lt, ℕ, zero, suc, Bool, true, false, List, [], ◌∷◌, length, Option, None, Some, slice_index_or}
use Rattle.least.specs.Sets.{has}
use Rattle.flat_ir.specs.declared.names.FuncId.{FuncId}
use Rattle.flat_ir.specs.declared.names.Site.TheVariants as site
use Rattle.flat_ir.specs.declared.names.Location.TheVariants as location
use Rattle.flat_ir.specs.declared.program.ProgramData.{ProgramData}
use Rattle.flat_ir.specs.Machine.{func_at, regs_of}
use Rattle.slices.specs.Slice.{Item, Items, Keep, Need, end_of}
use Rattle.slicer.specs.declared.marks.Mark.{Mark}
use Rattle.slicer.specs.declared.marks.Mark.TheVariants.{Kept, Needed, Wanted, Returns, Holds}
use Rattle.slicer.specs.declared.marks.Link.{Link}
use Rattle.slicer.specs.declared.places.Spot.{Spot}
use Rattle.slicer.specs.declared.reaching.Arrow.{Arrow}

-- where a fact stands: its kind, its function or the shared row, which of how many there
abbrev pub spot_of : ProgramData → Mark → Spot
spot_of p (Kept f n) = record { kind = 0; row = f.0; at = n.0; limit = end_of p f }
spot_of p (Needed (location.Cells (site.Node f n))) = record { kind = 1; row = f.0; at = n.0; limit = end_of p f }
spot_of p (Needed (location.Life (site.Node f n))) = record { kind = 2; row = f.0; at = n.0; limit = end_of p f }
spot_of p (Wanted f r) = record { kind = 3; row = f.0; at = r.0; limit = length (regs_of (func_at p f)) }
spot_of p (Needed (location.Cells (site.Global g))) = record { kind = 4; row = length p.funcs; at = g; limit = length p.globals }
spot_of p (Needed (location.Life (site.Global g))) = record { kind = 5; row = length p.funcs; at = g; limit = length p.globals }
spot_of p (Returns f) = record { kind = 6; row = length p.funcs; at = f.0; limit = length p.funcs }
spot_of p (Holds f) = record { kind = 7; row = length p.funcs; at = f.0; limit = length p.funcs }
spot_of p (Needed location.Input) = record { kind = 8; row = length p.funcs; at = 0; limit = 3 }
spot_of p (Needed location.Output) = record { kind = 8; row = length p.funcs; at = 1; limit = 3 }
spot_of p (Needed location.Result) = record { kind = 8; row = length p.funcs; at = 2; limit = 3 }

-- the fact that stands there
abbrev pub mark_at : ℕ → ℕ → ℕ → Mark
mark_at zero row k = Kept (record { 0 = row }) (record { 0 = k })
mark_at (suc zero) row k = Needed (location.Cells (site.Node (record { 0 = row }) (record { 0 = k })))
mark_at (suc (suc zero)) row k = Needed (location.Life (site.Node (record { 0 = row }) (record { 0 = k })))
mark_at (suc (suc (suc zero))) row k = Wanted (record { 0 = row }) (record { 0 = k })
mark_at (suc (suc (suc (suc zero)))) row k = Needed (location.Cells (site.Global k))
mark_at (suc (suc (suc (suc (suc zero))))) row k = Needed (location.Life (site.Global k))
mark_at (suc (suc (suc (suc (suc (suc zero)))))) row k = Returns (record { 0 = k })
mark_at (suc (suc (suc (suc (suc (suc (suc zero))))))) row k = Holds (record { 0 = k })
mark_at (suc (suc (suc (suc (suc (suc (suc (suc kind)))))))) row zero = Needed location.Input
mark_at (suc (suc (suc (suc (suc (suc (suc (suc kind)))))))) row (suc zero) = Needed location.Output
mark_at (suc (suc (suc (suc (suc (suc (suc (suc kind)))))))) row (suc (suc k)) = Needed location.Result

-- where a row starts
abbrev pub start : List ℕ → ℕ → ℕ
start starts row = slice_index_or starts row 0

-- the first rows stand one behind the other, each with room for what stands there, and are few enough to number
pub record AreRows (p : ProgramData) (count : ℕ) (starts : List ℕ) : Type 0 where
  pub rows : length starts ≡ count + 1
  pub rises : (i : ℕ) → i + 1 < length starts → start starts i ≤ start starts (i + 1)
  pub small : (i : ℕ) → start starts i ≤ 576460752303423488
  pub nodes : (f : FuncId) → f.0 < count → start starts f.0 + end_of p f ≤ start starts (f.0 + 1)
  pub registers : (f : FuncId) → f.0 < count → start starts f.0 + length (regs_of (func_at p f)) ≤ start starts (f.0 + 1)

-- the rows stand one behind the other, each with room for what stands there, and all are few enough to number
pub record AreLaidOut (p : ProgramData) (starts : List ℕ) : Type 0 where
  pub rows : length starts ≡ length p.funcs + 2
  pub rises : (i : ℕ) → i + 1 < length starts → start starts i ≤ start starts (i + 1)
  pub small : (i : ℕ) → start starts i ≤ 576460752303423488
  pub nodes : (f : FuncId) → f.0 < length p.funcs → start starts f.0 + end_of p f ≤ start starts (f.0 + 1)
  pub registers : (f : FuncId) → f.0 < length p.funcs → start starts f.0 + length (regs_of (func_at p f)) ≤ start starts (f.0 + 1)
  pub shared : start starts (length p.funcs) + (length p.globals + length p.funcs + 3) ≤ start starts (length p.funcs + 1)

-- how many numbers there are
abbrev pub size_of : ProgramData → List ℕ → ℕ
size_of p starts = 9 * start starts (length p.funcs + 1)

abbrev pub number_at : List ℕ → Spot → ℕ
number_at starts s = 9 * (start starts s.row + s.at) + s.kind

abbrev pub number_if : Bool → ℕ → Option ℕ
number_if true k = Some k
number_if false k = None

-- the number of a fact, if it is the program's
abbrev pub number : ProgramData → List ℕ → Mark → Option ℕ
number p starts m = number_if (nat_lt (spot_of p m).at (spot_of p m).limit) (number_at starts (spot_of p m))

abbrev pub has_at : List Bool → Option ℕ → Bool
has_at set None = false
has_at set (Some k) = has set k

-- the set has the fact
abbrev pub marked : ProgramData → List ℕ → List Bool → Mark → Bool
marked p starts set m = has_at set (number p starts m)

-- the items of a slice that are among its facts
abbrev pub mark_of : Item → Mark
mark_of (Keep f n) = Kept f n
mark_of (Need l) = Needed l

abbrev pub items_of : ProgramData → List ℕ → List Bool → Items
items_of p starts set = λ i. marked p starts set (mark_of i)

abbrev pub both : Option ℕ → Option ℕ → List Arrow
both None b = []
both (Some a) None = []
both (Some a) (Some b) = record { from = a; to = b } ∷ []

-- what follows from what, in numbers
abbrev pub arrow_of : ProgramData → List ℕ → Link → List Arrow
arrow_of p starts l = both (number p starts l.from) (number p starts l.to)
