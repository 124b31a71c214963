-- Growing and closing by turns, over sets of facts.
use Rattle.std.specs.Prelude.{◌≡◌, ℕ, Bool, true, false, List}
use Rattle.std.specs.List.{flat_map}
use Rattle.least.specs.Sets.{has, Exactly}
use Rattle.flat_ir.specs.declared.names.FuncId.{FuncId}
use Rattle.flat_ir.specs.declared.names.NodeId.{NodeId}
use Rattle.flat_ir.specs.declared.names.Location.{Location}
use Rattle.flat_ir.specs.declared.names.Location.TheVariants as location
use Rattle.flat_ir.specs.declared.program.ProgramData.{ProgramData}
use Rattle.flat_ir.specs.Whole.{IsWhole}
use Rattle.points_to.specs.Rows.{Tables}
use Rattle.points_to.specs.Sets.{ArePointsTo}
use Rattle.slices.specs.Slice.{Items, Keep, Looks, Slices, IsSlice, IsClosedSlice}
use Rattle.slicer.specs.declared.reaching.Arrow.{Arrow}
use Rattle.slicer.specs.Facts.{func, AreGiven}
use Rattle.slicer.specs.Links.{links}
use Rattle.slicer.specs.Places.{AreLaidOut, arrow_of, items_of}

abbrev pub nothing : Items
nothing = λ i. false

abbrev pub is_result : Location → Bool
is_result (location.Cells s) = false
is_result (location.Life s) = false
is_result location.Input = false
is_result location.Output = false
is_result location.Result = true

-- the sets are the program's, the functions those that the slice looks at, and the arrows what follows from what in them
pub record IsReady (p : ProgramData) (t : Tables) (f : FuncId) (starts : List ℕ) (looked : List Bool) (arrows : List Arrow) : Type 0 where
  pub points : ArePointsTo p t
  pub exactly : Exactly (λ k. Looks p f (func k)) (has looked)
  pub arrows_are : arrows ≡ flat_map (arrow_of p starts) (links p t looked)

-- what the rounds from here on give, the rounds from nothing on give
pub record IsOnTheWay (p : ProgramData) (f : FuncId) (at' : Location) (starts : List ℕ) (set : List Bool) : Type 0 where
  pub base : Items
  pub given : AreGiven p f at' starts base set
  pub rounds : (end : Items) → Slices p f at' base end → IsSlice p f at' end

-- the items of the set are the slice, of functions that it looks at
pub record IsFound (p : ProgramData) (f : FuncId) (at' : Location) (starts : List ℕ) (set : List Bool) : Type 0 where
  pub slice : IsSlice p f at' (items_of p starts set)
  pub closed : IsClosedSlice p f (items_of p starts set)
  pub looks : (g : FuncId) (n : NodeId) → items_of p starts set (Keep g n) ≡ true → Looks p f g
