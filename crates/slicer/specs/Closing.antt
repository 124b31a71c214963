-- One closing round, function by function.
use Rattle.std.specs.Prelude.{◌≡◌, ◌<◌, ◌⊎◌, ℕ, Bool, true, false, List, Some}
use Rattle.control_closure.specs.Met.{Parts}
use Rattle.least.specs.Sets.{has, Within}
use Rattle.flat_ir.specs.declared.names.FuncId.{FuncId}
use Rattle.flat_ir.specs.declared.names.NodeId.{NodeId}
use Rattle.flat_ir.specs.declared.program.ProgramData.{ProgramData}
use Rattle.slices.specs.Slice.{graph_of, retained}
use Rattle.slicer.specs.declared.marks.Mark.{Mark}
use Rattle.slicer.specs.declared.marks.Mark.TheVariants.{Kept}
use Rattle.slicer.specs.Facts.{IsParted}
use Rattle.slicer.specs.Places.{number, marked, items_of}

abbrev pub node : ℕ → NodeId
node n = record { 0 = n }

-- a fact is put into a set, if a test says so
pub record MarksIf (p : ProgramData) (starts : List ℕ) (test : Bool) (m : Mark) (old new : List Bool) : Type 0 where
  pub grows : Within (has old) (has new)
  pub only : (k : ℕ) → has new k ≡ true → (has old k ≡ true) ⊎ ((test ≡ true) × (number p starts m ≡ Some k))
  pub all : test ≡ true → (k : ℕ) → number p starts m ≡ Some k → has new k ≡ true

-- a number stands for a node of a list
pub record IsListed (p : ProgramData) (starts : List ℕ) (g : FuncId) (nodes : List Bool) (k : ℕ) : Type 0 where
  pub at' : NodeId
  pub number_is : number p starts (Kept g at') ≡ Some k
  pub there : has nodes at'.0 ≡ true

-- the first nodes of a list are put into a set
pub record MarksNodes (p : ProgramData) (starts : List ℕ) (g : FuncId) (count : ℕ) (nodes old new : List Bool) : Type 0 where
  pub grows : Within (has old) (has new)
  pub only : (k : ℕ) → has new k ≡ true → (has old k ≡ true) ⊎ IsListed p starts g nodes k
  pub all : (n : ℕ) → n < count → has nodes n ≡ true → (k : ℕ) → number p starts (Kept g (node n)) ≡ Some k → has new k ≡ true

-- a number stands for a node of the function that parts its ways
pub record IsPartedIn (p : ProgramData) (starts : List ℕ) (g : FuncId) (grown : List Bool) (k : ℕ) : Type 0 where
  pub at' : NodeId
  pub number_is : number p starts (Kept g at') ≡ Some k
  pub parts : Parts (graph_of p g) (retained p g (items_of p starts grown)) at'.0

-- the nodes that are retained, and those that part their ways, are put into a set
pub record ClosesFunction (p : ProgramData) (starts : List ℕ) (g : FuncId) (grown old new : List Bool) : Type 0 where
  pub grows : Within (has old) (has new)
  pub only : (k : ℕ) → has new k ≡ true → (has old k ≡ true) ⊎ ((has grown k ≡ true) ⊎ IsPartedIn p starts g grown k)
  pub all : (n : NodeId) → Parts (graph_of p g) (retained p g (items_of p starts grown)) n.0 → marked p starts new (Kept g n) ≡ true

-- so it is, or nothing changes
pub record ClosesIf (p : ProgramData) (starts : List ℕ) (test : Bool) (g : FuncId) (grown old new : List Bool) : Type 0 where
  pub closes : test ≡ true → ClosesFunction p starts g grown old new
  pub stays : test ≡ false → new ≡ old

-- so it is for the first functions, where a set of functions has them
pub record ClosesFirst (p : ProgramData) (starts : List ℕ) (looked : List Bool) (count : ℕ) (grown new : List Bool) : Type 0 where
  pub grows : Within (has grown) (has new)
  pub only : (k : ℕ) → has new k ≡ true → (has grown k ≡ true) ⊎ IsParted p starts looked (items_of p starts grown) k
  pub all : (g : FuncId) → g.0 < count → has looked g.0 ≡ true → (n : NodeId) → Parts (graph_of p g) (retained p g (items_of p starts grown)) n.0 → marked p starts new (Kept g n) ≡ true
