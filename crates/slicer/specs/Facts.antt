-- What the facts of a slice say of what a round grows from a set of items.
use Rattle.std.specs.Prelude.{◌≡◌, ◌⊎◌, ℕ, Bool, true, List, length, Some}
use Rattle.least.specs.Sets.{has, Within}
use Rattle.control_closure.specs.Met.{Parts}
use Rattle.flat_ir.specs.declared.names.FuncId.{FuncId}
use Rattle.flat_ir.specs.declared.names.NodeId.{NodeId}
use Rattle.flat_ir.specs.declared.names.Location.{Location}
use Rattle.flat_ir.specs.declared.names.Location.TheVariants as location
use Rattle.flat_ir.specs.declared.program.ProgramData.{ProgramData}
use Rattle.flat_ir.specs.Machine.{node_at}
use Rattle.slices.specs.Nodes.{Reads, is_return}
use Rattle.slices.specs.Slice.{Item, Items, Keep, Need, Looks, Grown, IsGrown, graph_of, retained}
use Rattle.slicer.specs.declared.marks.Mark.{Mark}
use Rattle.slicer.specs.declared.marks.Mark.TheVariants.{Kept, Needed, Wanted, Returns, Holds}
use Rattle.slicer.specs.Places.{number, marked, mark_of, items_of, size_of}

abbrev pub func : ℕ → FuncId
func k = record { 0 = k }

-- a node is retained, a location is needed, some retained node reads the register, each return is retained, some node is
abbrev pub Means : ProgramData → FuncId → Location → Items → Mark → Type 0
Means p f at' base (Kept g n) = Grown p f at' base (Keep g n)
Means p f at' base (Needed l) = Grown p f at' base (Need l)
Means p f at' base (Wanted g r) = (n : NodeId) × Grown p f at' base (Keep g n) × Reads p g n r
Means p f at' base (Returns g) = (k : NodeId) → is_return (node_at p g k) ≡ true → Grown p f at' base (Keep g k)
Means p f at' base (Holds g) = (n : NodeId) × Grown p f at' base (Keep g n)

-- a number of the set stands for a fact that holds
pub record IsMeant (p : ProgramData) (f : FuncId) (at' : Location) (starts : List ℕ) (base : Items) (k : ℕ) : Type 0 where
  pub mark : Mark
  pub number_is : number p starts mark ≡ Some k
  pub means : Means p f at' base mark

-- the set has the items that a round begins with, and what is asked; it has nothing but facts that hold, of functions that the slice looks at
pub record AreGiven (p : ProgramData) (f : FuncId) (at' : Location) (starts : List ℕ) (base : Items) (set : List Bool) : Type 0 where
  pub size : length set ≡ size_of p starts
  pub sound : (k : ℕ) → has set k ≡ true → IsMeant p f at' starts base k
  pub all : (i : Item) → base i ≡ true → marked p starts set (mark_of i) ≡ true
  pub asked : marked p starts set (Needed at') ≡ true
  pub returns : at' ≡ location.Result → marked p starts set (Returns f) ≡ true
  pub looks : (g : FuncId) (n : NodeId) → base (Keep g n) ≡ true → Looks p f g

-- what a growth makes of it: the items of the new set are those that grow
pub record Grows (p : ProgramData) (f : FuncId) (at' : Location) (starts : List ℕ) (base : Items) (set grown : List Bool) : Type 0 where
  pub grown_is : IsGrown p f at' base (items_of p starts grown)
  pub sound : (k : ℕ) → has grown k ≡ true → IsMeant p f at' starts base k
  pub within : Within (has set) (has grown)

-- a number stands for a node of a function of the set that parts its ways
pub record IsParted (p : ProgramData) (starts : List ℕ) (looked : List Bool) (items : Items) (k : ℕ) : Type 0 where
  pub func : FuncId
  pub node : NodeId
  pub number_is : number p starts (Kept func node) ≡ Some k
  pub known : has looked func.0 ≡ true
  pub parts : Parts (graph_of p func) (retained p func items) node.0

-- one closing round in each function of a set
pub record ClosesOnce (p : ProgramData) (starts : List ℕ) (looked old new : List Bool) : Type 0 where
  pub grows : Within (has old) (has new)
  pub only : (k : ℕ) → has new k ≡ true → (has old k ≡ true) ⊎ IsParted p starts looked (items_of p starts old) k
  pub all : (g : FuncId) → has looked g.0 ≡ true → (n : NodeId) → Parts (graph_of p g) (retained p g (items_of p starts old)) n.0 → marked p starts new (Kept g n) ≡ true
