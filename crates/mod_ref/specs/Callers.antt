-- The functions whose calls may change one location.
use Rattle.std.specs.Prelude.{◌≡◌, ◌<◌, ℕ, Bool, true, false, List, [], Some, length, slice_get, slice_index_or}
use Rattle.least.specs.Sets.{has, Exactly}
use Rattle.flat_ir.specs.declared.names.FuncId.{FuncId}
use Rattle.flat_ir.specs.declared.names.NodeId.{NodeId}
use Rattle.flat_ir.specs.declared.names.Location.{Location}
use Rattle.flat_ir.specs.declared.names.Location.TheVariants as location
use Rattle.flat_ir.specs.declared.names.Site.{Site}
use Rattle.flat_ir.specs.declared.nodes.Node.{Node}
use Rattle.flat_ir.specs.declared.nodes.Operand.{Operand}
use Rattle.flat_ir.specs.declared.program.ProgramData.{ProgramData}
use Rattle.flat_ir.specs.Machine.{node_at}
use Rattle.points_to.specs.Asked.{holder_in}
use Rattle.points_to.specs.Points.{PointsTo}
use Rattle.points_to.specs.Within.{callee_of}
use Rattle.mod_ref.specs.Changes.{ChangesAt, Changes, written_through, freed_by, is_malloc_site}

abbrev pub Tells : Bool → Type 0 → Type 0
Tells true P = P
Tells false P = P → ⊥

abbrev pub func : ℕ → FuncId
func k = record { 0 = k }

-- a node of a function writes through a pointer to the location
pub record Writes (p : ProgramData) (f : FuncId) (x : Node) (l : Location) : Type 0 where
  pub pointer : Operand
  pub site : Site
  pub through : written_through x ≡ Some pointer
  pub points : PointsTo p (holder_in f pointer) site
  pub there : l ≡ location.Cells site

-- it frees an object whose life the location is
pub record Frees (p : ProgramData) (f : FuncId) (x : Node) (l : Location) : Type 0 where
  pub pointer : Operand
  pub site : Site
  pub through : freed_by x ≡ Some pointer
  pub points : PointsTo p (holder_in f pointer) site
  pub made : is_malloc_site p site ≡ true
  pub there : l ≡ location.Life site

-- some node of the function changes the location by itself
pub record ChangesItself (p : ProgramData) (l : Location) (f : FuncId) : Type 0 where
  pub node : NodeId
  pub changes : ChangesAt p f node l

-- the functions with such a node
pub record AreOwn (p : ProgramData) (l : Location) (own : List Bool) : Type 0 where
  pub only : (f : FuncId) → has own f.0 ≡ true → ChangesItself p l f
  pub all : (f : FuncId) (n : NodeId) → ChangesAt p f n l → has own f.0 ≡ true

-- the node calls a member of the set
pub record CallsMember (n : Node) (S : ℕ → Bool) : Type 0 where
  pub callee : FuncId
  pub calls : callee_of n ≡ Some callee
  pub there : S callee.0 ≡ true

-- one of the nodes does
pub record AnyCalls (nodes : List Node) (S : ℕ → Bool) : Type 0 where
  pub at' : ℕ
  pub node : Node
  pub found : slice_get nodes at' ≡ Some node
  pub calls : CallsMember node S

-- some node of the function calls a member of the set
pub record CallsInto (p : ProgramData) (f : FuncId) (S : ℕ → Bool) : Type 0 where
  pub node : NodeId
  pub callee : FuncId
  pub calls : callee_of (node_at p f node) ≡ Some callee
  pub there : S callee.0 ≡ true

-- what the rule of function k gives
pub record FiresAt (p : ProgramData) (own : List Bool) (k : ℕ) (S T : ℕ → Bool) : Type 0 where
  pub itself : has own k ≡ true → T k ≡ true
  pub within : CallsInto p (func k) S → T k ≡ true

-- for each of the first locations the functions whose calls may change it
abbrev pub location_at : List Location → ℕ → Location
location_at ls i = slice_index_or ls i location.Input

abbrev pub AreColumns : ProgramData → List Location → List (List Bool) → Type 0
AreColumns p ls cs = (i : ℕ) → i < length cs → Exactly (λ k. Changes p (func k) (location_at ls i)) (has (slice_index_or cs i []))
