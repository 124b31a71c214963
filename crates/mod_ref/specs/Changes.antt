-- What a node changes, and what a call of a function may change: one rule a line.
use Rattle.std.specs.Prelude.{◌≡◌, Bool, true, false, Option, None, Some}
use Rattle.flat_ir.specs.declared.names.FuncId.{FuncId}
use Rattle.flat_ir.specs.declared.names.NodeId.{NodeId}
use Rattle.flat_ir.specs.declared.names.Site.{Site}
use Rattle.flat_ir.specs.declared.names.Site.TheVariants as site
use Rattle.flat_ir.specs.declared.names.Location.{Location}
use Rattle.flat_ir.specs.declared.names.Location.TheVariants as location
use Rattle.flat_ir.specs.declared.nodes.Operand.{Operand}
use Rattle.flat_ir.specs.declared.nodes.Node.{Node}
use Rattle.flat_ir.specs.declared.nodes.Node.TheVariants as node
use Rattle.flat_ir.specs.declared.program.ProgramData.{ProgramData}
use Rattle.flat_ir.specs.Machine.{node_at}
use Rattle.flat_ir.specs.Steps.{is_malloc}
use Rattle.points_to.specs.Asked.{holder_in}
use Rattle.points_to.specs.Points.{PointsTo}
use Rattle.points_to.specs.Within.{callee_of}

-- what a node changes whatever its operands are: an object that it makes, the place in the input, the output
abbrev pub changed_by : FuncId → NodeId → Node → Option Location
changed_by f n (node.Alloca size result next) = Some (location.Life (site.Node f n))
changed_by f n (node.Malloc size result next) = Some (location.Life (site.Node f n))
changed_by f n (node.In result next) = Some location.Input
changed_by f n (node.Put value next) = Some location.Output
changed_by f n (node.Bin op a b result next) = None
changed_by f n (node.Cmp pred a b result next) = None
changed_by f n (node.Cast op a result next) = None
changed_by f n (node.Gep base parts result next) = None
changed_by f n (node.Select condition a b result next) = None
changed_by f n (node.Free pointer next) = None
changed_by f n (node.Load pointer result next) = None
changed_by f n (node.Store value pointer next) = None
changed_by f n (node.Copy from there next) = None
changed_by f n (node.Call callee args result next) = None
changed_by f n (node.Moves sets next) = None
changed_by f n (node.Jump next) = None
changed_by f n (node.Branch condition first second) = None
changed_by f n (node.Switch value cases default) = None
changed_by f n (node.Ret value) = None
changed_by f n (node.Exit status) = None
changed_by f n node.Abort = None
changed_by f n (node.Assert args) = None
changed_by f n node.Unreachable = None

-- the pointer that a node writes through
abbrev pub written_through : Node → Option Operand
written_through (node.Store value pointer next) = Some pointer
written_through (node.Copy from there next) = Some there
written_through _ = None

-- the pointer that a node frees
abbrev pub freed_by : Node → Option Operand
freed_by (node.Free pointer next) = Some pointer
freed_by _ = None

-- the site's objects may be freed
abbrev pub is_malloc_site : ProgramData → Site → Bool
is_malloc_site p (site.Global g) = false
is_malloc_site p (site.Node f n) = is_malloc (node_at p f n)

-- a node of a function changes a location by itself
pub data ChangesAt (p : ProgramData) (f : FuncId) (n : NodeId) : Location → Type 0 where
  changes : (l : Location) → changed_by f n (node_at p f n) ≡ Some l → ChangesAt p f n l
  writes : (a : Operand) (s : Site) → written_through (node_at p f n) ≡ Some a → PointsTo p (holder_in f a) s → ChangesAt p f n (location.Cells s)
  frees : (a : Operand) (s : Site) → freed_by (node_at p f n) ≡ Some a → PointsTo p (holder_in f a) s → is_malloc_site p s ≡ true → ChangesAt p f n (location.Life s)

-- a call of a function may change a location: the changes of the function
pub data Changes (p : ProgramData) : FuncId → Location → Type 0 where
  itself : (f : FuncId) (n : NodeId) (l : Location) → ChangesAt p f n l → Changes p f l
  within : (f : FuncId) (n : NodeId) (callee : FuncId) (l : Location) → callee_of (node_at p f n) ≡ Some callee → Changes p callee l → Changes p f l
