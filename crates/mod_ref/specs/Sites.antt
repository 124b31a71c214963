-- The sites of a program and the locations that its calls may change, in their order: globals, then the nodes that make objects, by function and node; the
-- cells of the sites, then the lives of their objects, the place in the input, the output.
use Rattle.std.specs.Prelude.{◌≤◌, ◌+◌, ℕ, List, [], ◌∷◌, ◌++◌, map}
use Rattle.flat_ir.specs.declared.names.FuncId.{FuncId}
use Rattle.flat_ir.specs.declared.names.Site.{Site}
use Rattle.flat_ir.specs.declared.names.Site.TheVariants as site
use Rattle.flat_ir.specs.declared.names.Location.{Location}
use Rattle.flat_ir.specs.declared.names.Location.TheVariants as location
use Rattle.flat_ir.specs.declared.nodes.Node.{Node}
use Rattle.flat_ir.specs.declared.nodes.Node.TheVariants as node
use Rattle.flat_ir.specs.declared.program.Func.{Func}
use Rattle.flat_ir.specs.declared.program.GlobalVar.{GlobalVar}
use Rattle.flat_ir.specs.declared.program.ProgramData.{ProgramData}
use Rattle.points_to.specs.Points.{rank}

-- the site of a node that makes objects
abbrev pub site_of_node : FuncId → ℕ → Node → List Site
site_of_node f k (node.Alloca size result next) = site.Node f (record { 0 = k }) ∷ []
site_of_node f k (node.Malloc size result next) = site.Node f (record { 0 = k }) ∷ []
site_of_node f k _ = []

-- the sites of a function's nodes, from the k-th on
abbrev pub sites_from : FuncId → ℕ → List Node → List Site
sites_from f k [] = []
sites_from f k (x ∷ xs) = site_of_node f k x ++ sites_from f (k + 1) xs

-- those of functions, from the k-th on
abbrev pub sites_by_funcs : ℕ → List Func → List Site
sites_by_funcs k [] = []
sites_by_funcs k (f ∷ fs) = sites_from (record { 0 = k }) 0 f.nodes ++ sites_by_funcs (k + 1) fs

-- globals, from the k-th on
abbrev pub sites_by_globals : ℕ → List GlobalVar → List Site
sites_by_globals k [] = []
sites_by_globals k (g ∷ gs) = site.Global k ∷ sites_by_globals (k + 1) gs

abbrev pub sites : ProgramData → List Site
sites p = sites_by_globals 0 p.globals ++ sites_by_funcs 0 p.funcs

abbrev pub locations : ProgramData → List Location
locations p = map location.Cells (sites p) ++ (map location.Life (sites p) ++ location.Input ∷ location.Output ∷ [])

-- ---- the order of locations

abbrev pub place_of : Location → ℕ
place_of (location.Cells s) = rank s
place_of (location.Life s) = 36893488147419103232 + rank s
place_of location.Input = 73786976294838206464
place_of location.Output = 73786976294838206465
place_of location.Result = 73786976294838206466

-- each stands behind those before it, and at this place or behind it
abbrev pub RiseFrom : ℕ → List Location → Type 0
RiseFrom n [] = Unit {0}
RiseFrom n (l ∷ ls) = (n ≤ place_of l) × RiseFrom (place_of l + 1) ls

abbrev pub IsAscending : List Location → Type 0
IsAscending ls = RiseFrom 0 ls
