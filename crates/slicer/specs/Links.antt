-- What follows from what in a slice, as a list: for each node what it is retained for, and what follows if it is retained.
use Rattle.std.specs.Prelude.{ℕ, ◌+◌, Bool, true, false, List, [], ◌∷◌, ◌++◌, map, Option, None, Some}
use Rattle.std.specs.List.{flat_map}
use Rattle.least.specs.Sets.{has}
use Rattle.flat_ir.specs.declared.names.FuncId.{FuncId}
use Rattle.flat_ir.specs.declared.names.NodeId.{NodeId}
use Rattle.flat_ir.specs.declared.names.RegId.{RegId}
use Rattle.flat_ir.specs.declared.names.Site.{Site}
use Rattle.flat_ir.specs.declared.names.Site.TheVariants as site
use Rattle.flat_ir.specs.declared.names.Location.{Location}
use Rattle.flat_ir.specs.declared.names.Location.TheVariants as location
use Rattle.flat_ir.specs.declared.nodes.Operand.{Operand}
use Rattle.flat_ir.specs.declared.nodes.Operand.TheVariants as operand
use Rattle.flat_ir.specs.declared.nodes.Node.{Node}
use Rattle.flat_ir.specs.declared.program.Func.{Func}
use Rattle.flat_ir.specs.declared.program.ProgramData.{ProgramData}
use Rattle.flat_ir.specs.Whole.{results_of}
use Rattle.flat_ir.specs.Steps.{call_result}
use Rattle.flow.specs.Flow.{reads}
use Rattle.points_to.specs.Rows.{Tables}
use Rattle.points_to.specs.Sets.{of_reg}
use Rattle.points_to.specs.Within.{callee_of}
use Rattle.mod_ref.specs.Changes.{changed_by, written_through, freed_by, is_malloc_site}
use Rattle.slices.specs.Nodes.{read_through, used_alive, reads_input, is_return}
use Rattle.slicer.specs.declared.marks.Mark.{Mark}
use Rattle.slicer.specs.declared.marks.Mark.TheVariants.{Kept, Needed, Wanted, Returns, Holds}
use Rattle.slicer.specs.declared.marks.Link.{Link}

abbrev pub link : Mark → Mark → Link
link a b = record { from = a; to = b }

-- the sites of a pointer, as the points-to sets have them
abbrev pub sites_of : Tables → FuncId → Operand → List Site
sites_of t f (operand.Reg r) = of_reg t f r
sites_of t f (operand.Int n) = []
sites_of t f operand.Null = []
sites_of t f (operand.Global g offset) = site.Global g ∷ []

abbrev pub sites_if : Tables → FuncId → Option Operand → List Site
sites_if t f None = []
sites_if t f (Some a) = sites_of t f a

-- the cells and the lives of sites are needed, registers are wanted
abbrev pub cells_of : List Site → List Mark
cells_of sites = map (λ s. Needed (location.Cells s)) sites

abbrev pub lives_of : List Site → List Mark
lives_of sites = map (λ s. Needed (location.Life s)) sites

abbrev pub wanted_of : FuncId → List RegId → List Mark
wanted_of f rs = map (λ r. Wanted f r) rs

abbrev pub needed_if : Option Location → List Mark
needed_if None = []
needed_if (Some l) = Needed l ∷ []

abbrev pub holds_if : Option FuncId → List Mark
holds_if None = []
holds_if (Some callee) = Holds callee ∷ []

abbrev pub returns_if : FuncId → Bool → List Mark
returns_if f true = Returns f ∷ []
returns_if f false = []

abbrev pub input_if : Bool → List Mark
input_if true = Needed location.Input ∷ []
input_if false = []

abbrev pub kept_if : Bool → Site → List Site
kept_if true s = s ∷ []
kept_if false s = []

abbrev pub written_of : Tables → FuncId → Node → List Mark
written_of t f x = cells_of (sites_if t f (written_through x))

abbrev pub freed_of : ProgramData → Tables → FuncId → Node → List Mark
freed_of p t f x = lives_of (flat_map (λ s. kept_if (is_malloc_site p s) s) (sites_if t f (freed_by x)))

-- the locations that a node changes: by its kind, through a pointer, by a free
abbrev pub changes_of : ProgramData → Tables → FuncId → NodeId → Node → List Mark
changes_of p t f n x = needed_if (changed_by f n x) ++ written_of t f x ++ freed_of p t f x

-- what a node is retained for: a needed location that it changes, a retained node of its callee, a wanted register that it sets,
-- and, if it is a return, that the returns are
abbrev pub causes_of : ProgramData → Tables → FuncId → NodeId → Node → List Mark
causes_of p t f n x = changes_of p t f n x ++ holds_if (callee_of x) ++ wanted_of f (results_of x) ++ returns_if f (is_return x)

-- what follows if it is retained: its function has such a node, the registers that it reads are wanted, and needed are the cells that it
-- reads, the lives of what it accesses or frees, and the input if it reads that
abbrev pub effects_of : Tables → FuncId → Node → List Mark
effects_of t f x = Holds f ∷ wanted_of f (reads x) ++ cells_of (sites_if t f (read_through x)) ++ lives_of (flat_map (sites_of t f) (used_alive x)) ++ input_if (reads_input x)

-- a call's register is wanted: so its callee's returns are retained
abbrev pub received : FuncId → Option FuncId → Option RegId → List Link
received f None r = []
received f (Some callee) None = []
received f (Some callee) (Some r) = link (Wanted f r) (Returns callee) ∷ []

abbrev pub all_from : Mark → List Mark → List Link
all_from m ms = map (λ x. link m x) ms

abbrev pub all_to : Mark → List Mark → List Link
all_to m ms = map (λ x. link x m) ms

-- what follows from what by one node: first what it is retained for, so that a walk from the last link to the first takes few rounds
abbrev pub links_of : ProgramData → Tables → FuncId → NodeId → Node → List Link
links_of p t f n x = received f (callee_of x) (call_result x) ++ all_from (Kept f n) (effects_of t f x) ++ all_to (Kept f n) (causes_of p t f n x)

-- by the nodes of a function, from the k-th on
abbrev pub links_from : ProgramData → Tables → FuncId → ℕ → List Node → List Link
links_from p t f k [] = []
links_from p t f k (x ∷ xs) = links_of p t f (record { 0 = k }) x ++ links_from p t f (k + 1) xs

abbrev pub links_if : Bool → ProgramData → Tables → FuncId → List Node → List Link
links_if true p t f nodes = links_from p t f 0 nodes
links_if false p t f nodes = []

-- by the functions of a set, from the k-th on
abbrev pub links_by_funcs : ProgramData → Tables → List Bool → ℕ → List Func → List Link
links_by_funcs p t looked k [] = []
links_by_funcs p t looked k (f ∷ fs) = links_if (has looked k) p t (record { 0 = k }) f.nodes ++ links_by_funcs p t looked (k + 1) fs

abbrev pub links : ProgramData → Tables → List Bool → List Link
links p t looked = links_by_funcs p t looked 0 p.funcs
