-- Each site to which a pointer may point is a global or a node that makes objects, and each location that a call changes is one of the list.
use Rattle.std.proofs.Common.{◌≡◌, ◌<◌, ◌+◌, ℕ, List, [], ◌∷◌, ◌++◌, length, map, Option, Some, None, refl, sym, ap, subst, arith, ◌∙◌, ⊎_elim, inl, inr}
use Rattle.std.specs.Prelude.{slice_get, take}
use Rattle.std.specs.List.{Contains, flat_map, AllByRecursion as Each}
use Rattle.std.proofs.lemmas.List.Elements.{Contains-append_left, Contains-append_right, recursion_from_All, All-from_recursion, All-contains}
use Rattle.std.proofs.lemmas.List.{get_or-map, length-map}
use Rattle.std.proofs.lemmas.Option.{slice_get_cases}
use Rattle.flat_ir.proofs.MadeBasics.{each_append}
use Rattle.flat_ir.specs.declared.names.FuncId.{FuncId}
use Rattle.flat_ir.specs.declared.names.NodeId.{NodeId}
use Rattle.flat_ir.specs.declared.names.RegId.{RegId}
use Rattle.flat_ir.specs.declared.names.Site.{Site}
use Rattle.flat_ir.specs.declared.names.Site.TheVariants as site
use Rattle.flat_ir.specs.declared.names.Location.{Location}
use Rattle.flat_ir.specs.declared.names.Location.TheVariants as location
use Rattle.flat_ir.specs.declared.nodes.MoveSet.{MoveSet}
use Rattle.flat_ir.specs.declared.nodes.Node.{Node}
use Rattle.flat_ir.specs.declared.nodes.Node.TheVariants as node
use Rattle.flat_ir.specs.declared.nodes.Operand.{Operand}
use Rattle.flat_ir.specs.declared.nodes.RegType.{RegType}
use Rattle.flat_ir.specs.declared.nodes.RegType.TheVariants as type
use Rattle.flat_ir.specs.declared.program.Func.{Func}
use Rattle.flat_ir.specs.declared.program.InitByte.{InitByte}
use Rattle.flat_ir.specs.declared.program.InitByte.TheVariants as init
use Rattle.flat_ir.specs.declared.program.ProgramData.{ProgramData}
use Rattle.flat_ir.specs.Machine.{func_at, regs_of, node_at, type_at}
use Rattle.flat_ir.specs.Whole.{IsWhole, IsGlobalOf, InitIn, OperandIn}
use Rattle.points_to.specs.declared.holders.Holder.{Holder}
use Rattle.points_to.specs.declared.holders.Holder.TheVariants.{Bytes}
use Rattle.points_to.specs.declared.holders.Inclusion.{Inclusion}
use Rattle.points_to.specs.declared.holders.Inclusion.TheVariants.{Names, Copies, Loads, Stores, Moves}
use Rattle.points_to.specs.Asked.{holder_in, made_in, loaded_in, moved_in, passed_in, received_in, returned_in, asked_by, asked_from, asked_by_funcs, asked_by_byte, asked_by_globals, asked}
use Rattle.points_to.specs.Points.{address, names, copies, loads, stores, moves, PointsTo, IsIn}
use Rattle.points_to.proofs.Parts.{first, all_at, from_part, each_part}
use Rattle.points_to.proofs.AskedIn.{asked_in, operand_in}
use Rattle.points_to.proofs.Containing.{at_any_node, node_reads}
use Rattle.mod_ref.specs.Changes.{ChangesAt, Changes, itself, within, changed_by}
use Rattle.mod_ref.specs.Sites.{site_of_node, sites_from, sites_by_funcs, sites_by_globals, sites, locations}
use Rattle.mod_ref.proofs.OwnChanges.{by_cases, written_reads, freed_reads}

-- ---- globals

global_in : (p : ProgramData) (g : ℕ) → g < length p.globals → Contains (sites p) (site.Global g)
global_in p g lt =
    ⊎_elim (λ there. Contains-append_left (sites_by_globals 0 p.globals) (sites_by_funcs 0 p.funcs) (site.Global g)
    (from_part (λ k v. site.Global k ∷ []) sites_by_globals (λ k. refl, λ k v vs. refl) g p.globals there.0 (site.Global g) there.2 (first (site.Global g) [])))
    (λ past. absurd (omega (arith, past.0, lt))) (slice_get_cases p.globals g).1

-- ---- nodes

-- the site of a node that stands at its place
site_in : (p : ProgramData) (f : FuncId) (n : NodeId) (func : Func) (x : Node) (s : Site) → slice_get p.funcs f.0 ≡ Some func → slice_get func.nodes n.0 ≡ Some x
    → Contains (site_of_node f n.0 x) s → Contains (sites p) s
site_in p f n func x s at there h =
    Contains-append_right (sites_by_globals 0 p.globals) (sites_by_funcs 0 p.funcs) s
    (from_part (λ k g. sites_from (record { 0 = k }) 0 g.nodes) sites_by_funcs (λ k. refl, λ k g gs. refl) f.0 p.funcs func s at
    (from_part (site_of_node f) (sites_from f) (λ k. refl, λ k y ys. refl) n.0 func.nodes x s there h))

pub node_in : (p : ProgramData) (f : FuncId) (n : NodeId) (s : Site) → Contains (site_of_node f n.0 (node_at p f n)) s → Contains (sites p) s
node_in p f n s =
    at_any_node p f n (λ x. Contains (site_of_node f n.0 x) s → Contains (sites p) s) (λ func x at there. site_in p f n func x s at there) (λ h. absurd (omega (arith, h.1)))

-- ---- what is named is one of them

abbrev IsSite : ProgramData → Inclusion → Type 0
IsSite p (Names h s) = Contains (sites p) s
IsSite p _ = Unit {0}

moved_is : (p : ProgramData) (f : FuncId) (sets : List MoveSet) → Each (IsSite p) (moved_in f sets)
moved_is p f [] = tt
moved_is p f (s ∷ sets) = (tt, moved_is p f sets)

passed_is : (p : ProgramData) (f callee : FuncId) (k : ℕ) (args : List Operand) → Each (IsSite p) (passed_in f callee k args)
passed_is p f callee k [] = tt
passed_is p f callee k (a ∷ as') = (tt, passed_is p f callee (k + 1) as')

received_is : (p : ProgramData) (f callee : FuncId) (result : Option RegId) → Each (IsSite p) (received_in f callee result)
received_is p f callee None = tt
received_is p f callee (Some r) = (tt, tt)

made_is : (p : ProgramData) (f : FuncId) (n : NodeId) (result : Option RegId) → Contains (sites p) (site.Node f n) → Each (IsSite p) (made_in f n result)
made_is p f n None h = tt
made_is p f n (Some r) h = (h, tt)

returned_is : (p : ProgramData) (f : FuncId) (value : Option Operand) → Each (IsSite p) (returned_in f value)
returned_is p f None = tt
returned_is p f (Some a) = (tt, tt)

loaded_is : (p : ProgramData) (f : FuncId) (t : RegType) (a : Operand) (r : RegId) → Each (IsSite p) (loaded_in f t a r)
loaded_is p f (type.Int width) a r = tt
loaded_is p f type.Ptr a r = (tt, tt)

node_is : (p : ProgramData) (f : FuncId) (n : NodeId) (x : Node) → ((s : Site) → Contains (site_of_node f n.0 x) s → Contains (sites p) s) → Each (IsSite p) (asked_by p f n x)
node_is p f n (node.Gep base parts result next) h = (tt, tt)
node_is p f n (node.Select condition a b result next) h = (tt, (tt, tt))
node_is p f n (node.Alloca size result next) h = (h (site.Node f n) (0, omega arith, refl), tt)
node_is p f n (node.Malloc size result next) h = made_is p f n result (h (site.Node f n) (0, omega arith, refl))
node_is p f n (node.Load pointer result next) h = loaded_is p f (type_at p f result) pointer result
node_is p f n (node.Store value pointer next) h = (tt, tt)
node_is p f n (node.Copy from to next) h = (tt, tt)
node_is p f n (node.Call callee args result next) h =
    each_append (IsSite p) (passed_in f callee 0 (take (length (regs_of (func_at p callee))) args)) (received_in f callee result)
    (passed_is p f callee 0 (take (length (regs_of (func_at p callee))) args)) (received_is p f callee result)
node_is p f n (node.Moves ms next) h = moved_is p f ms
node_is p f n (node.Ret value) h = returned_is p f value
node_is p f n _ h = tt

nodes_are : (p : ProgramData) (f : FuncId) (func : Func) → slice_get p.funcs f.0 ≡ Some func → Each (IsSite p) (asked_from p f 0 func.nodes)
nodes_are p f func at =
    each_part (λ k. asked_by p f (record { 0 = k })) (asked_from p f) (λ k. refl, λ k x xs. refl) (IsSite p) func.nodes
    (λ k x there. node_is p f (record { 0 = k }) x (λ s. site_in p f (record { 0 = k }) func x s at there))

bytes_are : (p : ProgramData) (g : ℕ) (bs : List InitByte) → Each (InitIn (length p.globals)) bs → Each (IsSite p) (flat_map (asked_by_byte g) bs)
bytes_are p g [] are = tt
bytes_are p g (init.Int b ∷ bs) are = bytes_are p g bs are.1
bytes_are p g (init.PtrByte h offset j ∷ bs) are = (global_in p h are.0.0, bytes_are p g bs are.1)

named_in : (p : ProgramData) → IsWhole p → (c : Inclusion) → Contains (asked p) c → IsSite p c
named_in p whole c =
    All-contains (IsSite p) (asked p) c (All-from_recursion (IsSite p) (asked p)
    (each_append (IsSite p) (asked_by_globals 0 p.globals) (asked_by_funcs p 0 p.funcs)
    (each_part (λ k g. flat_map (asked_by_byte k) g.init) asked_by_globals (λ k. refl, λ k g gs. refl) (IsSite p) p.globals
    (λ k g at. bytes_are p k g.init (recursion_from_All (InitIn (length p.globals)) g.init (all_at (IsGlobalOf (length p.globals)) p.globals k g whole.globals at).init)))
    (each_part (λ k f. asked_from p (record { 0 = k }) 0 f.nodes) (asked_by_funcs p) (λ k. refl, λ k f fs. refl) (IsSite p) p.funcs
    (λ k f at. nodes_are p (record { 0 = k }) f at))))

-- ---- pointers

pub points_both : (p : ProgramData) → IsWhole p → (h : Holder) (s : Site) → PointsTo p h s → IsIn p h → Contains (sites p) s × IsIn p (Bytes s)
points_both p whole _ _ (address g) h = (global_in p g h, h)
points_both p whole h' s (names _ _ c) h = (named_in p whole (Names h' s) c, (asked_in p whole (Names h' s) c).1.1)
points_both p whole to s (copies from _ _ c x) h = points_both p whole from s x (asked_in p whole (Copies from to) c).0
points_both p whole to s (loads q _ t _ c x y) h = points_both p whole (Bytes t) s y (points_both p whole q t x (asked_in p whole (Loads q to) c).0).1
points_both p whole _ s (stores from q t _ c x y) h = points_both p whole from s y (asked_in p whole (Stores from q) c).0
points_both p whole _ s (moves from to t u _ c x y z) h = points_both p whole (Bytes t) s y (points_both p whole from t x (asked_in p whole (Moves from to) c).0).1

pub points_in : (p : ProgramData) → IsWhole p → (h : Holder) (s : Site) → PointsTo p h s → IsIn p h → Contains (sites p) s
points_in p whole h s x there = (points_both p whole h s x there).0

-- ---- locations

mapped : (c : Site → Location) (ss : List Site) (s : Site) → Contains ss s → Contains (map c ss) (c s)
mapped c ss s h = (h.0, omega (arith, h.1, length-map ss c), get_or-map c ss h.0 s (c s) h.1 ∙ ap c h.2)

cells_in : (p : ProgramData) (s : Site) → Contains (sites p) s → Contains (locations p) (location.Cells s)
cells_in p s h =
    Contains-append_left (map location.Cells (sites p)) (map location.Life (sites p) ++ location.Input ∷ location.Output ∷ []) (location.Cells s)
    (mapped location.Cells (sites p) s h)

lives_in : (p : ProgramData) (s : Site) → Contains (sites p) s → Contains (locations p) (location.Life s)
lives_in p s h =
    Contains-append_right (map location.Cells (sites p)) (map location.Life (sites p) ++ location.Input ∷ location.Output ∷ []) (location.Life s)
    (Contains-append_left (map location.Life (sites p)) (location.Input ∷ location.Output ∷ []) (location.Life s) (mapped location.Life (sites p) s h))

input_in : (p : ProgramData) → Contains (locations p) location.Input
input_in p =
    Contains-append_right (map location.Cells (sites p)) (map location.Life (sites p) ++ location.Input ∷ location.Output ∷ []) location.Input
    (Contains-append_right (map location.Life (sites p)) (location.Input ∷ location.Output ∷ []) location.Input (0, omega arith, refl))

output_in : (p : ProgramData) → Contains (locations p) location.Output
output_in p =
    Contains-append_right (map location.Cells (sites p)) (map location.Life (sites p) ++ location.Input ∷ location.Output ∷ []) location.Output
    (Contains-append_right (map location.Life (sites p)) (location.Input ∷ location.Output ∷ []) location.Output (1, omega arith, refl))

changed_in : (p : ProgramData) (f : FuncId) (n : NodeId) (x : Node) (l : Location) → ((s : Site) → Contains (site_of_node f n.0 x) s → Contains (sites p) s)
    → changed_by f n x ≡ Some l → Contains (locations p) l
changed_in p f n (node.Alloca size result next) l h e =
    let same : location.Life (site.Node f n) ≡ l = cc in subst (λ (m : Location). Contains (locations p) m) same (lives_in p (site.Node f n) (h (site.Node f n) (0, omega arith, refl)))
changed_in p f n (node.Malloc size result next) l h e =
    let same : location.Life (site.Node f n) ≡ l = cc in subst (λ (m : Location). Contains (locations p) m) same (lives_in p (site.Node f n) (h (site.Node f n) (0, omega arith, refl)))
changed_in p f n (node.In result next) l h e = let same : location.Input ≡ l = cc in subst (λ (m : Location). Contains (locations p) m) same (input_in p)
changed_in p f n (node.Put value next) l h e = let same : location.Output ≡ l = cc in subst (λ (m : Location). Contains (locations p) m) same (output_in p)
changed_in p f n _ l h e = absurd (cc)

node_changes_in : (p : ProgramData) → IsWhole p → (f : FuncId) (n : NodeId) (l : Location) → ChangesAt p f n l → Contains (locations p) l
node_changes_in p whole f n l h = elim (by_cases p f n (node_at p f n) l refl h) [
  | inl e ↦ changed_in p f n (node_at p f n) l (node_in p f n) e
  | inr more ↦ elim more [
    | inl w ↦ subst (λ (m : Location). Contains (locations p) m) (sym w.there) (cells_in p w.site (points_in p whole (holder_in f w.pointer) w.site w.points (operand_in p f w.pointer (written_reads (OperandIn (length p.globals) (length (regs_of (func_at p f)))) (node_at p f n) w.pointer (node_reads p f n whole) w.through))))
    | inr w ↦ subst (λ (m : Location). Contains (locations p) m) (sym w.there) (lives_in p w.site (points_in p whole (holder_in f w.pointer) w.site w.points (operand_in p f w.pointer (freed_reads (OperandIn (length p.globals) (length (regs_of (func_at p f)))) (node_at p f n) w.pointer (node_reads p f n whole) w.through))))
  ]
]

-- each location that a call may change is one of the program's
pub changes_in : (p : ProgramData) → IsWhole p → (f : FuncId) (l : Location) → Changes p f l → Contains (locations p) l
changes_in p whole f l (itself _ n _ h) = node_changes_in p whole f n l h
changes_in p whole f l (within _ n callee _ e h) = changes_in p whole callee l h
