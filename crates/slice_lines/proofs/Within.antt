-- What a word names is a location of the program.
use Rattle.std.proofs.Common.{◌≡◌, ◌<◌, ◌≤◌, ◌+◌, ℕ, suc, Bool, true, false, if◌then◌else◌, List, [], ◌∷◌, ◌++◌, length, map, Option, Some, None, IfSome, refl, sym, subst, arith}
use Rattle.std.specs.Prelude.{slice_get}
use Rattle.std.specs.List.{AllByRecursion as Each}
use Rattle.std.specs.Str.{bytes_eq}
use Rattle.flat_ir.specs.declared.names.FuncId.{FuncId}
use Rattle.flat_ir.specs.declared.names.Site.{Site}
use Rattle.flat_ir.specs.declared.names.Location.{Location}
use Rattle.flat_ir.specs.declared.names.Location.TheVariants as location
use Rattle.flat_ir.specs.declared.nodes.Node.{Node}
use Rattle.flat_ir.specs.declared.nodes.Node.TheVariants as node
use Rattle.flat_ir.specs.declared.nodes.RegType.{RegType}
use Rattle.flat_ir.specs.declared.program.Func.{Func}
use Rattle.flat_ir.specs.declared.program.GlobalVar.{GlobalVar}
use Rattle.flat_ir.specs.declared.program.ProgramData.{ProgramData}
use Rattle.flat_ir.specs.Machine.{func_at, nodes_of}
use Rattle.points_to.specs.declared.holders.Holder.TheVariants.{Bytes}
use Rattle.points_to.specs.Points.{IsIn}
use Rattle.flat_ir.proofs.MadeBasics.{each_append}
use Rattle.mod_ref.specs.Sites.{site_of_node, sites_from, sites_by_funcs, sites_by_globals, sites, locations}
use Rattle.slicer.specs.Locations.{IsLocationOf}
use Rattle.slice_lines.specs.Targets.{location_word, result_if, result_of, targets, location_in}

abbrev IsSiteOf : ProgramData → Site → Type 0
IsSiteOf p s = IsIn p (Bytes s)

-- ---- sites

globals_each : (p : ProgramData) (k : ℕ) (gs : List GlobalVar) → k + length gs ≤ length p.globals → Each (IsSiteOf p) (sites_by_globals k gs)
globals_each p k [] within = tt
globals_each p k (g ∷ gs) within = (omega (arith, within), globals_each p (k + 1) gs (omega (arith, within)))

node_each : (p : ProgramData) (f : FuncId) (k : ℕ) (x : Node) → k < length (nodes_of (func_at p f)) → Each (IsSiteOf p) (site_of_node f k x)
node_each p f k (node.Alloca size result next) within = (within, tt)
node_each p f k (node.Malloc size result next) within = (within, tt)
node_each p f k _ within = tt

nodes_each : (p : ProgramData) (f : FuncId) (k : ℕ) (xs : List Node) → k + length xs ≤ length (nodes_of (func_at p f)) → Each (IsSiteOf p) (sites_from f k xs)
nodes_each p f k [] within = tt
nodes_each p f k (x ∷ xs) within =
    each_append (IsSiteOf p) (site_of_node f k x) (sites_from f (k + 1) xs) (node_each p f k x (omega (arith, within))) (nodes_each p f (k + 1) xs (omega (arith, within)))

funcs_each : (p : ProgramData) (k : ℕ) (fs : List Func) → ((i : ℕ) (g : Func) → slice_get fs i ≡ Some g → slice_get p.funcs (k + i) ≡ Some g)
    → Each (IsSiteOf p) (sites_by_funcs k fs)
funcs_each p k [] stands = tt
funcs_each p k (f ∷ fs) stands =
    each_append (IsSiteOf p) (sites_from (record { 0 = k }) 0 f.nodes) (sites_by_funcs (k + 1) fs)
    (nodes_each p (record { 0 = k }) 0 f.nodes (of_func (slice_get p.funcs k) here)) (funcs_each p (k + 1) fs more)
  where
    here : slice_get p.funcs k ≡ Some f
    here = let e : k + 0 ≡ k = omega arith in subst (λ (n : ℕ). slice_get p.funcs n ≡ Some f) e (stands 0 f refl)

    of_func : (o : Option Func) → o ≡ Some f → 0 + length f.nodes ≤ length (nodes_of o)
    of_func None is = cc
    of_func (Some g) is = let same : g ≡ f = cc in subst (λ (h : Func). 0 + length f.nodes ≤ length h.nodes) (sym same) (omega arith)

    more : (i : ℕ) (g : Func) → slice_get fs i ≡ Some g → slice_get p.funcs (k + 1 + i) ≡ Some g
    more i g at = let e : k + suc i ≡ k + 1 + i = omega arith in subst (λ (n : ℕ). slice_get p.funcs n ≡ Some g) e (stands (suc i) g at)

sites_each : (p : ProgramData) → Each (IsSiteOf p) (sites p)
sites_each p =
    each_append (IsSiteOf p) (sites_by_globals 0 p.globals) (sites_by_funcs 0 p.funcs) (globals_each p 0 p.globals (omega arith))
    (funcs_each p 0 p.funcs (λ i g at. let e : i ≡ 0 + i = omega arith in subst (λ (n : ℕ). slice_get p.funcs n ≡ Some g) e at))

-- ---- locations

cells_each : (p : ProgramData) (ss : List Site) → Each (IsSiteOf p) ss → Each (IsLocationOf p) (map location.Cells ss)
cells_each p [] all = tt
cells_each p (s ∷ ss) all = (all.0, cells_each p ss all.1)

lives_each : (p : ProgramData) (ss : List Site) → Each (IsSiteOf p) ss → Each (IsLocationOf p) (map location.Life ss)
lives_each p [] all = tt
lives_each p (s ∷ ss) all = (all.0, lives_each p ss all.1)

locations_each : (p : ProgramData) → Each (IsLocationOf p) (locations p)
locations_each p =
    each_append (IsLocationOf p) (map location.Cells (sites p)) (map location.Life (sites p) ++ location.Input ∷ location.Output ∷ []) (cells_each p (sites p) (sites_each p))
    (each_append (IsLocationOf p) (map location.Life (sites p)) (location.Input ∷ location.Output ∷ []) (lives_each p (sites p) (sites_each p)) (tt, (tt, tt)))

result_each : (p : ProgramData) (o : Option Func) → Each (IsLocationOf p) (result_of o)
result_each p None = tt
result_each p (Some f) = of_type f.result
  where
    of_type : (t : Option RegType) → Each (IsLocationOf p) (result_if t)
    of_type None = tt
    of_type (Some t) = (tt, tt)

targets_each : (p : ProgramData) (f : FuncId) → Each (IsLocationOf p) (targets p f)
targets_each p f = each_append (IsLocationOf p) (locations p) (result_of (func_at p f)) (locations_each p) (result_each p (func_at p f))

by-test : (P : Location → Type 0) (b : Bool) (l : Location) (o : Option Location) → P l → IfSome o P → IfSome (if b then Some l else o) P
by-test P true l o here more = here
by-test P false l o here more = more

found_is : (P : Location → Type 0) (p : ProgramData) (word : List ℕ) (ls : List Location) → Each P ls → IfSome (location_in p word ls) P
found_is P p word [] all = tt
found_is P p word (l ∷ ls) all = by-test P (bytes_eq (location_word p l) word) l (location_in p word ls) all.0 (found_is P p word ls all.1)

pub named-is-location : (p : ProgramData) (f : FuncId) (word : List ℕ) (ls : List Location) (o : Option Location) → ls ≡ targets p f → o ≡ location_in p word ls →
    IfSome o (IsLocationOf p)
named-is-location p f word ls o all found =
    subst (λ (found' : Option Location). IfSome found' (IsLocationOf p)) (sym found)
    (found_is (IsLocationOf p) p word ls (subst (λ (ms : List Location). Each (IsLocationOf p) ms) (sym all) (targets_each p f)))
