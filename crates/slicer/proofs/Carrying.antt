-- What follows by links holds.
use Rattle.slice_laws.proofs.Lists.{none_in, each_from}
use Rattle.points_to.proofs.Parts.{each_part}
use Rattle.flat_ir.proofs.MadeBasics.{each_append}
use Rattle.std.proofs.Common.{◌≡◌, ◌<◌, ◌≤◌, ◌+◌, ◌++◌, ℕ, zero, suc, Bool, true, false, List, [], ◌∷◌, length, map, get_or, Option, Some, None, refl, sym, ap, subst, arith, ◌∙◌}
use Rattle.std.specs.Prelude.{slice_get, unwrap_or}
use Rattle.std.specs.List.{Contains, flat_map, AllByRecursion as Each}
use Rattle.std.proofs.lemmas.List.Elements.{Contains-append_right, All-contains, All-from_recursion}
use Rattle.least.specs.Sets.{has}
use Rattle.flat_ir.specs.declared.names.FuncId.{FuncId}
use Rattle.flat_ir.specs.declared.names.NodeId.{NodeId}
use Rattle.flat_ir.specs.declared.names.RegId.{RegId}
use Rattle.flat_ir.specs.declared.names.Site.{Site}
use Rattle.flat_ir.specs.declared.names.Site.TheVariants as site
use Rattle.flat_ir.specs.declared.names.Location.{Location}
use Rattle.flat_ir.specs.declared.names.Location.TheVariants as location
use Rattle.flat_ir.specs.declared.nodes.Node.{Node}
use Rattle.flat_ir.specs.declared.nodes.Node.TheVariants as node
use Rattle.flat_ir.specs.declared.nodes.Operand.{Operand}
use Rattle.flat_ir.specs.declared.nodes.Operand.TheVariants as operand
use Rattle.flat_ir.specs.declared.program.Func.{Func}
use Rattle.flat_ir.specs.declared.program.ProgramData.{ProgramData}
use Rattle.flat_ir.specs.Machine.{func_at, regs_of, nodes_of, node_at}
use Rattle.flat_ir.specs.Steps.{call_result}
use Rattle.flat_ir.specs.Whole.{IsWhole, OperandIn, operands_of, results_of}
use Rattle.flow.specs.Flow.{reads, read_by}
use Rattle.points_to.specs.declared.holders.Holder.TheVariants.{Register, Address, Nothing}
use Rattle.points_to.specs.Asked.{holder_in}
use Rattle.points_to.specs.Points.{PointsTo, address}
use Rattle.points_to.specs.Rows.{Tables}
use Rattle.points_to.specs.Sets.{ArePointsTo}
use Rattle.points_to.specs.Within.{callee_of}
use Rattle.points_to.proofs.Containing.{node_reads}
use Rattle.mod_ref.specs.Changes.{ChangesAt, changes, writes, frees, changed_by, written_through, freed_by, is_malloc_site}
use Rattle.mod_ref.proofs.OwnChanges.{held, written_reads, freed_reads}
use Rattle.slices.specs.Nodes.{Reads, Defines, read_through, used_alive, reads_input, is_return}
use Rattle.slices.specs.Slice.{Items, Keep, Need, Looks, Grown}
use Rattle.slices.specs.Slice as slice
use Rattle.slicer.specs.declared.marks.Mark.{Mark}
use Rattle.slicer.specs.declared.marks.Mark.TheVariants.{Kept, Needed, Wanted, Returns, Holds}
use Rattle.slicer.specs.declared.marks.Link.{Link}
use Rattle.slicer.specs.Links.{link, sites_of, sites_if, cells_of, lives_of, wanted_of, needed_if, holds_if, returns_if, input_if, kept_if, changes_of, causes_of, effects_of, received, all_from, all_to, links_of, links_from, links_if, links_by_funcs, links}
use Rattle.slicer.specs.Facts.{func, Means}

-- ---- lists

pub each_map : {A B : Type 0} (g : A → B) (P : B → Type 0) (xs : List A) → Each (λ a. P (g a)) xs → Each P (map g xs)
each_map g P [] h = tt
each_map g P (x ∷ xs) h = (h.0, each_map g P xs h.1)

pub each_flat_map : {A B : Type 0} (g : A → List B) (P : B → Type 0) (xs : List A) → Each (λ a. Each P (g a)) xs → Each P (flat_map g xs)
each_flat_map g P [] h = tt
each_flat_map g P (x ∷ xs) h = each_append P (g x) (flat_map g xs) h.0 (each_flat_map g P xs h.1)

-- ---- the pointers of a node

pub read_reads : (P : Operand → Type 0) (x : Node) (a : Operand) → Each P (operands_of x) → read_through x ≡ Some a → P a
read_reads P (node.Load pointer result next) a all e = let same : pointer ≡ a = cc in subst P same all.0
read_reads P (node.Copy from there next) a all e = let same : from ≡ a = cc in subst P same all.0
read_reads P x a all e = absurd (cc)

pub alive_reads : (P : Operand → Type 0) (x : Node) → Each P (operands_of x) → Each P (used_alive x)
alive_reads P (node.Load pointer result next) all = (all.0, tt)
alive_reads P (node.Store value pointer next) all = (all.1.0, tt)
alive_reads P (node.Copy from there next) all = (all.0, (all.1.0, tt))
alive_reads P (node.Free pointer next) all = (all.0, tt)
alive_reads P x all = tt

-- ---- sites of pointers

abbrev pub Own : ProgramData → FuncId → Operand → Type 0
Own p f a = OperandIn (length p.globals) (length (regs_of (func_at p f))) a

pub one_there : {A : Type 0} (x y : A) → (k : ℕ) → k < 1 → get_or (x ∷ []) k y ≡ y → x ≡ y
one_there x y zero lt e = e
one_there x y (suc k) lt e = absurd (omega (arith, lt))

pub sites_only : (p : ProgramData) (t : Tables) → ArePointsTo p t → (f : FuncId) (a : Operand) → Own p f a → (s : Site) → Contains (sites_of t f a) s → PointsTo p (holder_in f a) s
sites_only p t are f (operand.Reg r) there s h = (are.registers f r there).only s h
sites_only p t are f (operand.Int n) there s h = absurd (none_in s h)
sites_only p t are f operand.Null there s h = absurd (none_in s h)
sites_only p t are f (operand.Global g offset) there s h =
    let is : site.Global g ≡ s = one_there (site.Global g) s h.0 h.1 h.2 in
    subst (λ (u : Site). PointsTo p (Address g) u) is (address g)

pub sites_all : (p : ProgramData) → IsWhole p → (t : Tables) → ArePointsTo p t → (f : FuncId) (a : Operand) → Own p f a → (s : Site) → PointsTo p (holder_in f a) s → Contains (sites_of t f a) s
sites_all p whole t are f (operand.Reg r) there s h = (are.registers f r there).all s h
sites_all p whole t are f (operand.Int n) there s h = absurd (held p whole Nothing s h)
sites_all p whole t are f operand.Null there s h = absurd (held p whole Nothing s h)
sites_all p whole t are f (operand.Global g offset) there s h = (0, omega arith, sym (held p whole (Address g) s h))

-- ---- what holds of each of a list of facts

-- the registers that operands read
read_each : (P : RegId → Type 0) (as' : List Operand) → ((r : RegId) → Contains as' (operand.Reg r) → P r) → Each P (flat_map read_by as')
read_each P [] h = tt
read_each P (operand.Reg r ∷ as') h = (h r (0, omega arith, refl), read_each P as' (λ q there. h q (Contains-append_right (operand.Reg r ∷ []) as' (operand.Reg q) there)))
read_each P (operand.Int n ∷ as') h = read_each P as' (λ q there. h q (Contains-append_right (operand.Int n ∷ []) as' (operand.Reg q) there))
read_each P (operand.Null ∷ as') h = read_each P as' (λ q there. h q (Contains-append_right (operand.Null ∷ []) as' (operand.Reg q) there))
read_each P (operand.Global g offset ∷ as') h = read_each P as' (λ q there. h q (Contains-append_right (operand.Global g offset ∷ []) as' (operand.Reg q) there))

-- the sites of a pointer, if there is one
sites_each : (P : Site → Type 0) (t : Tables) (f : FuncId) (o : Option Operand) → ((a : Operand) (s : Site) → o ≡ Some a → Contains (sites_of t f a) s → P s) → Each P (sites_if t f o)
sites_each P t f None h = tt
sites_each P t f (Some a) h = each_from P (sites_of t f a) (λ s there. h a s refl there)

kept_each : (P : Site → Type 0) (b : Bool) (s : Site) → (b ≡ true → P s) → Each P (kept_if b s)
kept_each P true s h = (h refl, tt)
kept_each P false s h = tt

needed_each : (P : Mark → Type 0) (o : Option Location) → ((l : Location) → o ≡ Some l → P (Needed l)) → Each P (needed_if o)
needed_each P None h = tt
needed_each P (Some l) h = (h l refl, tt)

holds_each : (P : Mark → Type 0) (o : Option FuncId) → ((g : FuncId) → o ≡ Some g → P (Holds g)) → Each P (holds_if o)
holds_each P None h = tt
holds_each P (Some g) h = (h g refl, tt)

returns_each : (P : Mark → Type 0) (g : FuncId) (b : Bool) → (b ≡ true → P (Returns g)) → Each P (returns_if g b)
returns_each P g true h = (h refl, tt)
returns_each P g false h = tt

input_each : (P : Mark → Type 0) (b : Bool) → (b ≡ true → P (Needed location.Input)) → Each P (input_if b)
input_each P true h = (h refl, tt)
input_each P false h = tt

received_each : (P : Link → Type 0) (g : FuncId) (o : Option FuncId) (q : Option RegId)
    → ((callee : FuncId) (r : RegId) → o ≡ Some callee → q ≡ Some r → P (link (Wanted g r) (Returns callee))) → Each P (received g o q)
received_each P g None q h = tt
received_each P g (Some callee) None h = tt
received_each P g (Some callee) (Some r) h = (h callee r refl refl, tt)

-- ---- one node

-- what follows if the node is retained
effects_hold : (p : ProgramData) → IsWhole p → (t : Tables) → ArePointsTo p t → (f : FuncId) (at' : Location) (base : Items) (g : FuncId) (n : NodeId)
    → Each (λ m. Grown p f at' base (Keep g n) → Means p f at' base m) (effects_of t g (node_at p g n))
effects_hold p whole t are f at' base g n =
    let x : Node = node_at p g n in
    let P : Mark → Type 0 = λ m. Grown p f at' base (Keep g n) → Means p f at' base m in
    let cells : List Mark = cells_of (sites_if t g (read_through x)) in
    let alive : List Site = flat_map (sites_of t g) (used_alive x) in
    let own : (a : Operand) → Contains (used_alive x) a → Own p g a =
    λ a. All-contains (Own p g) (used_alive x) a (All-from_recursion (Own p g) (used_alive x) (alive_reads (Own p g) x (node_reads p g n whole))) in (
      λ k. (n, k),
      each_append P (wanted_of g (reads x) ++ cells ++ lives_of alive) (input_if (reads_input x))
          (each_append P (wanted_of g (reads x) ++ cells) (lives_of alive)
          (each_append P (wanted_of g (reads x)) cells
          (each_map (λ r. Wanted g r) P (reads x) (read_each (λ r. P (Wanted g r)) (operands_of x) (λ r there k. (n, k, there))))
          (each_map (λ s. Needed (location.Cells s)) P (sites_if t g (read_through x))
          (sites_each (λ s. P (Needed (location.Cells s))) t g (read_through x)
          (λ a s e there k. slice.cells g n a s k e (sites_only p t are g a (read_reads (Own p g) x a (node_reads p g n whole) e) s there)))))
          (each_map (λ s. Needed (location.Life s)) P alive
          (each_flat_map (sites_of t g) (λ s. P (Needed (location.Life s))) (used_alive x)
          (each_from (λ a. Each (λ s. P (Needed (location.Life s))) (sites_of t g a)) (used_alive x)
          (λ a there. each_from (λ s. P (Needed (location.Life s))) (sites_of t g a) (λ s in' k. slice.lives g n a s k there (sites_only p t are g a (own a there) s in')))))))
          (input_each P (reads_input x) (λ e k. slice.input g n k e)),
    )

-- what it is retained for: a needed location that it changes
changes_lead : (p : ProgramData) → IsWhole p → (t : Tables) → ArePointsTo p t → (f : FuncId) (at' : Location) (base : Items) (g : FuncId) (n : NodeId) → Looks p f g
    → Each (λ m. Means p f at' base m → Grown p f at' base (Keep g n)) (changes_of p t g n (node_at p g n))
changes_lead p whole t are f at' base g n looks =
    let x : Node = node_at p g n in
    let Q : Mark → Type 0 = λ m. Means p f at' base m → Grown p f at' base (Keep g n) in
    let cells : List Mark = cells_of (sites_if t g (written_through x)) in
    let made : List Site = flat_map (λ s. kept_if (is_malloc_site p s) s) (sites_if t g (freed_by x)) in
    each_append Q (needed_if (changed_by g n x) ++ cells) (lives_of made)
    (each_append Q (needed_if (changed_by g n x)) cells
    (needed_each Q (changed_by g n x) (λ l e need. slice.changes g n l looks (changes l e) need))
    (each_map (λ s. Needed (location.Cells s)) Q (sites_if t g (written_through x))
    (sites_each (λ s. Q (Needed (location.Cells s))) t g (written_through x)
    (λ a s e there need. slice.changes g n (location.Cells s) looks (writes a s e (sites_only p t are g a (written_reads (Own p g) x a (node_reads p g n whole) e) s there)) need))))
    (each_map (λ s. Needed (location.Life s)) Q made
    (each_flat_map (λ s. kept_if (is_malloc_site p s) s) (λ s. Q (Needed (location.Life s))) (sites_if t g (freed_by x))
    (sites_each (λ s. Each (λ u. Q (Needed (location.Life u))) (kept_if (is_malloc_site p s) s)) t g (freed_by x)
    (λ a s e there. kept_each (λ u. Q (Needed (location.Life u))) (is_malloc_site p s) s
    (λ is need. slice.changes g n (location.Life s) looks (frees a s e (sites_only p t are g a (freed_reads (Own p g) x a (node_reads p g n whole) e) s there) is) need)))))

causes_lead : (p : ProgramData) → IsWhole p → (t : Tables) → ArePointsTo p t → (f : FuncId) (at' : Location) (base : Items) (g : FuncId) (n : NodeId) → Looks p f g
    → Each (λ m. Means p f at' base m → Grown p f at' base (Keep g n)) (causes_of p t g n (node_at p g n))
causes_lead p whole t are f at' base g n looks =
    let x : Node = node_at p g n in
    let Q : Mark → Type 0 = λ m. Means p f at' base m → Grown p f at' base (Keep g n) in
    each_append Q (changes_of p t g n x ++ holds_if (callee_of x) ++ wanted_of g (results_of x)) (returns_if g (is_return x))
    (each_append Q (changes_of p t g n x ++ holds_if (callee_of x)) (wanted_of g (results_of x))
    (each_append Q (changes_of p t g n x) (holds_if (callee_of x))
    (changes_lead p whole t are f at' base g n looks)
    (holds_each Q (callee_of x) (λ callee e w. slice.calls g n callee w.0 looks e w.1)))
    (each_map (λ r. Wanted g r) Q (results_of x) (each_from (λ r. Q (Wanted g r)) (results_of x) (λ r there w. slice.defines g w.0 n r w.1 w.2 there))))
    (returns_each Q g (is_return x) (λ e all. all n e))

-- the fact to which a link leads holds where the one holds from which it leads
abbrev pub Carries : ProgramData → FuncId → Location → Items → Link → Type 0
Carries p f at' base l = Means p f at' base l.from → Means p f at' base l.to

node_carries : (p : ProgramData) → IsWhole p → (t : Tables) → ArePointsTo p t → (f : FuncId) (at' : Location) (base : Items) (g : FuncId) (n : NodeId) → Looks p f g
    → Each (Carries p f at' base) (links_of p t g n (node_at p g n))
node_carries p whole t are f at' base g n looks =
    let x : Node = node_at p g n in
    let C : Link → Type 0 = Carries p f at' base in
    let effects : List Mark = effects_of t g x in
    let causes : List Mark = causes_of p t g n x in
    each_append C (received g (callee_of x) (call_result x) ++ all_from (Kept g n) effects) (all_to (Kept g n) causes)
    (each_append C (received g (callee_of x) (call_result x)) (all_from (Kept g n) effects)
    (received_each C g (callee_of x) (call_result x) (λ callee r e is w k ret. slice.results g w.0 n callee r k w.1 w.2 e is ret))
    (each_map (λ m. link (Kept g n) m) C effects (effects_hold p whole t are f at' base g n)))
    (each_map (λ m. link m (Kept g n)) C causes (causes_lead p whole t are f at' base g n looks))

-- ---- all nodes

nodes_carry : (p : ProgramData) → IsWhole p → (t : Tables) → ArePointsTo p t → (f : FuncId) (at' : Location) (base : Items) (g : FuncId) (b : Bool) → (b ≡ true → Looks p f g)
    → (nodes : List Node) → nodes_of (func_at p g) ≡ nodes → Each (Carries p f at' base) (links_if b p t g nodes)
nodes_carry p whole t are f at' base g false looks nodes is = tt
nodes_carry p whole t are f at' base g true looks nodes is =
    each_part (λ k. links_of p t g (record { 0 = k })) (links_from p t g) (λ k. refl, λ k x xs. refl) (Carries p f at' base) nodes
    (λ k x there. subst (λ (y : Node). Each (Carries p f at' base) (links_of p t g (record { 0 = k }) y))
    (ap (λ (ns : List Node). unwrap_or (slice_get ns k) node.Unreachable) is ∙ ap (λ (o : Option Node). unwrap_or o node.Unreachable) there)
    (node_carries p whole t are f at' base g (record { 0 = k }) (looks refl)))

-- each link of the program carries what holds
pub links_carry : (p : ProgramData) → IsWhole p → (t : Tables) → ArePointsTo p t → (f : FuncId) (at' : Location) (base : Items) (looked : List Bool)
    → ((k : ℕ) → has looked k ≡ true → Looks p f (func k)) → (l : Link) → Contains (links p t looked) l → Carries p f at' base l
links_carry p whole t are f at' base looked looks l =
    All-contains (Carries p f at' base) (links p t looked) l (All-from_recursion (Carries p f at' base) (links p t looked)
    (each_part (λ k (g : Func). links_if (has looked k) p t (func k) g.nodes) (links_by_funcs p t looked) (λ k. refl, λ k g gs. refl) (Carries p f at' base) p.funcs
    (λ k g stands. nodes_carry p whole t are f at' base (func k) (has looked k) (looks k) g.nodes (ap nodes_of stands))))
