-- A set that is closed under the links has all that a round grows.
use Rattle.slice_laws.proofs.OneSlice.{ItemLooks, grown_looks as all_look}
use Rattle.slice_laws.proofs.Frames.{below_at}
use Rattle.slice_laws.proofs.Lists.{Contains-map, none_in}
use Rattle.mod_ref.proofs.SitesAre.{points_both}
use Rattle.points_to.proofs.Parts.{first, from_part}
use Rattle.points_to.proofs.AskedIn.{operand_in}
use Rattle.std.proofs.Common.{◌≡◌, ◌<◌, ◌≤◌, ◌+◌, ◌++◌, ◌⊎◌, inl, inr, ℕ, zero, suc, Bool, true, false, List, [], ◌∷◌, length, map, get_or, Option, Some, None, refl, sym, ap, subst, arith, ◌∙◌, ⊎_elim}
use Rattle.std.specs.Prelude.{slice_get, unwrap_or}
use Rattle.std.specs.List.{Contains, flat_map}
use Rattle.std.proofs.lemmas.List.Elements.{Contains-append_left, Contains-append_right, All-contains, All-from_recursion}
use Rattle.std.proofs.lemmas.Option.{slice_get-get_or, unwrap_or-slice_get, slice_get_read}
use Rattle.least.specs.Sets.{has}
use Rattle.flat_ir.specs.declared.names.FuncId.{FuncId}
use Rattle.flat_ir.specs.declared.names.NodeId.{NodeId}
use Rattle.flat_ir.specs.declared.names.RegId.{RegId}
use Rattle.flat_ir.specs.declared.names.Site.{Site}
use Rattle.flat_ir.specs.declared.names.Site.TheVariants as site
use Rattle.flat_ir.specs.declared.names.Location.{Location}
use Rattle.flat_ir.specs.declared.names.Location.TheVariants as location
use Rattle.flat_ir.specs.declared.nodes.Node.{Node}
use Rattle.flat_ir.specs.declared.nodes.Node.TheVariants as node
use Rattle.flat_ir.specs.declared.nodes.Operand.{Operand}
use Rattle.flat_ir.specs.declared.nodes.Operand.TheVariants as operand
use Rattle.flat_ir.specs.declared.program.Func.{Func}
use Rattle.flat_ir.specs.declared.program.ProgramData.{ProgramData}
use Rattle.flat_ir.specs.Machine.{func_at, regs_of, nodes_of, node_at}
use Rattle.flat_ir.specs.Steps.{call_result}
use Rattle.flat_ir.specs.Whole.{IsWhole, IsFuncOf, IsNodeOf, NamesIn, OperandIn, operands_of, results_of}
use Rattle.flow.specs.Flow.{reads, read_by}
use Rattle.points_to.specs.declared.holders.Holder.{Holder}
use Rattle.points_to.specs.declared.holders.Holder.TheVariants.{Register, Returned, Bytes, Address, Nothing}
use Rattle.points_to.specs.declared.holders.Inclusion.TheVariants.{Names, Copies, Loads, Stores, Moves}
use Rattle.points_to.specs.Asked.{holder_in}
use Rattle.points_to.specs.Points.{PointsTo, IsIn, address, names, copies, loads, stores, moves}
use Rattle.points_to.specs.Rows.{Tables}
use Rattle.points_to.specs.Sets.{ArePointsTo}
use Rattle.points_to.specs.Within.{callee_of}
use Rattle.points_to.proofs.Containing.{node_reads, at_any_node, node_of}
use Rattle.mod_ref.specs.Changes.{ChangesAt, changes, writes, frees, changed_by, written_through, freed_by, is_malloc_site}
use Rattle.mod_ref.proofs.OwnChanges.{written_reads, freed_reads, changes_within}
use Rattle.slices.specs.Nodes.{Reads, Defines, read_through, used_alive, reads_input, is_return}
use Rattle.slices.specs.Slice.{Item, Items, Keep, Need, Looks, Grown, end_of}
use Rattle.slices.specs.Slice as slice
use Rattle.slicer.specs.declared.marks.Mark.{Mark}
use Rattle.slicer.specs.declared.marks.Mark.TheVariants.{Kept, Needed, Wanted, Returns, Holds}
use Rattle.slicer.specs.declared.marks.Link.{Link}
use Rattle.slicer.specs.Links.{link, sites_of, sites_if, cells_of, lives_of, written_of, freed_of, wanted_of, needed_if, holds_if, returns_if, input_if, kept_if, changes_of, causes_of, effects_of, received, all_from, all_to, links_of, links_from, links_if, links_by_funcs, links}
use Rattle.slicer.specs.Places.{spot_of, number, has_at, marked, mark_of}
use Rattle.slicer.specs.Facts.{func}
use Rattle.slicer.proofs.Numbers.{func_within, placed}
use Rattle.slicer.proofs.Carrying.{Own, sites_all, read_reads, alive_reads}

-- ---- lists

pub contains_flat_map : {A B : Type 0} (g : A → List B) (xs : List A) (x : A) (y : B) → Contains xs x → Contains (g x) y → Contains (flat_map g xs) y
contains_flat_map g xs x y there h =
    from_part (λ k. g) (λ k. flat_map g) (λ k. refl, λ k z zs. refl) there.0 xs x y (slice_get_read xs (length xs) there.0 x refl there.1 (sym there.2)) h

-- ---- the program's nodes

pub calls_there : (p : ProgramData) (g : FuncId) (n : NodeId) (callee : FuncId) → callee_of (node_at p g n) ≡ Some callee → n.0 < end_of p g
calls_there p g n callee e = below_at p g n (λ x. callee_of x ≡ Some callee) e (λ h. absurd (cc))

returns_there : (p : ProgramData) (g : FuncId) (n : NodeId) → is_return (node_at p g n) ≡ true → n.0 < end_of p g
returns_there p g n e = below_at p g n (λ x. is_return x ≡ true) e (λ h. absurd (cc))

defines_there : (p : ProgramData) (g : FuncId) (n : NodeId) (r : RegId) → Defines p g n r → n.0 < end_of p g
defines_there p g n r h = below_at p g n (λ x. Contains (results_of x) r) h (none_in r)

named : (funcs : ℕ) (x : Node) (callee : FuncId) → NamesIn funcs x → callee_of x ≡ Some callee → callee.0 < funcs
named funcs (node.Call f args result next) callee h e = let same : f ≡ callee = cc in subst (λ (g : FuncId). g.0 < funcs) same h
named funcs x callee h e = absurd (cc)

-- what is called is a function of the program
pub callee_within : (p : ProgramData) → IsWhole p → (g : FuncId) (n : NodeId) (callee : FuncId) → callee_of (node_at p g n) ≡ Some callee → callee.0 < length p.funcs
callee_within p whole g n callee e =
    at_any_node p g n (λ x. callee_of x ≡ Some callee → callee.0 < length p.funcs) (λ f x at' there is. named (length p.funcs) x callee (node_of p whole g f n.0 x at' there).names is)
    (λ h. absurd (cc)) e

-- the fact is the program's
abbrev pub IsOwn : ProgramData → Mark → Type 0
IsOwn p m = (spot_of p m).at < (spot_of p m).limit

pub cells_own : (p : ProgramData) (s : Site) → IsIn p (Bytes s) → IsOwn p (Needed (location.Cells s))
cells_own p (site.Global g) h = h
cells_own p (site.Node f n) h = h

pub lives_own : (p : ProgramData) (s : Site) → IsIn p (Bytes s) → IsOwn p (Needed (location.Life s))
lives_own p (site.Global g) h = h
lives_own p (site.Node f n) h = h

-- ---- what a node is retained for, and what follows

sites_there : (t : Tables) (f : FuncId) (o : Option Operand) (a : Operand) (s : Site) → o ≡ Some a → Contains (sites_of t f a) s → Contains (sites_if t f o) s
sites_there t f o a s e h = subst (λ (q : Option Operand). Contains (sites_if t f q) s) (sym e) h

change_there : (p : ProgramData) → IsWhole p → (t : Tables) → ArePointsTo p t → (g : FuncId) (n : NodeId) (l : Location) → ChangesAt p g n l
    → Contains (changes_of p t g n (node_at p g n)) (Needed l)
change_there p whole t are g n _ (changes l e) =
    let x : Node = node_at p g n in
    Contains-append_left (needed_if (changed_by g n x) ++ written_of t g x) (freed_of p t g x) (Needed l)
    (Contains-append_left (needed_if (changed_by g n x)) (written_of t g x) (Needed l)
    (subst (λ (o : Option Location). Contains (needed_if o) (Needed l)) (sym e) (first (Needed l) [])))
change_there p whole t are g n _ (writes a s e h) =
    let x : Node = node_at p g n in
    let m : Mark = Needed (location.Cells s) in
    Contains-append_left (needed_if (changed_by g n x) ++ written_of t g x) (freed_of p t g x) m
    (Contains-append_right (needed_if (changed_by g n x)) (written_of t g x) m
    (Contains-map (λ u. Needed (location.Cells u)) (sites_if t g (written_through x)) s
    (sites_there t g (written_through x) a s e (sites_all p whole t are g a (written_reads (Own p g) x a (node_reads p g n whole) e) s h))))
change_there p whole t are g n _ (frees a s e h made) =
    let x : Node = node_at p g n in
    let m : Mark = Needed (location.Life s) in
    let K : Site → List Site = λ u. kept_if (is_malloc_site p u) u in
    Contains-append_right (needed_if (changed_by g n x) ++ written_of t g x) (freed_of p t g x) m
    (Contains-map (λ u. Needed (location.Life u)) (flat_map K (sites_if t g (freed_by x))) s
    (contains_flat_map K (sites_if t g (freed_by x)) s s
    (sites_there t g (freed_by x) a s e (sites_all p whole t are g a (freed_reads (Own p g) x a (node_reads p g n whole) e) s h))
    (subst (λ (b : Bool). Contains (kept_if b s) s) (sym made) (first s []))))

-- the four kinds of causes
cause_change : (p : ProgramData) (t : Tables) (g : FuncId) (n : NodeId) (x : Node) (m : Mark) → Contains (changes_of p t g n x) m → Contains (causes_of p t g n x) m
cause_change p t g n x m h =
    Contains-append_left (changes_of p t g n x ++ holds_if (callee_of x) ++ wanted_of g (results_of x)) (returns_if g (is_return x)) m
    (Contains-append_left (changes_of p t g n x ++ holds_if (callee_of x)) (wanted_of g (results_of x)) m
    (Contains-append_left (changes_of p t g n x) (holds_if (callee_of x)) m h))

cause_call : (p : ProgramData) (t : Tables) (g : FuncId) (n : NodeId) (x : Node) (callee : FuncId) → callee_of x ≡ Some callee → Contains (causes_of p t g n x) (Holds callee)
cause_call p t g n x callee e =
    Contains-append_left (changes_of p t g n x ++ holds_if (callee_of x) ++ wanted_of g (results_of x)) (returns_if g (is_return x)) (Holds callee)
    (Contains-append_left (changes_of p t g n x ++ holds_if (callee_of x)) (wanted_of g (results_of x)) (Holds callee)
    (Contains-append_right (changes_of p t g n x) (holds_if (callee_of x)) (Holds callee)
    (subst (λ (o : Option FuncId). Contains (holds_if o) (Holds callee)) (sym e) (first (Holds callee) []))))

cause_set : (p : ProgramData) (t : Tables) (g : FuncId) (n : NodeId) (x : Node) (r : RegId) → Contains (results_of x) r → Contains (causes_of p t g n x) (Wanted g r)
cause_set p t g n x r h =
    Contains-append_left (changes_of p t g n x ++ holds_if (callee_of x) ++ wanted_of g (results_of x)) (returns_if g (is_return x)) (Wanted g r)
    (Contains-append_right (changes_of p t g n x ++ holds_if (callee_of x)) (wanted_of g (results_of x)) (Wanted g r)
    (Contains-map (λ q. Wanted g q) (results_of x) r h))

cause_return : (p : ProgramData) (t : Tables) (g : FuncId) (n : NodeId) (x : Node) → is_return x ≡ true → Contains (causes_of p t g n x) (Returns g)
cause_return p t g n x e =
    Contains-append_right (changes_of p t g n x ++ holds_if (callee_of x) ++ wanted_of g (results_of x)) (returns_if g (is_return x)) (Returns g)
    (subst (λ (b : Bool). Contains (returns_if g b) (Returns g)) (sym e) (first (Returns g) []))

-- the five kinds of effects
behind : (t : Tables) (g : FuncId) (x : Node) (m : Mark)
    → Contains (wanted_of g (reads x) ++ cells_of (sites_if t g (read_through x)) ++ lives_of (flat_map (sites_of t g) (used_alive x)) ++ input_if (reads_input x)) m → Contains (effects_of t g x) m
behind t g x m h =
    Contains-append_right (Holds g ∷ []) (wanted_of g (reads x) ++ cells_of (sites_if t g (read_through x)) ++ lives_of (flat_map (sites_of t g) (used_alive x)) ++ input_if (reads_input x)) m h

effect_read : (t : Tables) (g : FuncId) (x : Node) (r : RegId) → Contains (operands_of x) (operand.Reg r) → Contains (effects_of t g x) (Wanted g r)
effect_read t g x r h =
    let cells : List Mark = cells_of (sites_if t g (read_through x)) in
    let lives : List Mark = lives_of (flat_map (sites_of t g) (used_alive x)) in
    behind t g x (Wanted g r)
    (Contains-append_left (wanted_of g (reads x) ++ cells ++ lives) (input_if (reads_input x)) (Wanted g r)
    (Contains-append_left (wanted_of g (reads x) ++ cells) lives (Wanted g r)
    (Contains-append_left (wanted_of g (reads x)) cells (Wanted g r)
    (Contains-map (λ q. Wanted g q) (reads x) r (contains_flat_map read_by (operands_of x) (operand.Reg r) r h (first r []))))))

effect_cells : (t : Tables) (g : FuncId) (x : Node) (a : Operand) (s : Site) → read_through x ≡ Some a → Contains (sites_of t g a) s → Contains (effects_of t g x) (Needed (location.Cells s))
effect_cells t g x a s e h =
    let m : Mark = Needed (location.Cells s) in
    let cells : List Mark = cells_of (sites_if t g (read_through x)) in
    let lives : List Mark = lives_of (flat_map (sites_of t g) (used_alive x)) in
    behind t g x m
    (Contains-append_left (wanted_of g (reads x) ++ cells ++ lives) (input_if (reads_input x)) m
    (Contains-append_left (wanted_of g (reads x) ++ cells) lives m
    (Contains-append_right (wanted_of g (reads x)) cells m
    (Contains-map (λ u. Needed (location.Cells u)) (sites_if t g (read_through x)) s (sites_there t g (read_through x) a s e h)))))

effect_lives : (t : Tables) (g : FuncId) (x : Node) (a : Operand) (s : Site) → Contains (used_alive x) a → Contains (sites_of t g a) s → Contains (effects_of t g x) (Needed (location.Life s))
effect_lives t g x a s there h =
    let m : Mark = Needed (location.Life s) in
    let cells : List Mark = cells_of (sites_if t g (read_through x)) in
    let lives : List Mark = lives_of (flat_map (sites_of t g) (used_alive x)) in
    behind t g x m
    (Contains-append_left (wanted_of g (reads x) ++ cells ++ lives) (input_if (reads_input x)) m
    (Contains-append_right (wanted_of g (reads x) ++ cells) lives m
    (Contains-map (λ u. Needed (location.Life u)) (flat_map (sites_of t g) (used_alive x)) s (contains_flat_map (sites_of t g) (used_alive x) a s there h))))

effect_input : (t : Tables) (g : FuncId) (x : Node) → reads_input x ≡ true → Contains (effects_of t g x) (Needed location.Input)
effect_input t g x e =
    let m : Mark = Needed location.Input in
    behind t g x m
    (Contains-append_right (wanted_of g (reads x) ++ cells_of (sites_if t g (read_through x)) ++ lives_of (flat_map (sites_of t g) (used_alive x))) (input_if (reads_input x)) m
    (subst (λ (b : Bool). Contains (input_if b) m) (sym e) (first m [])))

-- ---- the links of a node are the program's

link_there : (p : ProgramData) (t : Tables) (looked : List Bool) (g : FuncId) (n : NodeId) → has looked g.0 ≡ true → n.0 < end_of p g → (l : Link)
    → Contains (links_of p t g n (node_at p g n)) l → Contains (links p t looked) l
link_there p t looked g n on within l there = go (func_at p g) refl within there
  where
    go : (o : Option Func) → slice_get p.funcs g.0 ≡ o → n.0 < length (nodes_of o) → Contains (links_of p t g n (unwrap_or (slice_get (nodes_of o) n.0) node.Unreachable)) l
        → Contains (links p t looked) l
    go None at' lt h = absurd (omega (arith, lt))
    go (Some f) at' lt h =
        let x : Node = get_or f.nodes n.0 node.Unreachable in
        let same : unwrap_or (slice_get f.nodes n.0) node.Unreachable ≡ x = unwrap_or-slice_get f.nodes n.0 node.Unreachable in
        from_part (λ k (h : Func). links_if (has looked k) p t (func k) h.nodes) (links_by_funcs p t looked) (λ k. refl, λ k h hs. refl) g.0 p.funcs f l at'
        (subst (λ (b : Bool). Contains (links_if b p t g f.nodes) l) (sym on)
        (from_part (λ k. links_of p t g (record { 0 = k })) (links_from p t g) (λ k. refl, λ k y ys. refl) n.0 f.nodes x l (slice_get-get_or f.nodes n.0 node.Unreachable lt)
        (subst (λ (y : Node). Contains (links_of p t g n y) l) same h)))

-- ---- a closed set

-- the set is closed under the links, and has the items that a round begins with and what is asked; the functions that the slice looks at are known
pub record IsFull (p : ProgramData) (t : Tables) (f : FuncId) (at' : Location) (base : Items) (starts : List ℕ) (looked set : List Bool) : Type 0 where
  pub closed : (l : Link) → Contains (links p t looked) l → marked p starts set l.from ≡ true → IsOwn p l.to → marked p starts set l.to ≡ true
  pub all : (i : Item) → base i ≡ true → marked p starts set (mark_of i) ≡ true
  pub asked : marked p starts set (Needed at') ≡ true
  pub returns : at' ≡ location.Result → marked p starts set (Returns f) ≡ true
  pub looks : (g : FuncId) (n : NodeId) → base (Keep g n) ≡ true → Looks p f g
  pub known : (g : FuncId) → Looks p f g → has looked g.0 ≡ true

before_looks : (p : ProgramData) (f : FuncId) (base : Items) → ((g : FuncId) (n : NodeId) → base (Keep g n) ≡ true → Looks p f g) → (i : Item) → base i ≡ true → ItemLooks p f i
before_looks p f base looks (Keep g n) h = looks g n h
before_looks p f base looks (Need l) h = tt

-- what grows is of functions that the slice looks at
pub grown_looks : (p : ProgramData) (f : FuncId) (at' : Location) (base : Items) → ((g : FuncId) (n : NodeId) → base (Keep g n) ≡ true → Looks p f g) → (i : Item)
    → Grown p f at' base i → ItemLooks p f i
grown_looks p f at' base looks i h = all_look p f at' base (before_looks p f base looks) i h

pub marked_has : (set : List Bool) (o : Option ℕ) → has_at set o ≡ true → (k : ℕ) × (o ≡ Some k) × (has set k ≡ true)
marked_has set None h = absurd (cc)
marked_has set (Some k) h = (k, refl, h)

-- a fact of the set is the program's
pub marked_own : (p : ProgramData) (starts : List ℕ) (set : List Bool) (m : Mark) → marked p starts set m ≡ true → IsOwn p m
marked_own p starts set m h = let w = marked_has set (number p starts m) h in (placed p starts m w.0 w.1).0

module _ (p : ProgramData) (t : Tables) (f : FuncId) (at' : Location) (base : Items) (starts : List ℕ) (looked set : List Bool) (full : IsFull p t f at' base starts looked set)
    (whole : IsWhole p) (are : ArePointsTo p t) where
  -- a node is retained for something of the set
  cause_step : (g : FuncId) (n : NodeId) → Looks p f g → n.0 < end_of p g → (m : Mark) → Contains (causes_of p t g n (node_at p g n)) m → marked p starts set m ≡ true
      → marked p starts set (Kept g n) ≡ true
  cause_step g n looks within m there in' =
      let x : Node = node_at p g n in
      let causes : List Mark = causes_of p t g n x in
      let l : Link = link m (Kept g n) in
      full.closed l
      (link_there p t looked g n (full.known g looks) within l
      (Contains-append_right (received g (callee_of x) (call_result x) ++ all_from (Kept g n) (effects_of t g x)) (all_to (Kept g n) causes) l
      (Contains-map (λ u. link u (Kept g n)) causes m there))) in' within

  -- something follows, as a node is retained
  effect_step : (g : FuncId) (n : NodeId) → Looks p f g → marked p starts set (Kept g n) ≡ true → (m : Mark) → Contains (effects_of t g (node_at p g n)) m → IsOwn p m
      → marked p starts set m ≡ true
  effect_step g n looks in' m there own =
      let x : Node = node_at p g n in
      let effects : List Mark = effects_of t g x in
      let l : Link = link (Kept g n) m in
      full.closed l
      (link_there p t looked g n (full.known g looks) (marked_own p starts set (Kept g n) in') l
      (Contains-append_left (received g (callee_of x) (call_result x) ++ all_from (Kept g n) effects) (all_to (Kept g n) (causes_of p t g n x)) l
      (Contains-append_right (received g (callee_of x) (call_result x)) (all_from (Kept g n) effects) l
      (Contains-map (λ u. link (Kept g n) u) effects m there)))) in' own

  -- the returns of a callee are, as a call's register is wanted
  result_step : (g : FuncId) (n : NodeId) → Looks p f g → (callee : FuncId) (r : RegId) → callee_of (node_at p g n) ≡ Some callee → call_result (node_at p g n) ≡ Some r
      → marked p starts set (Wanted g r) ≡ true → marked p starts set (Returns callee) ≡ true
  result_step g n looks callee r e is in' =
      let x : Node = node_at p g n in
      let l : Link = link (Wanted g r) (Returns callee) in
      full.closed l
      (link_there p t looked g n (full.known g looks) (calls_there p g n callee e) l
      (Contains-append_left (received g (callee_of x) (call_result x) ++ all_from (Kept g n) (effects_of t g x)) (all_to (Kept g n) (causes_of p t g n x)) l
      (Contains-append_left (received g (callee_of x) (call_result x)) (all_from (Kept g n) (effects_of t g x)) l
      (subst (λ (o : Option FuncId). Contains (received g o (call_result x)) l) (sym e)
      (subst (λ (q : Option RegId). Contains (received g (Some callee) q) l) (sym is) (first l []))))))
      in' (callee_within p whole g n callee e)

  looks_of : (g : FuncId) (n : NodeId) → Grown p f at' base (Keep g n) → Looks p f g
  looks_of g n h = grown_looks p f at' base full.looks (Keep g n) h

  reads_own : (g : FuncId) (n : NodeId) (a : Operand) → Contains (operands_of (node_at p g n)) a → Own p g a
  reads_own g n a there = All-contains (Own p g) (operands_of (node_at p g n)) a (All-from_recursion (Own p g) (operands_of (node_at p g n)) (node_reads p g n whole)) there

  -- a register that a retained node reads is wanted
  wanted_in : (g : FuncId) (n : NodeId) (r : RegId) → Looks p f g → marked p starts set (Kept g n) ≡ true → Reads p g n r → marked p starts set (Wanted g r) ≡ true
  wanted_in g n r looks in' reads' = effect_step g n looks in' (Wanted g r) (effect_read t g (node_at p g n) r reads') (reads_own g n (operand.Reg r) reads')

  -- the set has what grows
  pub grown_in : (i : Item) → Grown p f at' base i → marked p starts set (mark_of i) ≡ true
  grown_in i (slice.before _ h) = full.all i h
  grown_in _ slice.asked = full.asked
  grown_in _ (slice.returns n e ret) =
      cause_step f n slice.itself (returns_there p f n ret) (Returns f) (cause_return p t f n (node_at p f n) ret) (full.returns e)
  grown_in _ (slice.changes g n l looks c h) =
      cause_step g n looks (changes_within p g n l c) (Needed l) (cause_change p t g n (node_at p g n) (Needed l) (change_there p whole t are g n l c)) (grown_in (Need l) h)
  grown_in _ (slice.defines g n m r h reads' sets) =
      let looks : Looks p f g = looks_of g n h in
      cause_step g m looks (defines_there p g m r sets) (Wanted g r) (cause_set p t g m (node_at p g m) r sets) (wanted_in g n r looks (grown_in (Keep g n) h) reads')
  grown_in _ (slice.cells g n a s h e there) =
      let own : Own p g a = read_reads (Own p g) (node_at p g n) a (node_reads p g n whole) e in
      effect_step g n (looks_of g n h) (grown_in (Keep g n) h) (Needed (location.Cells s))
      (effect_cells t g (node_at p g n) a s e (sites_all p whole t are g a own s there))
      (cells_own p s (points_both p whole (holder_in g a) s there (operand_in p g a own)).1)
  grown_in _ (slice.lives g n a s h e there) =
      let x : Node = node_at p g n in
      let own : Own p g a = All-contains (Own p g) (used_alive x) a (All-from_recursion (Own p g) (used_alive x) (alive_reads (Own p g) x (node_reads p g n whole))) e in
      effect_step g n (looks_of g n h) (grown_in (Keep g n) h) (Needed (location.Life s))
      (effect_lives t g x a s e (sites_all p whole t are g a own s there))
      (lives_own p s (points_both p whole (holder_in g a) s there (operand_in p g a own)).1)
  grown_in _ (slice.input g n h e) =
      effect_step g n (looks_of g n h) (grown_in (Keep g n) h) (Needed location.Input) (effect_input t g (node_at p g n) e) (omega arith)
  grown_in _ (slice.calls g n callee m looks e h) =
      let in' = grown_in (Keep callee m) h in
      let held' = effect_step callee m (looks_of callee m h) in' (Holds callee) (first (Holds callee) _) (func_within p callee m.0 (marked_own p starts set (Kept callee m) in')) in
      cause_step g n looks (calls_there p g n callee e) (Holds callee) (cause_call p t g n (node_at p g n) callee e) held'
  grown_in _ (slice.results g n m callee r k h reads' e is ret) =
      let looks : Looks p f g = looks_of g n h in
      let wanted : marked p starts set (Wanted g r) ≡ true = wanted_in g n r looks (grown_in (Keep g n) h) reads' in
      cause_step callee k (slice.calls g m callee looks e) (returns_there p callee k ret) (Returns callee) (cause_return p t callee k (node_at p callee k) ret)
      (result_step g m looks callee r e is wanted)
