-- What frames free at their ends.
use Rattle.std.proofs.lemmas.Bool.{cases_Bool}
use Rattle.std.specs.Prelude.{slice_get, unwrap_or, reverse}
use Rattle.std.proofs.Common.{◌≡◌, ◌+◌, ◌∙◌, ⊎_elim, ℕ, zero, suc, false, List, [], ◌∷◌, ◌++◌, Option, Some, refl, sym, ap, subst, arith}
use Rattle.std.specs.List.{filter, AllByRecursion as Each}
use Rattle.std.proofs.lemmas.List.Elements.{filter-append}
use Rattle.flat_ir.specs.declared.names.FuncId.{FuncId}
use Rattle.flat_ir.specs.declared.names.Location.{Location}
use Rattle.flat_ir.specs.declared.names.Location.TheVariants as location
use Rattle.flat_ir.specs.declared.names.NodeId.{NodeId}
use Rattle.flat_ir.specs.declared.names.ObjectName.TheVariants as object
use Rattle.flat_ir.specs.declared.names.Site.TheVariants as site
use Rattle.flat_ir.specs.declared.nodes.Node.{Node}
use Rattle.flat_ir.specs.declared.nodes.Node.TheVariants as node
use Rattle.flat_ir.specs.declared.program.ProgramData.{ProgramData}
use Rattle.flat_ir.specs.declared.values.ConcreteValue.{ConcreteValue}
use Rattle.flat_ir.specs.History.{Change, Free}
use Rattle.flat_ir.specs.Machine.{Frame, func_at, nodes_of, node_at}
use Rattle.flat_ir.specs.Steps.{frees_of_node, frees_at, frees_from}
use Rattle.mod_ref.specs.Changes.{ChangesAt, changes, changed_by}
use Rattle.slices.specs.Slice.{Items, Keep, Need, Looks}
use Rattle.slices.specs.SliceFacts.{SliceFacts}
use Rattle.slice_laws.proofs.Lists.{not_both, filter_none, filter_turned}
use Rattle.slice_laws.proofs.Histories.{is_needed}
use Rattle.slice_laws.specs.Moments.{IsQuiet}
use Rattle.slice_laws.proofs.Frames.{Alike, twin}

-- what follows from a place on
abbrev pub Follow : {A : Type 0} → List A → ℕ → List A → Type 0
Follow all k xs = (i : ℕ) → slice_get all (k + i) ≡ slice_get xs i

follow_head : {A : Type 0} (all : List A) (k : ℕ) (x : A) (xs : List A) → Follow all k (x ∷ xs) → slice_get all k ≡ Some x
follow_head all k x xs follow = let e : k + 0 ≡ k = omega arith in subst (λ (n : ℕ). slice_get all n ≡ Some x) e (follow 0)

follow_tail : {A : Type 0} (all : List A) (k : ℕ) (x : A) (xs : List A) → Follow all k (x ∷ xs) → Follow all (k + 1) xs
follow_tail all k x xs follow i = let e : k + suc i ≡ k + 1 + i = omega arith in subst (λ (n : ℕ). slice_get all n ≡ slice_get xs i) e (follow (suc i))

-- what a node that isn't retained changes isn't needed
pub not_needed : (p : ProgramData) (f : FuncId) (at' : Location) (items : Items) → SliceFacts p f at' items → (g : FuncId) (n : NodeId) (l : Location) → Looks p f g → items (Keep g n) ≡ false
    → ChangesAt p g n l → items (Need l) ≡ false
not_needed p f at' items facts g n l looks un c =
    ⊎_elim (λ yes'. not_both (items (Keep g n)) (facts.changes g n l looks c yes') un) (λ no'. no') (cases_Bool (items (Need l)))

-- the objects of an Alloca node that isn't retained
node_none : (items : Items) (frame : Frame) (n : NodeId) (k times : ℕ) → items (Need (location.Life (site.Node frame.func n))) ≡ false → Each (λ d. is_needed items d ≡ false) (frees_of_node frame n times k)
node_none items frame n k zero no' = tt
node_none items frame n k (suc times) no' = (no', node_none items frame n (k + 1) times no')

at_none : (p : ProgramData) (f : FuncId) (at' : Location) (items : Items) → SliceFacts p f at' items → (frame : Frame) (n : NodeId) (count : ℕ) (x : Node) → Looks p f frame.func → node_at p frame.func n ≡ x
    → items (Keep frame.func n) ≡ false → filter (is_needed items) (frees_at frame n count x) ≡ []
at_none p f at' items facts frame n count (node.Alloca size result next) looks at un =
    filter_none (is_needed items) (frees_of_node frame n count 1)
    (node_none items frame n 1 count (not_needed p f at' items facts frame.func n (location.Life (site.Node frame.func n)) looks un (changes (location.Life (site.Node frame.func n)) (ap (changed_by frame.func n) at))))
at_none p f at' items facts frame n count _ looks at un = refl

node_of : (p : ProgramData) (g : FuncId) (k : ℕ) (x : Node) (xs : List Node) → Follow (nodes_of (func_at p g)) k (x ∷ xs) → node_at p g (record { 0 = k }) ≡ x
node_of p g k x xs follow = ap (λ (o : Option Node). unwrap_or o node.Unreachable) (follow_head (nodes_of (func_at p g)) k x xs follow)

-- two frames that are alike free the same needed objects
from_alike : (p : ProgramData) (f : FuncId) (at' : Location) (items : Items) → SliceFacts p f at' items → (frame : Frame) (node' : NodeId) (regs' : List ConcreteValue) (counts' : List ℕ) → Looks p f frame.func
    → Alike p items frame regs' counts' → (k : ℕ) (ns : List Node) → Follow (nodes_of (func_at p frame.func)) k ns
    → filter (is_needed items) (frees_from (twin frame node' regs' counts') k ns) ≡ filter (is_needed items) (frees_from frame k ns)
from_alike p f at' items facts frame node' regs' counts' looks alike k [] follow = refl
from_alike p f at' items facts frame node' regs' counts' looks alike k (x ∷ xs) follow =
    let n : NodeId = record { 0 = k } in
    let other = twin frame node' regs' counts' in
    let mine = frees_at frame n (unwrap_or (slice_get frame.counts k) 0) x in
    let its = frees_at other n (unwrap_or (slice_get counts' k) 0) x in
    let at = node_of p frame.func k x xs follow in
    let head : filter (is_needed items) its ≡ filter (is_needed items) mine =
    ⊎_elim (λ kept. ap (λ (o : Option ℕ). filter (is_needed items) (frees_at other n (unwrap_or o 0) x)) (alike.counts n kept) ∙ same x (unwrap_or (slice_get frame.counts k) 0))
    (λ un. at_none p f at' items facts other n (unwrap_or (slice_get counts' k) 0) x looks at un
    ∙ sym (at_none p f at' items facts frame n (unwrap_or (slice_get frame.counts k) 0) x looks at un)) (cases_Bool (items (Keep frame.func n))) in
    filter-append (is_needed items) its (frees_from other (k + 1) xs)
    ∙ (λ i. head i ++ from_alike p f at' items facts frame node' regs' counts' looks alike (k + 1) xs (follow_tail (nodes_of (func_at p frame.func)) k x xs follow) i)
    ∙ sym (filter-append (is_needed items) mine (frees_from frame (k + 1) xs))
  where
    node_same : (n : NodeId) (times j : ℕ) → frees_of_node (twin frame node' regs' counts') n times j ≡ frees_of_node frame n times j
    node_same n zero j = refl
    node_same n (suc times) j = ap (λ (cs : List Change). Free (object.Made frame.name (record { func = frame.func; node = n; count = j })) ∷ cs) (node_same n times (j + 1))

    same : (y : Node) (count : ℕ) → filter (is_needed items) (frees_at (twin frame node' regs' counts') (record { 0 = k }) count y) ≡ filter (is_needed items) (frees_at frame (record { 0 = k }) count y)
    same (node.Alloca size result next) count = ap (filter (is_needed items)) (node_same (record { 0 = k }) count 1)
    same _ count = refl

whole_follow : (ns : List Node) → Follow ns 0 ns
whole_follow ns = λ i. let e : i ≡ 0 + i = omega arith in ap (slice_get ns) (sym e)

pub frees_alike : (p : ProgramData) (f : FuncId) (at' : Location) (items : Items) → SliceFacts p f at' items → (frame : Frame) (node' : NodeId) (regs' : List ConcreteValue) (counts' : List ℕ) → Looks p f frame.func
    → Alike p items frame regs' counts' → filter (is_needed items) (reverse (frees_from (twin frame node' regs' counts') 0 (nodes_of (func_at p frame.func))))
    ≡ filter (is_needed items) (reverse (frees_from frame 0 (nodes_of (func_at p frame.func))))
frees_alike p f at' items facts frame node' regs' counts' looks alike =
    let ns = nodes_of (func_at p frame.func) in
    filter_turned (is_needed items) (frees_from (twin frame node' regs' counts') 0 ns)
    ∙ ap reverse (from_alike p f at' items facts frame node' regs' counts' looks alike 0 ns (whole_follow ns)) ∙ sym (filter_turned (is_needed items) (frees_from frame 0 ns))

-- a frame of a function without a retained node frees no needed object
from_quiet : (p : ProgramData) (f : FuncId) (at' : Location) (items : Items) → SliceFacts p f at' items → (frame : Frame) → Looks p f frame.func → IsQuiet items frame.func → (k : ℕ) (ns : List Node)
    → Follow (nodes_of (func_at p frame.func)) k ns → filter (is_needed items) (frees_from frame k ns) ≡ []
from_quiet p f at' items facts frame looks quiet k [] follow = refl
from_quiet p f at' items facts frame looks quiet k (x ∷ xs) follow =
    let n : NodeId = record { 0 = k } in
    let mine = frees_at frame n (unwrap_or (slice_get frame.counts k) 0) x in
    filter-append (is_needed items) mine (frees_from frame (k + 1) xs)
    ∙ (λ i. at_none p f at' items facts frame n (unwrap_or (slice_get frame.counts k) 0) x looks (node_of p frame.func k x xs follow) (quiet n) i
    ++ from_quiet p f at' items facts frame looks quiet (k + 1) xs (follow_tail (nodes_of (func_at p frame.func)) k x xs follow) i)

pub frees_quiet : (p : ProgramData) (f : FuncId) (at' : Location) (items : Items) → SliceFacts p f at' items → (frame : Frame) → Looks p f frame.func → IsQuiet items frame.func
    → filter (is_needed items) (reverse (frees_from frame 0 (nodes_of (func_at p frame.func)))) ≡ []
frees_quiet p f at' items facts frame looks quiet =
    let ns = nodes_of (func_at p frame.func) in
    filter_turned (is_needed items) (frees_from frame 0 ns) ∙ ap reverse (from_quiet p f at' items facts frame looks quiet 0 ns (whole_follow ns))
