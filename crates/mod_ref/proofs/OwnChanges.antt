-- Which functions change a location by themselves.
use Rattle.std.proofs.Common.{◌≡◌, ◌<◌, ◌≤◌, ◌+◌, ℕ, Bool, true, false, List, [], ◌∷◌, ◌++◌, length, Option, Some, refl, sym, ap, subst, arith, ⊎_elim, ◌∙◌, ◌⊎◌, inl, inr}
use Rattle.std.specs.Prelude.{slice_index_or, unwrap_or}
use Rattle.std.proofs.lemmas.List.{get_or_append_left, get_or_push}
use Rattle.std.specs.List.{Contains, AllByRecursion as Each}
use Rattle.std.proofs.lemmas.Bool.{cases_lt}
use Rattle.std.proofs.lemmas.Option.{slice_get_past}
use Rattle.flat_ir.specs.declared.names.FuncId.{FuncId}
use Rattle.flat_ir.specs.declared.names.NodeId.{NodeId}
use Rattle.flat_ir.specs.declared.names.RegId.{RegId}
use Rattle.flat_ir.specs.declared.names.Site.{Site}
use Rattle.flat_ir.specs.declared.names.Site.TheVariants as site
use Rattle.flat_ir.specs.declared.names.Location.{Location}
use Rattle.flat_ir.specs.declared.nodes.Node.{Node}
use Rattle.flat_ir.specs.declared.nodes.Node.TheVariants as node
use Rattle.flat_ir.specs.declared.nodes.Operand.{Operand}
use Rattle.flat_ir.specs.declared.nodes.Operand.TheVariants as operand
use Rattle.flat_ir.specs.declared.program.ProgramData.{ProgramData}
use Rattle.flat_ir.specs.Machine.{func_at, regs_of, nodes_of, node_at}
use Rattle.flat_ir.specs.Whole.{IsWhole, OperandIn, operands_of}
use Rattle.points_to.specs.declared.holders.Holder.{Holder}
use Rattle.points_to.specs.declared.holders.Holder.TheVariants.{Register, Address, Nothing}
use Rattle.points_to.specs.declared.holders.Inclusion.TheVariants.{Names, Copies, Loads}
use Rattle.points_to.specs.Asked.{holder_in}
use Rattle.points_to.specs.Points.{address, names, copies, loads, stores, moves, PointsTo}
use Rattle.points_to.specs.Rows.{Tables}
use Rattle.points_to.specs.Sets.{ArePointsTo, of_reg}
use Rattle.points_to.specs.Solving.{IsStored}
use Rattle.points_to.proofs.AskedIn.{asked_in}
use Rattle.points_to.proofs.Containing.{node_reads}
use Rattle.least.specs.Sets.{has}
use Rattle.mod_ref.specs.Changes.{ChangesAt, changes, writes, frees, changed_by, written_through, freed_by}
use Rattle.mod_ref.specs.Callers.{func, Tells, Writes, Frees, ChangesItself, AreOwn}
use Rattle.mod_ref.specs.CallerLaws.{has-below}

-- a holder without a row points nowhere, and an address to its global
abbrev Held : Holder → Site → Type 0
Held (Address g) s = s ≡ site.Global g
Held Nothing s = ⊥
Held _ s = Unit {0}

stored_held : (h : Holder) (s : Site) → IsStored h → Held h s
stored_held (Address g) s h = absurd h
stored_held Nothing s h = absurd h
stored_held _ s h = tt

pub held : (p : ProgramData) → IsWhole p → (h : Holder) (s : Site) → PointsTo p h s → Held h s
held p whole _ _ (address g) = refl
held p whole h s (names _ _ c) = stored_held h s (asked_in p whole (Names h s) c).1.0
held p whole to s (copies from _ _ c x) = stored_held to s (asked_in p whole (Copies from to) c).1.1
held p whole to s (loads q _ t _ c x y) = stored_held to s (asked_in p whole (Loads q to) c).1.1
held p whole _ s (stores from q t _ c x y) = tt
held p whole _ s (moves from to t u _ c x y z) = tt

-- ---- tests

pub told_true : (P : Type 0) (b : Bool) → b ≡ true → P → Tells b P
told_true P true e h = h
told_true P false e h = absurd (cc)

pub told_false : (P : Type 0) (b : Bool) → b ≡ false → (P → ⊥) → Tells b P
told_false P true e h = absurd (cc)
told_false P false e h = h

pub tells_map : (P Q : Type 0) (b : Bool) → (P → Q) → (Q → P) → Tells b P → Tells b Q
tells_map P Q true to back h = to h
tells_map P Q false to back h = λ q. h (back q)

pub tells_of : (P : Type 0) (b : Bool) → Tells b P → b ≡ true → P
tells_of P true h e = h
tells_of P false h e = absurd (cc)

pub tells_not : (P : Type 0) (b : Bool) → Tells b P → b ≡ false → P → ⊥
tells_not P true h e = absurd (cc)
tells_not P false h e = h

-- ---- nodes

pub written_reads : (P : Operand → Type 0) (x : Node) (a : Operand) → Each P (operands_of x) → written_through x ≡ Some a → P a
written_reads P (node.Store value pointer next) a all e = let same : pointer ≡ a = cc in subst P same all.1.0
written_reads P (node.Copy from to next) a all e = let same : to ≡ a = cc in subst P same all.1.0
written_reads P _ a all e = absurd (cc)

pub freed_reads : (P : Operand → Type 0) (x : Node) (a : Operand) → Each P (operands_of x) → freed_by x ≡ Some a → P a
freed_reads P (node.Free pointer next) a all e = let same : pointer ≡ a = cc in subst P same all.0
freed_reads P _ a all e = absurd (cc)

-- what a node changes, by cases
pub by_cases : (p : ProgramData) (f : FuncId) (n : NodeId) (x : Node) (l : Location) → node_at p f n ≡ x → ChangesAt p f n l
    → (changed_by f n x ≡ Some l) ⊎ (Writes p f x l ⊎ Frees p f x l)
by_cases p f n x _ is (changes l e) = inl (subst (λ (y : Node). changed_by f n y ≡ Some l) is e)
by_cases p f n x _ is (writes a s e h) =
    inr (inl (record { pointer = a; site = s; through = subst (λ (y : Node). written_through y ≡ Some a) is e; points = h; there = refl }))
by_cases p f n x _ is (frees a s e h made) =
    inr (inr (record { pointer = a; site = s; through = subst (λ (y : Node). freed_by y ≡ Some a) is e; points = h; made = made; there = refl }))

pub from_change : (p : ProgramData) (f : FuncId) (n : NodeId) (x : Node) (l : Location) → node_at p f n ≡ x → changed_by f n x ≡ Some l → ChangesAt p f n l
from_change p f n x l is e = changes l (subst (λ (y : Node). changed_by f n y ≡ Some l) (sym is) e)

pub from_write : (p : ProgramData) (f : FuncId) (n : NodeId) (x : Node) (l : Location) → node_at p f n ≡ x → Writes p f x l → ChangesAt p f n l
from_write p f n x l is w =
    subst (λ (m : Location). ChangesAt p f n m) (sym w.there) (writes w.pointer w.site (subst (λ (y : Node). written_through y ≡ Some w.pointer) (sym is) w.through) w.points)

pub from_free : (p : ProgramData) (f : FuncId) (n : NodeId) (x : Node) (l : Location) → node_at p f n ≡ x → Frees p f x l → ChangesAt p f n l
from_free p f n x l is w =
    subst (λ (m : Location). ChangesAt p f n m) (sym w.there) (frees w.pointer w.site (subst (λ (y : Node). freed_by y ≡ Some w.pointer) (sym is) w.through) w.points w.made)

-- nothing changes a location in other words
pub no_change : (p : ProgramData) (f : FuncId) (n : NodeId) (x : Node) (l : Location) → node_at p f n ≡ x → (changed_by f n x ≡ Some l → ⊥) → (Writes p f x l → ⊥)
    → (Frees p f x l → ⊥) → ChangesAt p f n l → ⊥
no_change p f n x l is one two three h = ⊎_elim one (λ more. ⊎_elim two three more) (by_cases p f n x l is h)

-- a node that changes something is the function's
past : (p : ProgramData) (f : FuncId) (n : NodeId) → length (nodes_of (func_at p f)) ≤ n.0 → node_at p f n ≡ node.Unreachable
past p f n h = ap (λ (o : Option Node). unwrap_or o node.Unreachable) (slice_get_past (nodes_of (func_at p f)) n.0 h)

pub changes_within : (p : ProgramData) (f : FuncId) (n : NodeId) (l : Location) → ChangesAt p f n l → n.0 < length (nodes_of (func_at p f))
changes_within p f n l h = ⊎_elim (λ lt. lt) (λ far. absurd (no_change p f n node.Unreachable l (past p f n far) (λ e. absurd (cc)) (λ w. let e = w.through in absurd (cc)) (λ w. let e = w.through in absurd (cc)) h)) (cases_lt n.0 (length (nodes_of (func_at p f))))

-- none of the nodes does
pub none_change : (p : ProgramData) (f : FuncId) (l : Location) (k : ℕ) → ((i : ℕ) → i < k → ChangesAt p f (record { 0 = i }) l → ⊥) → length (nodes_of (func_at p f)) ≤ k
    → ChangesItself p l f → ⊥
none_change p f l k none all c = none c.node.0 (let h = changes_within p f c.node l c.changes in omega (arith, h, all)) c.changes

pub one_more : (p : ProgramData) (f : FuncId) (l : Location) (k : ℕ) → ((i : ℕ) → i < k → ChangesAt p f (record { 0 = i }) l → ⊥) → (ChangesAt p f (record { 0 = k }) l → ⊥)
    → (i : ℕ) → i < k + 1 → ChangesAt p f (record { 0 = i }) l → ⊥
one_more p f l k none last i lt h =
    ⊎_elim (λ below. none i below h) (λ at'. let e : i ≡ k = omega arith in last (subst (λ (j : ℕ). ChangesAt p f (record { 0 = j }) l) e h)) (cases_lt i k)

-- ---- pointers

pub reg_points : (p : ProgramData) (t : Tables) (f : FuncId) (r : RegId) (a : Operand) (s : Site) (row : List Site) (b : Bool) → ArePointsTo p t
    → OperandIn (length p.globals) (length (regs_of (func_at p f))) a → a ≡ operand.Reg r → row ≡ of_reg t f r → Tells b (Contains row s) → Tells b (PointsTo p (holder_in f a) s)
reg_points p t f r a s row b are there e is told =
    let lists = are.registers f r (subst (OperandIn (length p.globals) (length (regs_of (func_at p f)))) e there) in
    subst (λ (x : Operand). Tells b (PointsTo p (holder_in f x) s)) (sym e)
    (tells_map (Contains row s) (PointsTo p (Register f r) s) b (λ h. lists.only s (subst (λ (xs : List Site). Contains xs s) is h))
    (λ h. subst (λ (xs : List Site). Contains xs s) (sym is) (lists.all s h)) told)

pub global_points : (p : ProgramData) → IsWhole p → (f : FuncId) (g offset : ℕ) (a : Operand) (s : Site) (b : Bool) → a ≡ operand.Global g offset → Tells b (s ≡ site.Global g)
    → Tells b (PointsTo p (holder_in f a) s)
global_points p whole f g offset a s b e told =
    subst (λ (x : Operand). Tells b (PointsTo p (holder_in f x) s)) (sym e)
    (tells_map (s ≡ site.Global g) (PointsTo p (Address g) s) b (λ is. subst (λ (t : Site). PointsTo p (Address g) t) (sym is) (address g)) (held p whole (Address g) s) told)

pub none_points : (p : ProgramData) → IsWhole p → (f : FuncId) (a : Operand) (s : Site) → holder_in f a ≡ Nothing → PointsTo p (holder_in f a) s → ⊥
none_points p whole f a s e h = held p whole Nothing s (subst (λ (x : Holder). PointsTo p x s) e h)

-- ---- functions

pub reads_here : (p : ProgramData) → IsWhole p → (f : FuncId) (n : NodeId) (x : Node) → node_at p f n ≡ x
    → Each (OperandIn (length p.globals) (length (regs_of (func_at p f)))) (operands_of x)
reads_here p whole f n x is = subst (λ (y : Node). Each (OperandIn (length p.globals) (length (regs_of (func_at p f)))) (operands_of y)) is (node_reads p f n whole)

pub told_at_last : (p : ProgramData) (f : FuncId) (n : NodeId) (x : Node) (l : Location) (b : Bool) → node_at p f n ≡ x → (changed_by f n x ≡ Some l → ⊥) → (Writes p f x l → ⊥)
    → Tells b (Frees p f x l) → Tells b (ChangesAt p f n l)
told_at_last p f n x l b is one two told =
    tells_map (Frees p f x l) (ChangesAt p f n l) b (from_free p f n x l is)
    (λ h. ⊎_elim (λ e. absurd (one e)) (λ more. ⊎_elim (λ w. absurd (two w)) (λ w. w) more) (by_cases p f n x l is h)) told

-- what holds of each element of a list holds with one more
pub pushed : {A : Type 0} (P : ℕ → A → Type 0) (d : A) (xs : List A) (n : ℕ) (y : A) → length xs ≡ n → ((k : ℕ) → k < n → P k (slice_index_or xs k d)) → P n y
    → (k : ℕ) → k < n + 1 → P k (slice_index_or (xs ++ y ∷ []) k d)
pushed P d xs n y len each last k lt =
    ⊎_elim (λ below. subst (λ z. P k z) (sym (get_or_append_left xs (y ∷ []) d k (omega (arith, below, len)))) (each k below))
    (λ at'. let same : n ≡ k = omega arith in subst (λ z. P k z) (sym (get_or_push xs y d k (len ∙ same))) (subst (λ (j : ℕ). P j y) same last)) (cases_lt k n)

pub own_more : (p : ProgramData) (l : Location) (own : List Bool) (k : ℕ) (b : Bool) → length own ≡ k → ((i : ℕ) → i < k → Tells (has own i) (ChangesItself p l (func i)))
    → Tells b (ChangesItself p l (func k)) → (i : ℕ) → i < k + 1 → Tells (has (own ++ b ∷ []) i) (ChangesItself p l (func i))
own_more p l = pushed (λ i b. Tells b (ChangesItself p l (func i))) false

func_within : (p : ProgramData) (f : FuncId) (n : ℕ) → n < length (nodes_of (func_at p f)) → f.0 < length p.funcs
func_within p f n h =
    ⊎_elim (λ lt. lt) (λ far. let e : nodes_of (func_at p f) ≡ [] = ap nodes_of (slice_get_past p.funcs f.0 far) in absurd (omega (arith, h, ap length e))) (cases_lt f.0 (length p.funcs))

pub are_own : (p : ProgramData) (l : Location) (own : List Bool) (k : ℕ) → length own ≡ k → ((i : ℕ) → i < k → Tells (has own i) (ChangesItself p l (func i))) → length p.funcs ≤ k
    → AreOwn p l own
are_own p l own k len each all = record {
  only = λ f h. tells_of (ChangesItself p l f) (has own f.0) (each f.0 (let b = has-below own f.0 h in omega (arith, b, len))) h;
  all = λ f n h. go f n h (has own f.0) refl (each f.0 (let w = func_within p f n.0 (changes_within p f n l h) in omega (arith, w, all)));
}
  where
    go : (f : FuncId) (n : NodeId) → ChangesAt p f n l → (b : Bool) → has own f.0 ≡ b → Tells b (ChangesItself p l f) → has own f.0 ≡ true
    go f n h true e told = e
    go f n h false e told = absurd (told (record { node = n; changes = h }))
