-- First conditions at a node, in a function and in a program.
use Rattle.std.proofs.Common.{◌≡◌, ◌≢◌, ◌<◌, ◌≤◌, ◌↔◌, ◌⊎◌, inl, inr, ℕ, Bool, true, false, not, List, All, Option, Some, None, length, refl, subst, arith, ◌+◌, below_more}
use Rattle.std.specs.Prelude.{slice_get, IsTrue}
use Rattle.std.specs.List.{Contains}
use Rattle.std.proofs.lemmas.Bool.{cases_lt, not-true, not_from_false}
use Rattle.std.proofs.lemmas.List.Elements.{All-contains, All-weaker}
use Rattle.std.proofs.lemmas.Option.{same_Some, slice_get_within}
use Rattle.flat_ir.specs.declared.names.NodeId.{NodeId}
use Rattle.flat_ir.specs.declared.nodes.Node.{Node}
use Rattle.flat_ir.specs.declared.program.Func.{Func}
use Rattle.flat_ir.specs.declared.program.ProgramData.{ProgramData}
use Rattle.flat_ir.specs.Whole.{IsFuncOf, IsWhole}
use Rattle.flow.specs.declared.undefined.Undefined.{Undefined}
use Rattle.flow.specs.Flow.{IsFirst}
use Rattle.flow.specs.NamedLaws.{func_is_named}
use Rattle.flow.specs.Paths.{NoneAt, FirstAt, node_of}
use Rattle.checks.specs.Typed.{is_typed}
use Rattle.checks.specs.Errors.{IsClash, known, mistyped, IsClean, IsCleanFunc, AreClean, IsChecked}
use Rattle.checks.specs.Steps.{IsOwn, Tells, NoneBelow, CleanBelow}

-- ---- undefined registers

first_told : (f : Func) (u : Undefined) → Tells f (Some u) → IsFirst f u.node u.register
first_told f u tells = (tells.first u.node u.register).0 refl

apart : (n m : ℕ) → n ≢ m → (n < m) ⊎ (m < n)
apart n m differ = elim (cases_lt n m) [ inl lt ↦ inl lt | inr le ↦ inr (omega (arith, le, differ)) ]

pub none_here : (f : Func) (told : Option Undefined) (n : ℕ) → Tells f told → NoneBelow f n → ((u : Undefined) → told ≡ Some u → u.node.0 ≢ n) → NoneAt f (node_of n)
none_here f None n tells below elsewhere = λ s lost. tells.none.0 refl (node_of n) s lost
none_here f (Some u) n tells below elsewhere = λ s lost.
    let first = first_told f u tells in
    elim (apart u.node.0 n (elsewhere u refl)) [
      | inl lower ↦ below u.node.0 lower u.register first.undefined
      | inr above ↦ first.lowest (node_of n) s above lost
    ]

pub first_here : (f : Func) (u : Undefined) (n : ℕ) → Tells f (Some u) → u.node.0 ≡ n → FirstAt f (node_of n) u.register
first_here f u n tells e =
    let first = first_told f u tells in
    let here : FirstAt f u.node u.register = record {
      node = first.node;
      there = first.there;
      first = record { front = first.front; rest = first.rest; order = first.order; earlier = first.earlier; is = first.undefined };
    } in
    subst (λ (m : ℕ). FirstAt f (node_of m) u.register) e here

-- ---- clashes

same_node : (o : Option Node) (x y : Node) → o ≡ Some x → o ≡ Some y → x ≡ y
same_node o x y e d = same_Some x y (cc)

pub clash_by_types : (funcs : List Func) (f : Func) (n : ℕ) (x : Node) (typed : Bool) → slice_get f.nodes n ≡ Some x → (Contains f.clashes (node_of n) → ⊥) →
    typed ≡ is_typed funcs f.regs f.result x → IsTrue (not typed) ↔ IsClash funcs f (node_of n)
clash_by_types funcs f n x typed there unknown e = (λ wrong. mistyped x there (cc (not-true typed wrong)), λ c. back c)
  where
    back : IsClash funcs f (node_of n) → not typed ≡ true
    back (known among) = absurd (unknown among)
    back (mistyped y here wrong) = let same : x ≡ y = same_node (slice_get f.nodes n) x y there here in not_from_false typed (cc)

pub clash_known : (funcs : List Func) (f : Func) (n : NodeId) → Contains f.clashes n → IsTrue true ↔ IsClash funcs f n
clash_known funcs f n among = (λ e. known among, λ c. refl)

-- ---- functions

-- a node that isn't there has no clash
no_clash_past : (funcs : List Func) (f : Func) (n : ℕ) → IsOwn f → length f.nodes ≤ n → IsClash funcs f (node_of n) → ⊥
no_clash_past funcs f n own past (known among) =
    let lt : n < length f.nodes = All-contains (λ (m : NodeId). m.0 < length f.nodes) f.clashes (node_of n) own.clashes among in omega (arith, lt, past)
no_clash_past funcs f n own past (mistyped x there wrong) =
    let lt : n < length f.nodes = slice_get_within f.nodes n x there in omega (arith, lt, past)

clean_past : (funcs : List Func) (f : Func) (n : ℕ) → IsOwn f → length f.nodes ≤ n → IsClean funcs f (node_of n)
clean_past funcs f n own past = record {
  clash = no_clash_past funcs f n own past;
  undefined = λ s lost. (let lt : n < length f.nodes = slice_get_within f.nodes n lost.node lost.there in omega (arith, lt, past));
  edge = λ among. (let lt : n < length f.nodes = All-contains (λ (m : NodeId). m.0 < length f.nodes) f.bad_edges (node_of n) own.bad_edges among in omega (arith, lt, past));
}

pub clean_func : (funcs : List Func) (f : Func) → IsOwn f → CleanBelow funcs f (length f.nodes) → IsCleanFunc funcs f
clean_func funcs f own below n = elim (cases_lt n (length f.nodes)) [ inl lt ↦ below n lt | inr past ↦ clean_past funcs f n own past ]

pub clean_more : (funcs : List Func) (f : Func) (n : ℕ) → CleanBelow funcs f n → IsClean funcs f (node_of n) → CleanBelow funcs f (n + 1)
clean_more funcs f n below here = below_more (λ k. IsClean funcs f (node_of k)) n below here

pub none_below : (funcs : List Func) (f : Func) (n : ℕ) → CleanBelow funcs f n → NoneBelow f n
none_below funcs f n below m lt = (below m lt).undefined

pub own_func : (globals funcs : ℕ) (f : Func) → IsFuncOf globals funcs f → IsOwn f
own_func globals funcs f h = record { named = func_is_named globals funcs f h; clashes = h.clashes; bad_edges = h.bad_edges }

-- ---- programs

same_func : (o : Option Func) (f g : Func) → o ≡ Some f → o ≡ Some g → f ≡ g
same_func o f g e d = same_Some f g (cc)

pub clean_funcs_more : (funcs : List Func) (k : ℕ) (f : Func) → AreClean funcs k → slice_get funcs k ≡ Some f → IsCleanFunc funcs f → AreClean funcs (k + 1)
clean_funcs_more funcs k f below there here =
    below_more (λ j. (g : Func) → slice_get funcs j ≡ Some g → IsCleanFunc funcs g) k below
    (λ g there'. subst (λ (h : Func). IsCleanFunc funcs h) (same_func (slice_get funcs k) f g there there') here)

pub all_clean : (funcs : List Func) → AreClean funcs (length funcs) → IsChecked funcs
all_clean funcs below k f there = below k (slice_get_within funcs k f there) f there

pub all_own : (p : ProgramData) → IsWhole p → All IsOwn p.funcs
all_own p whole =
    All-weaker (IsFuncOf (length p.globals) (length p.funcs)) IsOwn (own_func (length p.globals) (length p.funcs)) p.funcs whole.funcs
