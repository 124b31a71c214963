-- The functions that are reached by calls are those that a slice looks at.
use Rattle.slice_laws.proofs.Lists.{each_from}
use Rattle.points_to.proofs.Parts.{first, from_part, each_part}
use Rattle.std.proofs.Common.{◌≡◌, ◌<◌, ◌+◌, ◌++◌, ◌∙◌, ◌⊎◌, ℕ, zero, suc, Bool, true, false, List, [], ◌∷◌, length, get_or, replicate, Option, Some, None, refl, sym, ap, subst, arith, ⊎_elim}
use Rattle.std.specs.Prelude.{slice_get, slice_set, unwrap_or}
use Rattle.std.specs.List.{Contains, flat_map, AllByRecursion as Each}
use Rattle.std.proofs.lemmas.List.{length-replicate}
use Rattle.std.proofs.lemmas.List.Elements.{Contains-append_left, Contains-append_right, Contains-get_or, All-contains, All-from_recursion}
use Rattle.std.proofs.lemmas.Option.{slice_get_read, slice_get-get_or, unwrap_or-slice_get}
use Rattle.least.specs.Sets.{has, Exactly}
use Rattle.least.proofs.Bits.{added, only_added, Only-none}
use Rattle.flat_ir.specs.declared.names.FuncId.{FuncId}
use Rattle.flat_ir.specs.declared.names.NodeId.{NodeId}
use Rattle.flat_ir.specs.declared.nodes.Node.{Node}
use Rattle.flat_ir.specs.declared.nodes.Node.TheVariants as node
use Rattle.flat_ir.specs.declared.program.Func.{Func}
use Rattle.flat_ir.specs.declared.program.ProgramData.{ProgramData}
use Rattle.flat_ir.specs.Machine.{func_at, nodes_of, node_at}
use Rattle.flat_ir.specs.Whole.{IsWhole}
use Rattle.points_to.specs.Within.{callee_of}
use Rattle.slices.specs.Slice.{Looks, itself, calls, end_of}
use Rattle.slicer.specs.declared.reaching.Arrow.{Arrow}
use Rattle.slicer.specs.Calls.{call_if, calls_from, calls_by_funcs}
use Rattle.slicer.specs.Facts.{func}
use Rattle.slicer.specs.Reached.{Reached, begins, follows, AreWithin}
use Rattle.slicer.proofs.Carrying.{each_flat_map}
use Rattle.slicer.proofs.Complete.{contains_flat_map, calls_there, callee_within}
use Rattle.slicer.proofs.Numbers.{func_within}

abbrev call : ℕ → ℕ → Arrow
call a b = record { from = a; to = b }

-- a node of the first function calls the second
pub record IsCall (p : ProgramData) (a : Arrow) : Type 0 where
  pub node : NodeId
  pub callee : FuncId
  pub calls : callee_of (node_at p (func a.from) node) ≡ Some callee
  pub there : a.to ≡ callee.0

call_each : (P : Arrow → Type 0) (k : ℕ) (o : Option FuncId) → ((callee : FuncId) → o ≡ Some callee → P (call k callee.0)) → Each P (call_if k o)
call_each P k None h = tt
call_each P k (Some callee) h = (h callee refl, tt)

node_is : (p : ProgramData) (k n : ℕ) (nodes : List Node) (x : Node) → nodes_of (func_at p (func k)) ≡ nodes → n < length nodes → get_or nodes n x ≡ x
    → node_at p (func k) (record { 0 = n }) ≡ x
node_is p k n nodes x is lt e =
    let at' : slice_get nodes n ≡ Some x = slice_get_read nodes (length nodes) n x refl lt (sym e) in
    ap (λ (o : Option Node). unwrap_or o node.Unreachable) (ap (λ (xs : List Node). slice_get xs n) is ∙ at')

nodes_call : (p : ProgramData) (k : ℕ) (nodes : List Node) → nodes_of (func_at p (func k)) ≡ nodes → Each (IsCall p) (calls_from k nodes)
nodes_call p k nodes is =
    each_flat_map (λ x. call_if k (callee_of x)) (IsCall p) nodes
    (each_from (λ x. Each (IsCall p) (call_if k (callee_of x))) nodes
    (λ x there. call_each (IsCall p) k (callee_of x) (λ callee e. record {
      node = record { 0 = there.0 };
      callee = callee;
      calls = ap callee_of (node_is p k there.0 nodes x is there.1 there.2) ∙ e;
      there = refl;
    })))

calls_are : (p : ProgramData) (a : Arrow) → Contains (calls_by_funcs 0 p.funcs) a → IsCall p a
calls_are p a there =
    All-contains (IsCall p) (calls_by_funcs 0 p.funcs) a (All-from_recursion (IsCall p) (calls_by_funcs 0 p.funcs)
    (each_part (λ k (f : Func). calls_from k f.nodes) calls_by_funcs (λ k. refl, λ k f fs. refl) (IsCall p) p.funcs (λ k f stands. nodes_call p k f.nodes (ap nodes_of stands)))) there

pub calls_within : (p : ProgramData) → IsWhole p → AreWithin (length p.funcs) (calls_by_funcs 0 p.funcs)
calls_within p whole a there =
    let c : IsCall p a = calls_are p a there in
    (func_within p (func a.from) c.node.0 (calls_there p (func a.from) c.node c.callee c.calls), omega (arith, c.there, callee_within p whole (func a.from) c.node c.callee c.calls))

-- ---- each call is there

call_there : (p : ProgramData) (g : FuncId) (n : NodeId) (callee : FuncId) → callee_of (node_at p g n) ≡ Some callee → Contains (calls_by_funcs 0 p.funcs) (call g.0 callee.0)
call_there p g n callee e = go (func_at p g) refl (calls_there p g n callee e) e
  where
    go : (o : Option Func) → slice_get p.funcs g.0 ≡ o → n.0 < length (nodes_of o) → callee_of (unwrap_or (slice_get (nodes_of o) n.0) node.Unreachable) ≡ Some callee
        → Contains (calls_by_funcs 0 p.funcs) (call g.0 callee.0)
    go None at' lt is = absurd (omega (arith, lt))
    go (Some f) at' lt is =
        let x : Node = get_or f.nodes n.0 node.Unreachable in
        let same : unwrap_or (slice_get f.nodes n.0) node.Unreachable ≡ x = unwrap_or-slice_get f.nodes n.0 node.Unreachable in
        from_part (λ k (h : Func). calls_from k h.nodes) calls_by_funcs (λ k. refl, λ k h hs. refl) g.0 p.funcs f (call g.0 callee.0) at'
        (contains_flat_map (λ y. call_if g.0 (callee_of y)) f.nodes x (call g.0 callee.0)
        (Contains-get_or f.nodes n.0 node.Unreachable lt)
        (subst (λ (o : Option FuncId). Contains (call_if g.0 o) (call g.0 callee.0)) (sym (ap callee_of (sym same) ∙ is)) (first (call g.0 callee.0) [])))

-- ---- what is reached

reached_looks : (p : ProgramData) (f : FuncId) (size : ℕ) (given : List Bool) → given ≡ slice_set (replicate size false) f.0 true → (k : ℕ)
    → Reached (calls_by_funcs 0 p.funcs) (has given) k → Looks p f (func k)
reached_looks p f size given is k (begins _ h) =
    let h' : has (slice_set (replicate size false) f.0 true) k ≡ true = subst (λ (s : List Bool). has s k ≡ true) is h in
    ⊎_elim (λ none. absurd (Only-none (λ j. ⊥) size k none)) (λ e. subst (λ (j : ℕ). Looks p f (func j)) (sym e) itself) (only_added (replicate size false) f.0 k h')
reached_looks p f size given is _ (follows a there r) =
    let c : IsCall p a = calls_are p a there in
    subst (λ (j : ℕ). Looks p f (func j)) (sym c.there) (calls (func a.from) c.node c.callee (reached_looks p f size given is a.from r) c.calls)

looks_reached : (p : ProgramData) (f : FuncId) (given : List Bool) → has given f.0 ≡ true → (g : FuncId) → Looks p f g → Reached (calls_by_funcs 0 p.funcs) (has given) g.0
looks_reached p f given h _ itself = begins f.0 h
looks_reached p f given h _ (calls g n callee looks e) = follows (call g.0 callee.0) (call_there p g n callee e) (looks_reached p f given h g looks)

pub looked_exactly : (p : ProgramData) (f : FuncId) (given set : List Bool) → f.0 < length p.funcs → given ≡ slice_set (replicate (length p.funcs) false) f.0 true
    → Exactly (Reached (calls_by_funcs 0 p.funcs) (has given)) (has set) → Exactly (λ k. Looks p f (func k)) (has set)
looked_exactly p f given set within is exactly = record {
  only = λ k h. reached_looks p f (length p.funcs) given is k (exactly.only k h);
  all = λ k looks. exactly.all k (looks_reached p f given there (func k) looks);
}
  where
    there : has given f.0 ≡ true
    there = subst (λ (s : List Bool). has s f.0 ≡ true) (sym is) (added (replicate (length p.funcs) false) f.0 (omega (arith, within, length-replicate (length p.funcs) false)))
