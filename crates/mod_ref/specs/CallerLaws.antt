-- Laws of the functions that change a location.
use Rattle.std.proofs.Common.{◌≡◌, ◌<◌, ℕ, Bool, true, false, List, [], length, Some, None, ⊎_elim, arith, subst}
use Rattle.std.specs.Prelude.{slice_get, unwrap_or, Option}
use Rattle.std.proofs.lemmas.List.{get_or_past}
use Rattle.std.proofs.lemmas.Option.{slice_get_past}
use Rattle.flat_ir.specs.declared.program.Func.{Func}
use Rattle.flat_ir.specs.declared.nodes.Node.{Node}
use Rattle.flat_ir.specs.declared.nodes.Node.TheVariants as node
use Rattle.std.proofs.lemmas.Bool.{cases_lt}
use Rattle.least.specs.Sets.{has, Within}
use Rattle.flat_ir.specs.declared.names.FuncId.{FuncId}
use Rattle.flat_ir.specs.declared.names.NodeId.{NodeId}
use Rattle.flat_ir.specs.declared.names.Location.{Location}
use Rattle.flat_ir.specs.declared.program.ProgramData.{ProgramData}
use Rattle.flat_ir.specs.Machine.{node_at, nodes_of}
use Rattle.mod_ref.specs.Changes.{Changes, itself, within}
use Rattle.points_to.specs.Within.{callee_of}
use Rattle.mod_ref.specs.Callers.{AreOwn, FiresAt}

pub Fires-more : (p : ProgramData) (own : List Bool) (k : ℕ) (S T U V : ℕ → Bool) → FiresAt p own k T U → Within S T → Within U V → FiresAt p own k S V
Fires-more p own k S T U V f s u = record {
  itself = λ h. u k (f.itself h);
  within = λ c. u k (f.within (record { node = c.node; callee = c.callee; calls = c.calls; there = s c.callee.0 c.there }));
}

pub has-below : (own : List Bool) (k : ℕ) → has own k ≡ true → k < length own
has-below own k h =
    ⊎_elim (λ lt. lt) (λ past. let e : has own k ≡ false = get_or_past own k false past in absurd (cc)) (cases_lt k (length own))

none_calls : (callee : FuncId) (n : ℕ) → callee_of (unwrap_or (slice_get [] n) node.Unreachable) ≡ Some callee → ⊥
none_calls callee n e =
    let P : Option Node → Type 0 = λ o. callee_of (unwrap_or o node.Unreachable) ≡ Some callee in
    let h : None ≡ Some callee = subst P (slice_get_past [] n (omega arith)) e in absurd (cc)

calls-below : (p : ProgramData) (f : FuncId) (n : NodeId) (callee : FuncId) → callee_of (node_at p f n) ≡ Some callee → f.0 < length p.funcs
calls-below p f n callee e =
    ⊎_elim (λ lt. lt)
    (λ past. let P : Option Func → Type 0 = λ o. callee_of (unwrap_or (slice_get (nodes_of o) n.0) node.Unreachable) ≡ Some callee in
    absurd (none_calls callee n.0 (subst P (slice_get_past p.funcs f.0 past) e))) (cases_lt f.0 (length p.funcs))

pub Changes-least : (p : ProgramData) (l : Location) (own : List Bool) → AreOwn p l own → length own ≡ length p.funcs → (S : ℕ → Bool) →
    ((k : ℕ) → k < length p.funcs → FiresAt p own k S S) → (f : FuncId) → Changes p f l → S f.0 ≡ true
Changes-least p l own is size S fires f (itself _ n _ c) =
    let h = is.all f n c in let b = has-below own f.0 h in (fires f.0 (omega arith)).itself h
Changes-least p l own is size S fires f (within _ n callee _ e c) =
    (fires f.0 (calls-below p f n callee e)).within (record { node = n; callee = callee; calls = e; there = Changes-least p l own is size S fires callee c })
