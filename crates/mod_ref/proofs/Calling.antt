-- What calls change.
use Rattle.std.proofs.Common.{◌≡◌, ◌<◌, ℕ, Bool, true, false, List, Some, ⊎_elim, subst, sym, ap, ◌∙◌, refl, arith}
use Rattle.std.specs.Prelude.{slice_get, unwrap_or, Option, None}
use Rattle.std.proofs.lemmas.Option.{slice_get_cases}
use Rattle.std.proofs.lemmas.Bool.{cases_lt}
use Rattle.std.specs.Prelude.{◌+◌}
use Rattle.least.specs.Sets.{has, Only}
use Rattle.flat_ir.specs.declared.names.FuncId.{FuncId}
use Rattle.flat_ir.specs.declared.names.Location.{Location}
use Rattle.flat_ir.specs.declared.nodes.Node.{Node}
use Rattle.flat_ir.specs.declared.nodes.Node.TheVariants as node
use Rattle.flat_ir.specs.declared.program.ProgramData.{ProgramData}
use Rattle.flat_ir.specs.declared.program.Func.{Func}
use Rattle.flat_ir.specs.Machine.{node_at, nodes_of, func_at}
use Rattle.mod_ref.specs.Changes.{Changes, itself, within}
use Rattle.points_to.specs.Within.{callee_of}
use Rattle.mod_ref.proofs.OwnChanges.{tells_map}
use Rattle.mod_ref.specs.Callers.{AreOwn, AnyCalls, CallsInto, CallsMember, Tells, func}

pub own_changes : (p : ProgramData) (l : Location) (own : List Bool) (k : ℕ) → AreOwn p l own → has own k ≡ true → Changes p (func k) l
own_changes p l own k is h = let c = is.only (func k) h in itself (func k) c.node l c.changes

pub calls_change : (p : ProgramData) (l : Location) (set : List Bool) (k : ℕ) (b : Bool) → Only (λ j. Changes p (func j) l) (has set) →
    Tells b (CallsInto p (func k) (has set)) → b ≡ true → Changes p (func k) l
calls_change p l set k true only t e = within (func k) t.node t.callee l t.calls (only t.callee.0 t.there)
calls_change p l set k false only t e = absurd (cc)

-- the node at a place of a function
pub node_there : (p : ProgramData) (k i : ℕ) (f : Func) (n : Node) → slice_get p.funcs k ≡ Some f → slice_get f.nodes i ≡ Some n →
    node_at p (func k) (record { 0 = i }) ≡ n
node_there p k i f n is there = rw (is, there) refl

-- a node that calls stands among the nodes
calls_there : (nodes : List Node) (i : ℕ) (callee : FuncId) → callee_of (unwrap_or (slice_get nodes i) node.Unreachable) ≡ Some callee →
    (n : Node) × (slice_get nodes i ≡ Some n) × (callee_of n ≡ Some callee)
calls_there nodes i callee e =
    let P : Option Node → Type 0 = λ o. callee_of (unwrap_or o node.Unreachable) ≡ Some callee in
    ⊎_elim (λ here. (here.0, here.2, subst P here.2 e)) (λ past. let h : None ≡ Some callee = subst P past.1 e in absurd (cc)) (slice_get_cases nodes i).1

pub tells_calls : (p : ProgramData) (k : ℕ) (f : Func) (S : ℕ → Bool) (b : Bool) → slice_get p.funcs k ≡ Some f →
    Tells b (AnyCalls f.nodes S) → Tells b (CallsInto p (func k) S)
tells_calls p k f S b is t =
    let there : nodes_of (func_at p (func k)) ≡ f.nodes = ap nodes_of is in
    tells_map (AnyCalls f.nodes S) (CallsInto p (func k) S) b
    (λ a. record { node = record { 0 = a.at' }; callee = a.calls.callee; calls = ap callee_of (node_there p k a.at' f a.node is a.found) ∙ a.calls.calls; there = a.calls.there })
    (λ c. let Q : List Node → Type 0 = λ ns. callee_of (unwrap_or (slice_get ns c.node.0) node.Unreachable) ≡ Some c.callee in
    let r = calls_there f.nodes c.node.0 c.callee (subst Q there c.calls) in
    record { at' = c.node.0; node = r.0; found = r.1; calls = record { callee = c.callee; calls = r.2; there = c.there } }) t

-- no node before calls, and the next one neither
pub none_more : (nodes : List Node) (S : ℕ → Bool) (k : ℕ) (n : Node) →
    ((i : ℕ) (m : Node) → i < k → slice_get nodes i ≡ Some m → CallsMember m S → ⊥) → slice_get nodes k ≡ Some n → (CallsMember n S → ⊥) →
    (i : ℕ) (m : Node) → i < k + 1 → slice_get nodes i ≡ Some m → CallsMember m S → ⊥
none_more nodes S k n before here no' i m h is c =
    ⊎_elim (λ lt. before i m lt is c)
    (λ ge. let e : i ≡ k = omega arith in
    let same : Some m ≡ Some n = sym is ∙ ap (slice_get nodes) e ∙ here in
    let mn : m ≡ n = cc in no' (subst (λ (x : Node). CallsMember x S) mn c)) (cases_lt i k)
