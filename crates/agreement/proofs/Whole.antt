-- What an attempt gives goes along with the run.
use Rattle.std.proofs.Common.{ℕ, zero, suc, [], refl, sym, subst}
use Rattle.flat_ir.specs.declared.nodes.Node.{Node}
use Rattle.flat_ir.specs.declared.nodes.Node.TheVariants as node
use Rattle.flat_ir.specs.Machine as machine
use Rattle.leaves.specs.declared.options.Cause.TheVariants.{Steps}
use Rattle.sym_states.specs.Attempts.{executes, with_left, attempt_at}
use Rattle.sym_states.specs.States.{State, opens, code_of}
use Rattle.state_laws.proofs.Attempted.{with_left-fits}
use Rattle.agreement.specs.Agreement.{StepGoesAlong}
use Rattle.agreement.specs.Laws.{AttemptsGoAlong}
use Rattle.agreement.specs.Premises.{none_gave}
use Rattle.agreement.proofs.Along.{Scene, IsHere, AnswerGoesAlong, alike, agreed, opens-along}
use Rattle.agreement.proofs.CallNodes.{abort-along, assert-along, unreachable-along, exit-along, ret-along, call-along}
use Rattle.agreement.proofs.MemoryNodes.{alloca-along, malloc-along, free-along, load-along, store-along, copy-along, in-along, put-along}
use Rattle.agreement.proofs.Here.{code-here}
use Rattle.agreement.proofs.Nodes.{StandsThere, is-at}
use Rattle.agreement.proofs.Numbers.{bin-along, cmp-along, cast-along, gep-along, select-along, moves-along, jump-along, branch-along, switch-along}

-- each kind of node
executes-along : (e : Scene) (k : ℕ) (m : machine.State) (s : State) (x : Node) → IsHere e k m s → StandsThere e m x → AnswerGoesAlong e (executes e.c x s)
executes-along e k m s (node.Bin o a b result next) h code = bin-along e k m s o a b result next (is-at e k m s (node.Bin o a b result next) h code)
executes-along e k m s (node.Cmp pr a b result next) h code = cmp-along e k m s pr a b result next (is-at e k m s (node.Cmp pr a b result next) h code)
executes-along e k m s (node.Cast o a result next) h code = cast-along e k m s o a result next (is-at e k m s (node.Cast o a result next) h code)
executes-along e k m s (node.Gep base parts result next) h code = gep-along e k m s base parts result next (is-at e k m s (node.Gep base parts result next) h code)
executes-along e k m s (node.Select c a b result next) h code = select-along e k m s c a b result next (is-at e k m s (node.Select c a b result next) h code)
executes-along e k m s (node.Alloca size result next) h code = alloca-along e k m s size result next h code
executes-along e k m s (node.Malloc size result next) h code = malloc-along e k m s size result next h code
executes-along e k m s (node.Free pointer next) h code = free-along e k m s pointer next h code
executes-along e k m s (node.Load pointer result next) h code = load-along e k m s pointer result next h code
executes-along e k m s (node.Store value pointer next) h code = store-along e k m s value pointer next h code
executes-along e k m s (node.Copy from there next) h code = copy-along e k m s from there next h code
executes-along e k m s (node.In result next) h code = in-along e k m s result next h code
executes-along e k m s (node.Put value next) h code = put-along e k m s value next h code
executes-along e k m s (node.Call callee args result next) h code = call-along e k m s callee args result next h code
executes-along e k m s (node.Moves sets next) h code = moves-along e k m s sets next (is-at e k m s (node.Moves sets next) h code)
executes-along e k m s (node.Jump next) h code = jump-along e k m s next (is-at e k m s (node.Jump next) h code)
executes-along e k m s (node.Branch c first second) h code = branch-along e k m s c first second (is-at e k m s (node.Branch c first second) h code)
executes-along e k m s (node.Switch value cases otherwise) h code = switch-along e k m s value cases otherwise (is-at e k m s (node.Switch value cases otherwise) h code)
executes-along e k m s (node.Ret value) h code = ret-along e k m s value h code
executes-along e k m s (node.Exit status) h code = exit-along e k m s status h code
executes-along e k m s node.Abort h code = abort-along e k m s h code
executes-along e k m s (node.Assert args) h code = assert-along e k m s args h code
executes-along e k m s node.Unreachable h code = unreachable-along e k m s h code

-- with another number of steps left
left-here : (e : Scene) (k : ℕ) (m : machine.State) (s : State) (left : ℕ) → IsHere e k m s → IsHere e k m (with_left left s)
left-here e k m s left h =
    let same = alike e.input s m h.agrees in
    let none = h.state.no_calls in
    record {
      runs = h.runs;
      agrees = agreed e.input (with_left left s) m (record { frame = same.frame; callers = same.callers; log = same.log; path = same.path; shots = same.shots });
      met = h.met;
      state = record {
        fits = with_left-fits _ left s h.state.fits;
        no_calls = record { frame = none.frame; callers = none.callers; log = none.log; snapshots = none.snapshots; path = none.path; target = none.target };
        set = record { frame = h.state.set.frame; callers = h.state.set.callers; calls = h.state.set.calls };
        globals = h.state.globals;
      };
    }

stepped-along : (e : Scene) (k : ℕ) (m : machine.State) (s : State) (left : ℕ) → IsHere e k m s → AnswerGoesAlong e (elim left [ zero ↦ opens Steps s | suc left ↦ executes e.c (code_of e.c.program s.frame) (with_left left s) ])
stepped-along e k m s zero h = opens-along e k m s Steps h
stepped-along e k m s (suc left) h =
    executes-along e k m (with_left left s) (code_of e.c.program s.frame) (left-here e k m s left h) (sym (code-here e k m s _ h refl))

pub attempts-along : AttemptsGoAlong
attempts-along c input s plain cases right bytes state stands met =
    let e : Scene = record { c = c; input = input; plain = plain; cases = cases; right = right; bytes = (refl, bytes.1) } in
    let here : IsHere e stands.steps stands.moment s = record { runs = stands.runs; agrees = stands.agrees; met = met; state = state } in
    subst (λ place. StepGoesAlong c.program [] input none_gave (attempt_at c place s)) (sym (alike input s stands.moment stands.agrees).frame.place) (stepped-along e stands.steps stands.moment s s.left here)
