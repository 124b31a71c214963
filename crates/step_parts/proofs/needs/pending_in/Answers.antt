use Rattle.std.proofs.Common.{[], ap, sym, ◌∙◌}
use Rattle.sym_states.specs.Terms.{pending_in}
use Rattle.state_sides.specs.Views.{state_seen}
use Rattle.step_parts.proofs.Flows.{pending_onto, onto_none, onto_last}
use Rattle.step_parts.proofs.needs.pending_in.Goals as goal

pub operands-init : goal.operands-init
operands-init g c =
    let s = state_seen c.args.state.now in
    let operands = c.args.operands.now in
    ap (pending_onto s operands) c.new-calls.ensures ∙ onto_none s operands

pub operands-preserved : goal.operands-preserved
operands-preserved g c =
    let s = state_seen c.args.state.now in
    let before = c.in-Some.before.now in
    ap (pending_onto s before) c.in_ok-calls.ensures
    ∙ sym (onto_last s before c.in-Some.operand.now c.operands.calls)
    ∙ ap (λ rest. pending_onto s rest c.operands.calls) (sym c.in-Some.ensures.cases.0)
    ∙ c.operands.invariant
