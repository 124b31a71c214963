use Rattle.std.proofs.Common.{◌≡◌, ◌+◌, ◌-◌, suc, length, subst, sym, ap, ◌∙◌, arith}
use Rattle.sym_states.specs.Attempts.{read_all, before}
use Rattle.sym_states.specs.States.{then_flow}
use Rattle.state_laws.specs.Kept.{FlowFits, ReadBytesFits}
use Rattle.state_sides.specs.Views.{state_seen, step_seen, flow_seen, context_of}
use Rattle.memory_steps.specs.Views.{byte_seen}
use Rattle.memory_steps.proofs.Behind.{state-back, read-more, read-over, read-end}
use Rattle.memory_steps.proofs.reading.read_all.Goals as goal

pub returns-in-Over : goal.returns-in-Over
returns-in-Over g c =
    let setting = context_of c.args.machine.now.scope in
    let s = state_seen c.bytes.state in
    let left = c.args.count - (c.bytes.j + 1) in
    let more : suc left ≡ c.args.count - c.bytes.j = omega (arith, c.bytes-test.true) in
    let all = read_all setting c.args.object.now c.args.offset.now in
    read-over setting c.args.object.now c.args.offset.now left c.bytes.j c.bytes.bytes s (step_seen c.in-Over.step) (all c.args.count 0 (state_seen c.args.state))
    (sym c.in_ok-flow.ensures.value ∙ ap (flow_seen byte_seen) c.in-Over.is)
    (ap (λ k. then_flow (all k c.bytes.j s) (before c.bytes.bytes)) more ∙ c.bytes.invariant.leads)

pub bytes-preserved : goal.bytes-preserved
bytes-preserved g c =
    let setting = context_of c.args.machine.now.scope in
    let s = state_seen c.bytes.state in
    let t = state_seen c.in-On.one.state in
    let left = c.args.count - (c.bytes.j + 1) in
    let more : suc left ≡ c.args.count - c.bytes.j = omega (arith, c.bytes-test.true) in
    let all = read_all setting c.args.object.now c.args.offset.now in
    let kept = length c.bytes.state.kept in
    let one = subst (FlowFits kept (ReadBytesFits kept 1)) (ap (flow_seen byte_seen) c.in-On.is) c.in_ok-flow.ensures.fits in
    record {
      leads = ap (λ bs. then_flow (all left (c.bytes.j + 1) t) (before bs)) c.in_ok-push-in-On.ensures.ok
          ∙ read-more setting c.args.object.now c.args.offset.now left c.bytes.j c.bytes.bytes s c.in-On.one.byte t (all c.args.count 0 (state_seen c.args.state))
          (sym c.in_ok-flow.ensures.value ∙ ap (flow_seen byte_seen) c.in-On.is)
          (ap (λ k. then_flow (all k c.bytes.j s) (before c.bytes.bytes)) more ∙ c.bytes.invariant.leads);
      fits = state-back (length c.args.state.kept) s t c.bytes.invariant.fits one.state;
    }

pub returns : goal.returns
returns g c =
    let setting = context_of c.args.machine.now.scope in
    let s = state_seen c.bytes.state in
    let none : 0 ≡ c.args.count - c.bytes.j = omega (arith, c.bytes-test.false) in
    let all = read_all setting c.args.object.now c.args.offset.now in
    read-end setting c.args.object.now c.args.offset.now 0 c.bytes.j c.bytes.bytes s (all c.args.count 0 (state_seen c.args.state))
    (ap (λ k. then_flow (all k c.bytes.j s) (before c.bytes.bytes)) none ∙ c.bytes.invariant.leads)
