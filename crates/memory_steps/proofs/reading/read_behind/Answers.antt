use Rattle.std.proofs.Common.{◌≡◌, length, subst, sym, ap, ◌∙◌, arith}
use Rattle.std.specs.Prelude.{IfOk}
use Rattle.leaves.specs.Fitting.{IsTermOf}
use Rattle.sym_bytes.specs.Building.{behind}
use Rattle.sym_states.specs.Attempts.{read_one}
use Rattle.sym_states.proofs.Widths.{behind-fits}
use Rattle.state_laws.specs.Kept.{ReadBytesFits}
use Rattle.state_laws.proofs.Accesses.{read_one-fits}
use Rattle.state_sides.specs.Views.{state_seen, flow_seen, context_of}
use Rattle.step_parts.proofs.Flows.{ok-fits}
use Rattle.memory_steps.specs.Views.{byte_seen}
use Rattle.memory_steps.proofs.reading.read_behind.Goals as goal

pub read_one-requires-clause-budget : goal.read_one-requires-clause-budget
read_one-requires-clause-budget g c κs within = c.requires.budget

pub read_one-requires-clause-fitting : goal.read_one-requires-clause-fitting
read_one-requires-clause-fitting g c κs within = c.requires.fitting

pub read_one-requires-clause-fits : goal.read_one-requires-clause-fits
read_one-requires-clause-fits g c κs within = c.requires.fits

pub read_one-requires-clause-at : goal.read_one-requires-clause-at
read_one-requires-clause-at g c κs within =
    let n = length c.args.state.kept in
    subst (IsTermOf n 64) (sym (c.in_ok-at.ensures.value ∙ ap (behind c.args.offset.now) c.from.ensures)) (behind-fits n c.args.offset.now c.args.j c.requires.offset (omega (arith, c.ranges.j.fits)))

pub returns-clause-value : goal.returns-clause-value
returns-clause-value g c =
    subst (λ at. IfOk c.read_one.result (λ flow. flow_seen byte_seen flow ≡ read_one (context_of c.args.machine.now.scope) c.args.object.now at (state_seen c.args.state)))
    (c.in_ok-at.ensures.value ∙ ap (behind c.args.offset.now) c.from.ensures) c.read_one.ensures

pub returns-clause-fits : goal.returns-clause-fits
returns-clause-fits g c =
    let n = length c.args.state.kept in
    let setting = context_of c.args.machine.now.scope in
    let at = behind c.args.offset.now c.args.j in
    let fit = behind-fits n c.args.offset.now c.args.j c.requires.offset (omega (arith, c.ranges.j.fits)) in
    ok-fits (flow_seen byte_seen) n (ReadBytesFits n 1) c.read_one.result (read_one setting c.args.object.now at (state_seen c.args.state))
    (read_one-fits setting n c.args.object.now at (state_seen c.args.state) c.requires.fitting fit c.requires.fits)
    (subst (λ t. IfOk c.read_one.result (λ flow. flow_seen byte_seen flow ≡ read_one setting c.args.object.now t (state_seen c.args.state)))
    (c.in_ok-at.ensures.value ∙ ap (behind c.args.offset.now) c.from.ensures) c.read_one.ensures)
