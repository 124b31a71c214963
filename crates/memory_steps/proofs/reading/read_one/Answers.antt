use Rattle.std.proofs.Common.{◌≡◌, ◌-◌, suc, length, subst, sym, ap, ◌∙◌, arith}
use Rattle.sym_states.specs.Attempts.{read_on}
use Rattle.sym_states.specs.States.{Over}
use Rattle.state_sides.specs.Views.{state_seen, context_of}
use Rattle.memory_steps.specs.Views.{tried_then, TriedFits}
use Rattle.memory_steps.proofs.Behind.{state-back}
use Rattle.memory_steps.proofs.reading.read_one.Goals as goal

pub returns-in-Byte : goal.returns-in-Byte
returns-in-Byte g c =
    let next = read_on (context_of c.args.machine.now.scope) c.args.object.now c.args.at.now in
    let more : suc (c.tests.tests - 1) ≡ c.tests.tests = omega (arith, c.tests-test.true) in
    sym (ap (λ tried. tried_then tried (next (c.tests.tests - 1))) c.in-Byte.is) ∙ c.in_ok-tried.ensures.value (c.tests.tests - 1)
    ∙ ap (λ tests. next tests (state_seen c.tests.state)) more ∙ c.tests.invariant.leads

pub returns-in-Over : goal.returns-in-Over
returns-in-Over g c =
    let next = read_on (context_of c.args.machine.now.scope) c.args.object.now c.args.at.now in
    let more : suc (c.tests.tests - 1) ≡ c.tests.tests = omega (arith, c.tests-test.true) in
    sym (ap (λ tried. tried_then tried (next (c.tests.tests - 1))) c.in-Over.is) ∙ c.in_ok-tried.ensures.value (c.tests.tests - 1)
    ∙ ap (λ tests. next tests (state_seen c.tests.state)) more ∙ c.tests.invariant.leads

pub tests-preserved : goal.tests-preserved
tests-preserved g c =
    let next = read_on (context_of c.args.machine.now.scope) c.args.object.now c.args.at.now in
    let more : suc (c.tests.tests - 1) ≡ c.tests.tests = omega (arith, c.tests-test.true) in
    record {
      leads = sym (ap (λ tried. tried_then tried (next (c.tests.tests - 1))) c.in-Again.is) ∙ c.in_ok-tried.ensures.value (c.tests.tests - 1)
          ∙ ap (λ tests. next tests (state_seen c.tests.state)) more ∙ c.tests.invariant.leads;
      fits = state-back (length c.args.state.kept) (state_seen c.tests.state) (state_seen c.in-Again.next) c.tests.invariant.fits
          (subst (TriedFits (length c.tests.state.kept)) c.in-Again.is c.in_ok-tried.ensures.fits);
    }

pub returns : goal.returns
returns g c =
    let next = read_on (context_of c.args.machine.now.scope) c.args.object.now c.args.at.now in
    let none : 0 ≡ c.tests.tests = omega (arith, c.tests-test.false) in
    ap Over c.in_ok-opens.ensures ∙ ap (λ tests. next tests (state_seen c.tests.state)) none ∙ c.tests.invariant.leads
