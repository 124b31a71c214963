use Rattle.std.proofs.Common.{length, subst, sym, ap, ◌∙◌}
use Rattle.sym_bytes.specs.ShownAnswers.{read_of}
use Rattle.sym_states.specs.Fitting.{ReadFits}
use Rattle.state_laws.specs.Kept.{TestedFits}
use Rattle.state_laws.proofs.Accesses.{read_byte-at}
use Rattle.state_laws.proofs.Sides.{test-fits}
use Rattle.state_sides.specs.Views.{state_seen, context_of}
use Rattle.memory_steps.proofs.reading.tries.Goals as goal

pub test-requires-clause-budget : goal.test-requires-clause-budget
test-requires-clause-budget g c κs within = c.requires.budget

pub test-requires-clause-fits : goal.test-requires-clause-fits
test-requires-clause-fits g c κs within = c.requires.fits.fits

pub test-requires-clause-truth : goal.test-requires-clause-truth
test-requires-clause-truth g c κs within =
    let n = length c.args.state.kept in
    subst (ReadFits n) (sym c.in_ok-read.ensures ∙ ap read_of c.in-Undecided.is) (read_byte-at n c.args.object.now c.args.at.now (state_seen c.args.state) c.requires.at c.requires.fits)

pub returns-in_ok-test-in-Undecided-clause-fits : goal.returns-in_ok-test-in-Undecided-clause-fits
returns-in_ok-test-in-Undecided-clause-fits g c =
    let n = length c.args.state.kept in
    let truth = subst (ReadFits n) (sym c.in_ok-read.ensures ∙ ap read_of c.in-Undecided.is) (read_byte-at n c.args.object.now c.args.at.now (state_seen c.args.state) c.requires.at c.requires.fits) in
    c.either_way.ensures.fits n (subst (TestedFits n) (sym c.in_ok-test-in-Undecided.ensures) (test-fits (context_of c.args.machine.now.scope) n c.in-Undecided.holds (state_seen c.args.state) c.requires.fitting truth c.requires.fits))
