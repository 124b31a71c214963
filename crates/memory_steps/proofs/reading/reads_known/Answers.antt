use Rattle.std.proofs.Common.{◌≡◌, length, subst, sym, ap}
use Rattle.terms.specs.Tree.{width_of}
use Rattle.state_laws.specs.Kept.{FlowFits, StateFitsAt}
use Rattle.state_sides.specs.Views.{state_seen, flow_seen}
use Rattle.step_parts.proofs.Flows.{own-fits}
use Rattle.memory_steps.proofs.Behind.{term-own}
use Rattle.memory_steps.proofs.reading.reads_known.Goals as goal

pub knows-requires-clause-wanted : goal.knows-requires-clause-wanted
knows-requires-clause-wanted g c = subst (λ t. width_of t ≡ 64) (sym c.in_ok-copy-2.ensures) c.requires.fits.offset.has_width

pub knows-requires-clause-fits : goal.knows-requires-clause-fits
knows-requires-clause-fits g c = c.requires.fits.state

pub read_all-requires-clause-budget : goal.read_all-requires-clause-budget
read_all-requires-clause-budget g c κs within = c.requires.budget

pub read_all-requires-clause-fitting : goal.read_all-requires-clause-fitting
read_all-requires-clause-fitting g c κs within = c.requires.fitting

pub read_all-requires-clause-fits : goal.read_all-requires-clause-fits
read_all-requires-clause-fits g c κs within =
    let n = length c.args.reached.state.kept in
    own-fits n (state_seen c.in-On.state) (subst (FlowFits n (StateFitsAt n)) (ap (flow_seen state_seen) c.in-On.is) c.in_ok-flow.ensures.fits)

pub read_all-requires-clause-offset : goal.read_all-requires-clause-offset
read_all-requires-clause-offset g c κs within =
    let n = length c.args.reached.state.kept in
    term-own n 64 (state_seen c.in-On.state) c.args.reached.offset (subst (FlowFits n (StateFitsAt n)) (ap (flow_seen state_seen) c.in-On.is) c.in_ok-flow.ensures.fits) c.requires.fits.offset
