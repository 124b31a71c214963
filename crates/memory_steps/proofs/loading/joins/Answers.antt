use Rattle.std.proofs.Common.{length, subst, ap}
use Rattle.sym_bytes.specs.ShownAnswers.{join_of}
use Rattle.state_laws.specs.Kept.{JoinFits}
use Rattle.memory_steps.proofs.loading.joins.Goals as goal

pub joins_tested-requires-clause-budget : goal.joins_tested-requires-clause-budget
joins_tested-requires-clause-budget g c κs within = c.requires.budget

pub joins_tested-requires-clause-fitting : goal.joins_tested-requires-clause-fitting
joins_tested-requires-clause-fitting g c κs within = c.requires.fitting

pub joins_tested-requires-clause-fits : goal.joins_tested-requires-clause-fits
joins_tested-requires-clause-fits g c κs within = c.requires.fits

pub joins_tested-requires-clause-truth : goal.joins_tested-requires-clause-truth
joins_tested-requires-clause-truth g c κs within = (subst (JoinFits (length c.args.state.kept)) (ap join_of c.in-Test.is) c.requires.join).0
