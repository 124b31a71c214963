use Rattle.checks.specs.Errors.{AreClean}
use Rattle.checks.proofs.checking.first_among.Given as goal

abbrev pub invariant-loop-at : goal.invariant-loop-at
invariant-loop-at l = AreClean l.funcs l.at
