use Rattle.std.proofs.Common.{◌≡◌, [], take, drop}
use Rattle.ir_resolve.specs.Telling.{cases_left}
use Rattle.ir_resolve.proofs.cases.cases_told.Given as goal

abbrev pub invariant-places : goal.invariant-places
invariant-places l = cases_left l.now (take l.place l.cases) (drop l.place l.cases) ≡ cases_left l.fn.told [] l.cases
