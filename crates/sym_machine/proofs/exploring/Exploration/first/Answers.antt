use Rattle.std.proofs.Common.{refl}
use Rattle.sym_machine.proofs.exploring.Exploration.first.Goals as goal

pub same-result : goal.same-result
same-result g c = refl

pub same-result-2 : goal.same-result-2
same-result-2 g c = refl

pub same-result-3 : goal.same-result-3
same-result-3 g c = refl
