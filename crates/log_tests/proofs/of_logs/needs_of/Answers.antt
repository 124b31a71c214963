use Rattle.std.proofs.Common.{refl}
use Rattle.log_tests.proofs.of_logs.needs_of.Goals as goal

pub same-far : goal.same-far
same-far g c = refl

pub same-allocated : goal.same-allocated
same-allocated g c = refl
