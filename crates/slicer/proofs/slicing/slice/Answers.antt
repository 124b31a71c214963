use Rattle.std.proofs.lemmas.Result.{IfOk-weaker}
use Rattle.slicer.proofs.Simulated.{simulated}
use Rattle.slicer.proofs.slicing.slice.Goals as goal

pub returns-clause-simulates : goal.returns-clause-simulates
returns-clause-simulates c =
    IfOk-weaker c.sliced.result _ _ (λ residual. simulated c.args.program.now c.args.f c.args.at residual c.parts.ensures.whole) (rw c.parts.ensures.value at c.sliced.ensures)
