use Rattle.sym_machine.proofs.Stepping.{zeros-next}
use Rattle.sym_machine.proofs.exploring.zeros.Goals as goal

pub bytes-preserved : goal.bytes-preserved
bytes-preserved c = zeros-next c.bytes.counter c.bytes.bytes c.push.new.self c.bytes.invariant c.in_ok-push.ensures.ok
