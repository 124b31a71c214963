use Rattle.std.proofs.Common.{arith}
use Rattle.await_core.proofs.board.after_at.Goals as goal

pub returns : goal.returns
returns g c r e = omega (arith, c.before_at.ensures r e)
