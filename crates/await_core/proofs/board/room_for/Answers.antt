use Rattle.std.proofs.Common.{sym, ◌∙◌}
use Rattle.std.proofs.lemmas.Bool.{false≢true}
use Rattle.await_core.proofs.board.room_for.Goals as goal

pub returns-then-completes : goal.returns-then-completes
returns-then-completes g c k = c.requires.enough

pub returns-else-completes : goal.returns-else-completes
returns-else-completes g c k = absurd (false≢true (sym c.if-completes.false ∙ c.completes.ensures k))
