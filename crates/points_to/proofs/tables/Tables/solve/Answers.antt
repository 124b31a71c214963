use Rattle.std.proofs.Common.{arith, refl}
use Rattle.points_to.proofs.Putting.{size_at_most}
use Rattle.points_to.proofs.tables.Tables.solve.Goals as goal

pub rounds-smaller : goal.rounds-smaller
rounds-smaller c =
    let gains = c.in_ok-round.ensures.gains in
    let more = gains.more refl c.if-not-self.false in
    let most = size_at_most c.round.new.self.kinds.items gains.fine in
    omega (arith, more, most, gains.bound)
