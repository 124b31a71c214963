use Rattle.std.proofs.Common.{ap, arith, ℕ, ◌+◌}
use Rattle.bitnum.specs.Number.{Number}
use Rattle.terms.proofs.Numbers.{joined_is, joined_fits, joined_fits_word}
use Rattle.terms.proofs.operate.joined.Goals as goal

pub overflow_add-bits : goal.overflow_add-bits
overflow_add-bits c =
    let room = joined_fits_word c.args.m c.args.n c.bits.ensures.number c.bits-2.ensures.number c.requires in
    rw (c.width-3.ensures.width, c.bits.ensures.bits, c.bits-2.ensures.bits) (omega (arith, room))

pub new-requires-clause-fits : goal.new-requires-clause-fits
new-requires-clause-fits c =
    rw (c.width-3.ensures.width, c.width.ensures.width, c.width-2.ensures.width, c.bits.ensures.bits, c.bits-2.ensures.bits)
    (joined_fits c.args.m c.args.n c.bits.ensures.number c.bits-2.ensures.number c.requires)

pub returns : goal.returns
returns c =
    let at : ℕ → Number = λ b. record { width = c.args.m.width + c.args.n.width; bits = b } in
    rw (c.new.ensures, c.width-3.ensures.width, c.width.ensures.width, c.width-2.ensures.width, c.bits.ensures.bits, c.bits-2.ensures.bits)
    (ap at (joined_is c.args.m c.args.n c.bits.ensures.number c.bits-2.ensures.number c.requires))
