use Rattle.std.proofs.Common.{◌<◌, ◌^◌, arith}
use Rattle.leaf_lines.proofs.Fits.{bits-byte}
use Rattle.leaf_lines.proofs.shown.byte_under.Goals as goal

pub overflow_cast-result : goal.overflow_cast-result
overflow_cast-result g c =
    let small : c.bits.result < 2 ^ 8 = rw (c.bits.ensures.bits, c.in_ok-number.ensures.value) (bits-byte _ c.args.term.now c.args.input.now c.requires.fits) in
    omega arith
