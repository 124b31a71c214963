use Rattle.std.proofs.Common.{◌≡◌, ◌∙◌, ap, length, ◌/◌}
use Rattle.flat_ir.specs.Registers.{bytes_of_type}
use Rattle.concrete_memory.proofs.Powers.{bytes_fit}
use Rattle.concrete_memory.proofs.joining.join_value.Goals as goal

pub new-requires-clause-fits : goal.new-requires-clause-fits
new-requires-clause-fits c =
    let size : length c.args.bytes.now ≡ c.in-Int.width / 8 = c.requires.size ∙ ap bytes_of_type c.in-Int.is in
    bytes_fit c.in-Some.number (length c.args.bytes.now) c.in-Int.width c.in-Some.ensures.fits size
