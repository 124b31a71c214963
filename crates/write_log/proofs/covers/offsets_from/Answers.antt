use Rattle.std.proofs.Common.{◌∙◌, ◌+◌, ◌%◌, ◌^◌, Some, sym, ap}
use Rattle.flat_ir.specs.Registers.{first_of}
use Rattle.write_log.proofs.Offsets.{constant_offsets}
use Rattle.write_log.proofs.covers.offsets_from.Goals as goal

pub returns-in_ok-numbers_from-in-Some : goal.returns-in_ok-numbers_from-in-Some
returns-in_ok-numbers_from-in-Some g c =
    ap Some (c.in_ok-numbers_from-in-Some.ensures ∙ ap (λ b. first_of c.args.count 0 (λ j. (b + j) % 2 ^ 64)) c.bits.ensures.bits)
    ∙ sym (constant_offsets c.args.offset.now c.in-Some.n c.args.count (sym c.as_constant.ensures.number ∙ c.in-Some.is) c.requires)
