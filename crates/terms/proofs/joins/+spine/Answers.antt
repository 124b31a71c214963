use Rattle.std.proofs.Common.{sym}
use Rattle.terms.proofs.Bytes.{spine_fits}
use Rattle.terms.proofs.joins.+spine.Goals as goal

pub plain_two-requires : goal.plain_two-requires
plain_two-requires g t c =
    spine_fits c.args.bytes.now c.in-Some.t.now c.in-Some.rest.now c.in_ok-spine-in-Some.field-0 c.in-Some.ensures.cases.0
    c.requires.widths c.requires.most (sym c.if-is_empty.ensures) c.in_ok-spine-in-Some.ensures
