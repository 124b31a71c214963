use Rattle.std.proofs.Common.{◌∙◌}
use Rattle.bit_gates.proofs.TermRows.{row_like}
use Rattle.bit_gates.proofs.walk.known_row.Goals as goal

pub returns-in_ok-from_slice-in-Some : goal.returns-in_ok-from_slice-in-Some
returns-in_ok-from_slice-in-Some g c = λ nodes all.
    row_like nodes c.in-Some.row.now.items c.in_ok-from_slice-in-Some.field-0.items c.args.t.now (c.in_ok-from_slice-in-Some.ensures.items ∙ c.deref.ensures.value) (all c.args.t.now c.in-Some.row.now c.in-Some.ensures)
