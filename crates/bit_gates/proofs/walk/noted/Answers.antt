use Rattle.std.proofs.Common.{◌∙◌}
use Rattle.bit_gates.proofs.TermRows.{row_like, rows_more}
use Rattle.bit_gates.proofs.walk.noted.Goals as goal

pub returns-clause-known : goal.returns-clause-known
returns-clause-known g c =
    let table = c.args.table.now in
    let copy = c.in_ok-copy.copy in
    rows_more table c.args.memo.now c.put.new.self c.args.t.now copy c.requires.known (row_like table c.args.row.items copy.items c.args.t.now (c.in_ok-copy.ensures.items ∙ c.deref.ensures.value) c.requires.row) c.put.ensures.others
