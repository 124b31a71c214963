use Rattle.std.proofs.Common.{◌≡◌, replicate}
use Rattle.row_nodes.proofs.moves.repeated.Given as goal

abbrev pub invariant-loop : goal.invariant-loop
invariant-loop l = l.row.items ≡ replicate l.counter l.place
