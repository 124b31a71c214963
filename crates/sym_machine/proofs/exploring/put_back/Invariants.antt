use Rattle.std.proofs.Common.{◌≡◌, ◌++◌, map, vec_len}
use Rattle.state_sides.specs.Views.{child_seen}
use Rattle.sym_machine.specs.Turns.{waiting_seen}
use Rattle.sym_machine.proofs.exploring.put_back.Given as goal

abbrev pub invariant-put : goal.invariant-put
invariant-put g l = map child_seen l.children.items ++ waiting_seen l.waiting.items ≡ map child_seen l.fn.children.items ++ waiting_seen l.fn.waiting.items

abbrev pub decreases-put : goal.decreases-put
decreases-put g l = vec_len l.children
