use Rattle.std.proofs.Common.{◌≡◌, ◌++◌, length}
use Rattle.sym_bytes.specs.Joining.{put_call}
use Rattle.sym_bytes.proofs.joining.put_call.Given as goal

-- the calls so far stand in front of what is left
abbrev pub invariant-loop-first : goal.invariant-loop-first
invariant-loop-first l = l.list ++ put_call l.call l.left ≡ put_call l.call l.calls

abbrev pub decreases-loop-first : goal.decreases-loop-first
decreases-loop-first l = length l.left
