use Rattle.ir_tree.proofs.Writing.{escaped_more}
use Rattle.ir_tree.proofs.printing.names.push_quoted.Goals as goal

pub loop-byte-preserved : goal.loop-byte-preserved
loop-byte-preserved c = escaped_more c.push.new.self.items _ _ c.args.bytes.now c.loop-byte.byte-index c.loop-byte-test.true c.loop-byte.invariant c.in_ok-push_escaped.ensures
