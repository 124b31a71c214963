use Rattle.std.proofs.Common.{None, arith}
use Rattle.flat_ir.specs.declared.nodes.RegType.TheVariants.{Ptr}
use Rattle.call_steps.proofs.Unset.{counted-more}
use Rattle.call_steps.proofs.entering.add_unset.Goals as goal

pub types-preserved : goal.types-preserved
types-preserved g c = counted-more None Ptr c.args.types.now c.types._kind-index c.args.regs c.types.regs c.push.new.self (omega arith) c.types.invariant c.in_ok-push.ensures.ok
