use Rattle.std.proofs.Common.{◌≡◌, ap, arith, length}
use Rattle.flat_ir.specs.Machine.{func_at, nodes_of}
use Rattle.mod_ref.proofs.OwnChanges.{none_change}
use Rattle.mod_ref.proofs.owned.changes_itself.Goals as goal

pub returns : goal.returns
returns c =
    let size : length c.nodes_of-nodes.result.now ≡ length (nodes_of (func_at c.args.program.now c.args.from)) = ap length c.nodes_of-nodes.ensures in
    none_change c.args.program.now c.args.from c.args.location c.each.n c.each.invariant (omega (arith, c.each-test.false, size))
