use Rattle.std.proofs.Common.{◌++◌}
use Rattle.ir_programs.specs.Programs.{number_bytes}
use Rattle.tree_constants.proofs.Filling.{one_byte}
use Rattle.tree_constants.proofs.bytes.push_number.Goals as goal

pub bytes-preserved : goal.bytes-preserved
bytes-preserved c =
    one_byte c.args.count c.bytes.place c.bytes.rest c.bytes.bytes.items c.push.new.self.items (c.args.bytes.now.items ++ number_bytes c.args.count c.args.bits)
    c.bytes-test.true c.in_ok-push.ensures.items c.bytes.invariant
