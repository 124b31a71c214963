use Rattle.chop_top.proofs.OneText.{read-is-readable}
use Rattle.chop_top.proofs.accepting.accepted.Goals as goal

pub program_of-requires : goal.program_of-requires
program_of-requires c = read-is-readable c.args.bytes.now c.in-Ok.tree c.in-Ok.ensures.tree
