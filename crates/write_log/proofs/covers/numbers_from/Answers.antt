use Rattle.write_log.proofs.Offsets.{numbers_step}
use Rattle.write_log.proofs.covers.numbers_from.Goals as goal

pub loop-j-preserved : goal.loop-j-preserved
loop-j-preserved c = numbers_step c.args.first c.loop-j.j c.behind.result c.loop-j.list c.push.new.self c.in_ok-push.ensures.ok c.behind.ensures c.loop-j.invariant
