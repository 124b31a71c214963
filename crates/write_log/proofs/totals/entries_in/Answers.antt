use Rattle.std.proofs.Common.{◌<◌, subst}
use Rattle.log_laws.specs.Logs.{entries_since}
use Rattle.write_log.proofs.Since.{since_on}
use Rattle.write_log.proofs.totals.entries_in.Goals as goal

pub since-preserved : goal.since-preserved
since-preserved g c =
    since_on c.args.old c.args.at c.in-Some.item.now c.since.left.now c.in-Some.older.now c.since.list c.push_if_in.new.list (entries_since c.args.old c.args.at c.args.trail.now)
    c.in-Some.ensures (subst (λ n. c.args.old < n) c.len.ensures c.since-test.true) c.in_ok-push_if_in.ensures c.since.invariant
