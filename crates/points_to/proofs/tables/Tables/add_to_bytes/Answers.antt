use Rattle.points_to.proofs.Putting.{bytes_next, bytes_all}
use Rattle.points_to.proofs.tables.Tables.add_to_bytes.Goals as goal

pub loop-target-preserved : goal.loop-target-preserved
loop-target-preserved c =
    bytes_next c.args.self.now.kinds.items c.args.self.now.changed c.args.targets.now c.args.sites.now c.loop-target.target-index c.loop-target.self.kinds.items c.loop-target.self.changed
    c.add_all.new.self.kinds.items c.add_all.new.self.changed c.loop-target-test.true c.loop-target.invariant c.in_ok-add_all.ensures

pub returns : goal.returns
returns c =
    bytes_all c.args.self.now.kinds.items c.args.self.now.changed c.args.targets.now c.args.sites.now c.loop-target.target-index c.loop-target.self.kinds.items c.loop-target.self.changed
    c.loop-target-test.false c.loop-target.invariant
