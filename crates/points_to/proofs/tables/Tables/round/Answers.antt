use Rattle.points_to.proofs.Putting.{applies_next, applies_all}
use Rattle.points_to.proofs.tables.Tables.round.Goals as goal

pub loop-inclusion-preserved : goal.loop-inclusion-preserved
loop-inclusion-preserved c =
    applies_next c.args.list.now c.loop-inclusion.inclusion-index _ c.args.self.now.kinds.items c.args.self.now.changed c.loop-inclusion.self.kinds.items c.loop-inclusion.self.changed
    c.apply.new.self.kinds.items c.apply.new.self.changed c.loop-inclusion-test.true c.loop-inclusion.invariant c.in_ok-apply.ensures

pub returns : goal.returns
returns c =
    applies_all c.args.list.now c.loop-inclusion.inclusion-index c.args.self.now.kinds.items c.args.self.now.changed c.loop-inclusion.self.kinds.items c.loop-inclusion.self.changed
    c.loop-inclusion-test.false c.loop-inclusion.invariant
