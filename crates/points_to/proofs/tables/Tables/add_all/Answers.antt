use Rattle.points_to.proofs.Putting.{puts_next, puts_all}
use Rattle.points_to.proofs.tables.Tables.add_all.Goals as goal

pub loop-site-preserved : goal.loop-site-preserved
loop-site-preserved c =
    puts_next c.args.self.now.kinds.items c.args.self.now.changed c.args.holder c.args.sites.now c.loop-site.site-index c.loop-site.self.kinds.items c.loop-site.self.changed
    c.add.new.self.kinds.items c.add.new.self.changed c.loop-site-test.true c.loop-site.invariant c.in_ok-add.ensures

pub returns : goal.returns
returns c =
    puts_all c.args.self.now.kinds.items c.args.self.now.changed c.args.holder c.args.sites.now c.loop-site.site-index c.loop-site.self.kinds.items c.loop-site.self.changed
    c.loop-site-test.false c.loop-site.invariant
