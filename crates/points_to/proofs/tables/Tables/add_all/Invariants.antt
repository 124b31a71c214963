use Rattle.points_to.specs.Solving.{PutsFirst}
use Rattle.points_to.proofs.tables.Tables.add_all.Given as goal

abbrev pub invariant-loop-site : goal.invariant-loop-site
invariant-loop-site l = PutsFirst l.fn.self.kinds.items l.fn.self.changed l.holder l.sites l.site-index l.self.kinds.items l.self.changed
