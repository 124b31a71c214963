use Rattle.ir_programs.specs.Parts as parts
use Rattle.tree_fits.specs.Leads.{led_fits}
use Rattle.tree_fits.proofs.Pushing.{flat_mapped_more}
use Rattle.tree_fits.proofs.sets.push_cases.Goals as goal

pub each-preserved : goal.each-preserved
each-preserved c =
    flat_mapped_more (led_fits c.args.place.now.tree.now c.args.place.now.function.now c.args.source.now) parts.case_label c.args.cases.now c.each.case-index c.case-item.result c.each.tests.items c.push_edge.new.tests.items _ c.each-test.true
    c.case-item.is c.in_ok-push_edge.ensures c.each.invariant
