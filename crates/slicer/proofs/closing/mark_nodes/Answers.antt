use Rattle.std.proofs.Common.{refl, arith}
use Rattle.slicer.proofs.ClosesThem.{one_marked}
use Rattle.slicer.proofs.closing.mark_nodes.Goals as goal

pub each-preserved : goal.each-preserved
each-preserved c = record {
  size = omega (arith, c.each.invariant.size, c.mark_if.auto.set);
  marks = one_marked c.args.places.now.program.now c.args.places.now.starts.items c.args.func c.each.n c.args.nodes.now c.args.set.now c.each.set c.mark_if.new.set _ refl
      c.each.invariant.marks c.mark_if.ensures;
}
