use Rattle.std.proofs.Common.{refl, arith}
use Rattle.slicer.proofs.ClosesThem.{first_closed}
use Rattle.slicer.proofs.closing.close_functions.Goals as goal

pub each-preserved : goal.each-preserved
each-preserved c = record {
  size = omega (arith, c.each.invariant.size, c.close_if.auto.set);
  closes = first_closed c.args.places.now.program.now c.args.places.now.starts.items c.args.looked.now c.each.f c.args.grown.now c.each.set c.close_if.new.set _ refl
      c.each.invariant.closes c.in_ok-close_if.ensures;
}
