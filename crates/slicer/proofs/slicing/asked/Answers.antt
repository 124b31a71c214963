use Rattle.std.proofs.Common.{List, Bool, arith, sym, subst}
use Rattle.control_closure.proofs.SumsUp.{written_back}
use Rattle.slicer.specs.Facts.{AreGiven}
use Rattle.slicer.specs.Settling.{nothing}
use Rattle.slicer.proofs.slicing.asked.Goals as goal

pub returns : goal.returns
returns c =
    let back = written_back c.in_ok-set.set.len c.ask.new.set _ (omega (arith, c.ask.auto.set, c.deref_mut.ensures.len)) in
    subst (λ (s : List Bool). AreGiven c.args.places.now.program.now c.args.f c.args.at c.args.places.now.starts.items nothing s) (sym back) c.ask.ensures
