use Rattle.std.proofs.Common.{Bool, arith, subst}
use Rattle.slicer.specs.declared.marks.Mark.TheVariants.{Returns}
use Rattle.slicer.specs.Closing.{MarksIf}
use Rattle.slicer.proofs.Settles.{asked_given}
use Rattle.slicer.proofs.slicing.ask.Goals as goal

pub returns : goal.returns
returns c =
    let p = c.args.places.now.program.now in
    let starts = c.args.places.now.starts.items in
    asked_given p c.args.f c.args.at starts c.args.set.now c.mark.new.set c.mark_if.new.set c.args.places.now.laid_out c.requires.func c.requires.at c.requires.none
    (omega (arith, c.mark.auto.set, c.mark_if.auto.set, c.requires.size)) c.mark.ensures.only c.mark.ensures.marked
    (subst (λ (b : Bool). MarksIf p starts b (Returns c.args.f) c.mark.new.set c.mark_if.new.set) c.is_result.ensures c.mark_if.ensures)
