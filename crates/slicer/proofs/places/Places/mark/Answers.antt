use Rattle.std.proofs.Common.{◌≡◌, ◌∙◌, sym, arith}
use Rattle.slicer.proofs.Numbers.{within_size}
use Rattle.slicer.proofs.places.Places.mark.Goals as goal

pub add-requires : goal.add-requires
add-requires c =
    let h = within_size c.args.self.now.program.now c.args.self.now.starts.items c.args.self.now.laid_out c.args.mark c.in-Some.k (sym c.number.ensures ∙ c.in-Some.is) in omega (arith, h)
