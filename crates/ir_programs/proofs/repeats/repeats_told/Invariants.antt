use Rattle.std.proofs.Common.{◌≡◌, [], take, drop}
use Rattle.ir_programs.specs.Steps.{repeats_left, texts_of}
use Rattle.ir_programs.proofs.repeats.repeats_told.Given as goal

abbrev pub invariant-places : goal.invariant-places
invariant-places l = repeats_left l.at l.now (texts_of (take l.place l.locals)) (drop l.place l.locals) ≡ repeats_left l.at l.fn.told [] l.locals
