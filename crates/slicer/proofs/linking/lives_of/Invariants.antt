use Rattle.std.proofs.Common.{◌≡◌, take}
use Rattle.slicer.specs.Links as spec
use Rattle.slicer.proofs.linking.lives_of.Given as goal

abbrev pub invariant-loop-site : goal.invariant-loop-site
invariant-loop-site l = l.marks.items ≡ spec.lives_of (take l.site-index l.sites)
