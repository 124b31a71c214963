use Rattle.std.proofs.Common.{length}
use Rattle.plain_list.specs.Links.{items_of}
use Rattle.plain_list.proofs.shared.Link.drop.Given as goal

abbrev pub decreases-loop-self : goal.decreases-loop-self
decreases-loop-self g l = length (items_of l.self)
