use Rattle.std.proofs.Common.{◌≡◌, ◌≤◌, take, length}
use Rattle.std.specs.Prelude.{IfSome}
use Rattle.terms.specs.Tree.{width_of}
use Rattle.log_laws.specs.Reading as reading
use Rattle.write_log.specs.Walks as walks
use Rattle.write_log.proofs.chains.term_of.Given as goal

abbrev pub invariant-back : goal.invariant-back
invariant-back g l = (reading.term_of l.candidates l.last ≡ walks.chosen_from (take l.left l.candidates) l.term) × ((l.left ≤ length l.candidates) × IfSome l.term (λ t. width_of t ≡ 8))

abbrev pub decreases-back : goal.decreases-back
decreases-back g l = l.left
