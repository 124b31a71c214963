use Rattle.checks.proofs.Unique.{first_is_one, not_both}
use Rattle.checks.proofs.checking.first_place_is_one.Goals as goal

pub returns : goal.returns
returns c = record { one = first_is_one; checked = not_both }
