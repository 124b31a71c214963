use Rattle.std.proofs.Common.{◌∙◌, ap}
use Rattle.std.proofs.lemmas.List.{map_push}
use Rattle.tree_constants.specs.Values.{lent}
use Rattle.tree_constants.proofs.values.push.Goals as goal

pub returns : goal.returns
returns c = ap lent c.in_ok-push.ensures.items ∙ map_push (λ r. r.now) c.args.values.now.items c.args.value
