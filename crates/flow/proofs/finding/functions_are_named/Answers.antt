use Rattle.flow.specs.NamedLaws.{func_is_named}
use Rattle.flow.proofs.finding.functions_are_named.Goals as goal

pub returns : goal.returns
returns c = func_is_named
