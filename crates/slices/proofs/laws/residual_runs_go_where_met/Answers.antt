use Rattle.slices.proofs.Slicing.{facts, goes}
use Rattle.slices.proofs.laws.residual_runs_go_where_met.Goals as goal

pub returns : goal.returns
returns c = λ p f l items slice ways nexts. goes p f l items (facts p f l _ items slice) ways nexts
