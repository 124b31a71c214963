use Rattle.slices.proofs.Slicing.{facts}
use Rattle.slices.proofs.laws.slices_have_facts.Goals as goal

pub returns : goal.returns
returns c = λ p f l items slice. facts p f l _ items slice
