use Rattle.whole_programs.proofs.programs_without_refusals_are_whole.Goals as goal
use Rattle.whole_programs.proofs.Law.{whole}

pub returns : goal.returns
returns c = record { whole = whole }
