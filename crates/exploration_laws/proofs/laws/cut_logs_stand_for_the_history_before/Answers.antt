use Rattle.exploration_laws.proofs.Cuts.{cuts-stand}
use Rattle.exploration_laws.proofs.laws.cut_logs_stand_for_the_history_before.Goals as goal

pub returns : goal.returns
returns c = cuts-stand
