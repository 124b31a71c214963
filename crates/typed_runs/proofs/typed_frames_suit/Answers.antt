use Rattle.typed_runs.proofs.Suited.{frame_suits}
use Rattle.typed_runs.proofs.typed_frames_suit.Goals as goal

pub returns : goal.returns
returns c = frame_suits
