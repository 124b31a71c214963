use Rattle.std.proofs.Common.{length}
use Rattle.sym_bytes.specs.ShownAnswers.{join_of}
use Rattle.memory_steps.specs.Views.{bytes_seen}
use Rattle.memory_steps.proofs.Joined.{join-fits}
use Rattle.memory_steps.proofs.loading.join_read.Goals as goal

pub joins-requires-clause-join : goal.joins-requires-clause-join
joins-requires-clause-join g c κs within = join-fits (length c.args.read.state.kept) c.args.of (bytes_seen c.args.read) (join_of c.in_ok-joined.joined) c.in_ok-joined.ensures c.requires.short c.requires.fits
