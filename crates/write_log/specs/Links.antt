-- One level of a log.
use Rattle.std.specs.Prelude.{[], ◌∷◌}
use Rattle.log_laws.specs.Logs.{Log}
use Rattle.write_log.specs.declared.trail.Node.{Node}
use Rattle.write_log.specs.declared.trail.Node.TheVariants.{Start, Newest}

abbrev pub log_of : {H : Type 0} → Node H → Log
log_of Start = []
log_of (Newest item older) = item ∷ older
