use Rattle.std.proofs.Common.{◌≡◌, drop}
use Rattle.log_laws.specs.Reading as reading
use Rattle.write_log.proofs.reading.scan.Given as goal

abbrev pub invariant-loop-k : goal.invariant-loop-k
invariant-loop-k g l = reading.or_else l.fn.chain (reading.scanned l.known l.at 0 l.bytes) ≡ reading.or_else l.chain (reading.scanned l.known l.at l.k (drop l.k l.bytes))
