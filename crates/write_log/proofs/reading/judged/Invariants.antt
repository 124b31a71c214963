use Rattle.std.proofs.Common.{◌≡◌, ◌++◌, drop}
use Rattle.log_laws.specs.Reading as reading
use Rattle.write_log.proofs.reading.judged.Given as goal

abbrev pub invariant-loop-byte : goal.invariant-loop-byte
invariant-loop-byte g l = (l.j ≡ l.byte-index) × ((reading.sure_of l.known (reading.candidates_of l.at l.offset l.j (drop l.byte-index l.bytes)) ≡ reading.sure_of l.known (reading.candidates_of l.at l.offset 0 l.bytes)) × (l.open ++ reading.open_of l.known (reading.candidates_of l.at l.offset l.j (drop l.byte-index l.bytes)) ≡ reading.open_of l.known (reading.candidates_of l.at l.offset 0 l.bytes)))
