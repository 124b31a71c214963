use Rattle.std.proofs.Common.{◌≡◌, ◌++◌, drop, List}
use Rattle.sym_bytes.specs.Entry.{Entry}
use Rattle.log_laws.specs.Reading as reading
use Rattle.log_laws.specs.Reading.{Chain}
use Rattle.write_log.proofs.reading.look_in_entries.Given as goal

abbrev pub invariant-loop-entry : goal.invariant-loop-entry
invariant-loop-entry g l = (es : List Entry) (last : Chain) → reading.or_else l.fn.chain (reading.chain_through l.known l.name l.at (l.entries ++ es) last) ≡ reading.or_else l.chain (reading.chain_through l.known l.name l.at (drop l.entry-index l.entries ++ es) last)
