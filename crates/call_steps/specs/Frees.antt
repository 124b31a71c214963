-- Entries that are appended to a memory one after another.
use Rattle.std.specs.Prelude.{List, ◌++◌, map, reverse}
use Rattle.sym_bytes.specs.Entry.{Entry}
use Rattle.log_laws.specs.Logs.{Did}
use Rattle.write_log.specs.Memory.{Memory, with_log}

-- the memory with the entries, the last of them the newest
abbrev pub with_frees : List Entry → Memory → Memory
with_frees es m = with_log (map Did (reverse es) ++ m.log) m
