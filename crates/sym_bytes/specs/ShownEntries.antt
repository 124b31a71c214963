-- What contracts see of the code's entries: the same, with no table of terms.
use Rattle.sym_bytes.specs.declared.entries.EntryKind.{EntryKind}
use Rattle.sym_bytes.specs.declared.entries.EntryKind.TheVariants as entry_kind
use Rattle.sym_bytes.specs.Entry as entry
use Rattle.sym_bytes.specs.Entry.{Entry}

abbrev pub entry_of_kind : {H : Type 0} → EntryKind H → Entry
entry_of_kind (entry_kind.Write x offset bytes) = entry.Write x offset bytes
entry_of_kind (entry_kind.Alloc x size) = entry.Alloc x size
entry_of_kind (entry_kind.Free x) = entry.Free x
entry_of_kind (entry_kind.Put t) = entry.Put t
entry_of_kind entry_kind.Get = entry.Get
