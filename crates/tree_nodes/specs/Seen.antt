-- Parts as contracts see them.
use Rattle.ir_programs.specs.Addresses as addresses
use Rattle.tree_nodes.specs.declared.addresses.Part.{Part}

-- a part of a pointer, with the type behind its reference
abbrev pub part_seen : Part → addresses.Part
part_seen p = record { part = p.part; inner = p.inner.now }
