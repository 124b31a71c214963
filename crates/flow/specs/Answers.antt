-- What the search answers.
use Rattle.std.specs.Prelude.{◌≡◌, ◌↔◌, Option, Some}
use Rattle.flat_ir.specs.declared.names.NodeId.{NodeId}
use Rattle.flat_ir.specs.declared.names.RegId.{RegId}
use Rattle.flat_ir.specs.declared.program.Func.{Func}
use Rattle.flow.specs.declared.undefined.Undefined.{Undefined}
use Rattle.flow.specs.Flow.{IsFirst}

-- the answer names a node and a register exactly where they are the first that are undefined
abbrev pub NamesFirst : Func → Option Undefined → Type 0
NamesFirst f found = (n : NodeId) (r : RegId) → (found ≡ Some (record { node = n; register = r })) ↔ IsFirst f n r
