-- Registers that are set one after another.
use Rattle.std.specs.Prelude.{List, [], ◌∷◌}
use Rattle.flat_ir.specs.declared.names.RegId.{RegId}
use Rattle.sym_bytes.specs.Value.{SymValue}
use Rattle.sym_states.specs.States.{Frame, set}

abbrev pub all_set : List (RegId × SymValue) → Frame → Frame
all_set [] frame = frame
all_set (pair ∷ pairs) frame = all_set pairs (set pair.0 pair.1 frame)
