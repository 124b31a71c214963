-- What was read is set.
use Rattle.std.proofs.Common.{◌≡◌, List, [], ◌∷◌, map, refl}
use Rattle.flat_ir.specs.declared.nodes.MoveSet.{MoveSet}
use Rattle.sym_states.specs.States.{Frame, State, set}
use Rattle.sym_states.specs.Terms.{value_in, set_all}
use Rattle.call_steps.specs.Moves.{all_set}

pub all_set-read : (s : State) (sets : List MoveSet) (frame : Frame) → all_set (map (λ m. (m.register, value_in s m.value)) sets) frame ≡ set_all s sets frame
all_set-read s [] frame = refl
all_set-read s (m ∷ sets) frame = all_set-read s sets (set m.register (value_in s m.value) frame)
