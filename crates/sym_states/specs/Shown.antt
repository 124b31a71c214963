-- What contracts see of the code's callers: the same, with no table of terms.
use Rattle.std.specs.Prelude.{List, [], ◌∷◌}
use Rattle.sym_states.specs.declared.callers.Link.{Link}
use Rattle.sym_states.specs.declared.callers.Link.TheVariants.{First, Above}
use Rattle.sym_states.specs.States.{Frame}

abbrev pub frames_of : {H : Type 0} → Link H → List Frame
frames_of First = []
frames_of (Above frame older) = frame ∷ older
