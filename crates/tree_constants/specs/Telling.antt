-- What is told of one cause's places, one behind the other.
use Rattle.std.specs.Prelude.{ℕ, Bool, not, ◌||◌, List, map, Option}
use Rattle.std.specs.List.{filter}
use Rattle.ir_tree.specs.declared.constants.ConstIndex.{ConstIndex}
use Rattle.ir_tree.specs.declared.module.IrTree.{IrTree}
use Rattle.ir_programs.specs.declared.refusals.Cause.{Cause}
use Rattle.ir_programs.specs.declared.refusals.Refusal.{Refusal}
use Rattle.ir_programs.specs.Constants.{fits_width}
use Rattle.ir_programs.specs.Refusals.{merged, first, refused}
use Rattle.ir_programs.specs.Uses.{is_global, is_function}

-- what is told once a cause is found at these places
abbrev pub told_at : Cause → Option Refusal → List ℕ → Option Refusal
told_at cause told places = merged told (first (refused cause places))

-- a global or a function of the tree, or a known function
abbrev pub is_known : IrTree → List ℕ → Bool
is_known t name = is_global t name || is_function t name

-- an index has as many bits as are written
abbrev pub index_fits : ConstIndex → Bool
index_fits i = fits_width i.width i.value

-- the places of the indices that have more bits
abbrev pub wide_among : List ConstIndex → List ℕ
wide_among is = map (λ i. i.at) (filter (λ i. not (index_fits i)) is)
