-- What is printed is read again.
use Rattle.std.specs.Prelude.{◌≡◌, ℕ, true, List}
use Rattle.ir_tree.specs.declared.module.IrTree.{IrTree}
use Rattle.ir_tree.specs.Places.{without_places}
use Rattle.ir_tree.specs.Printing.{printed}
use Rattle.ir_reader.specs.Reading.{IsReadAs}
use Rattle.printed_again.specs.Again.{are_bytes}

-- The tree of any text of bytes, printed, is a text again, and its tree is the same without regard to places.
abbrev pub IsReadAgain : Type 0
IsReadAgain = (bytes : List ℕ) (tree : IrTree) → are_bytes bytes ≡ true → IsReadAs bytes tree → (again : IrTree) × IsReadAs (printed tree) again × (without_places again ≡ without_places tree)
