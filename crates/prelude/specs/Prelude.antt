-- The functions that have a body, in their order. A program holds those that its module calls behind its own, in this order.
use Rattle.std.specs.Prelude.{ℕ, ◌+◌, Bool, true, false, ◌==◌, ◌&&◌, List, [], ◌∷◌, Option, Some, None, if◌then◌else◌}
use Rattle.flat_ir.specs.declared.program.Func.{Func}
use Rattle.prelude.specs.Functions.{getchar, putchar, puts, calloc}
use Rattle.prelude.specs.Copying.{memset, memcpy, memcpy_intrinsic, memset_intrinsic}

abbrev pub functions : List Func
functions = getchar ∷ putchar ∷ puts ∷ memset ∷ memcpy ∷ calloc ∷ memcpy_intrinsic ∷ memset_intrinsic ∷ []

abbrev pub same : List ℕ → List ℕ → Bool
same [] [] = true
same [] (y ∷ ys) = false
same (x ∷ xs) [] = false
same (x ∷ xs) (y ∷ ys) = (x == y) && same xs ys

-- the place of the first function with this name among those, of which the first has place k
abbrev pub place_among : List ℕ → ℕ → List Func → Option ℕ
place_among name k [] = None
place_among name k (f ∷ fs) = if same name f.name then Some k else place_among name (k + 1) fs

-- the place of the function with this name, if there is one
abbrev pub place_of : List ℕ → Option ℕ
place_of name = place_among name 0 functions
