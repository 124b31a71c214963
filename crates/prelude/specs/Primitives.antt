-- The functions whose call is a node of its own kind (ISO/IEC 9899, 7.22.3.4 malloc, 7.22.3.3 free, 7.22.4.4 exit, 7.22.4.1 abort; Linux
-- Standard Base, "__assert_fail"): their names, the types of their parameters, and their results.
use Rattle.std.specs.Prelude.{ℕ, List, [], ◌∷◌, Option, Some, None, codes, if◌then◌else◌}
use Rattle.flat_ir.specs.declared.nodes.RegType.{RegType}
use Rattle.flat_ir.specs.declared.nodes.RegType.TheVariants as type
use Rattle.prelude.specs.declared.primitives.Primitive.{Primitive}
use Rattle.prelude.specs.declared.primitives.Primitive.TheVariants.{Malloc, Free, Exit, Abort, AssertFail}
use Rattle.prelude.specs.Prelude.{same}

abbrev pub name_of : Primitive → List ℕ
name_of Malloc = codes "malloc"
name_of Free = codes "free"
name_of Exit = codes "exit"
name_of Abort = codes "abort"
name_of AssertFail = codes "__assert_fail"

-- the types of the parameters, in order
abbrev pub params_of : Primitive → List RegType
params_of Malloc = type.Int 64 ∷ []
params_of Free = type.Ptr ∷ []
params_of Exit = type.Int 32 ∷ []
params_of Abort = []
params_of AssertFail = type.Ptr ∷ type.Ptr ∷ type.Int 32 ∷ type.Ptr ∷ []

-- the type of the result, if there is one
abbrev pub result_of : Primitive → Option RegType
result_of Malloc = Some type.Ptr
result_of Free = None
result_of Exit = None
result_of Abort = None
result_of AssertFail = None

abbrev pub named_among : List ℕ → List Primitive → Option Primitive
named_among name [] = None
named_among name (p ∷ ps) = if same name (name_of p) then Some p else named_among name ps

-- the one with this name, if there is one
abbrev pub primitive_of : List ℕ → Option Primitive
primitive_of name = named_among name (Malloc ∷ Free ∷ Exit ∷ Abort ∷ AssertFail ∷ [])
