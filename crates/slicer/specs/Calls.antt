-- The calls of a program, from function to function.
use Rattle.std.specs.Prelude.{ℕ, ◌+◌, List, [], ◌∷◌, ◌++◌, Option, None, Some}
use Rattle.std.specs.List.{flat_map}
use Rattle.flat_ir.specs.declared.names.FuncId.{FuncId}
use Rattle.flat_ir.specs.declared.nodes.Node.{Node}
use Rattle.flat_ir.specs.declared.program.Func.{Func}
use Rattle.points_to.specs.Within.{callee_of}
use Rattle.slicer.specs.declared.reaching.Arrow.{Arrow}

abbrev pub call_if : ℕ → Option FuncId → List Arrow
call_if caller None = []
call_if caller (Some callee) = record { from = caller; to = callee.0 } ∷ []

-- by the nodes of a function
abbrev pub calls_from : ℕ → List Node → List Arrow
calls_from caller nodes = flat_map (λ x. call_if caller (callee_of x)) nodes

-- by the functions, from the k-th on
abbrev pub calls_by_funcs : ℕ → List Func → List Arrow
calls_by_funcs k [] = []
calls_by_funcs k (f ∷ fs) = calls_from k f.nodes ++ calls_by_funcs (k + 1) fs
