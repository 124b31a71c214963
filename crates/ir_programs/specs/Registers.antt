-- Registers, blocks, globals and functions by their numbers.
use Rattle.std.specs.Prelude.{ℕ, Bool, List, ◌++◌, map, unwrap_or}
use Rattle.std.specs.List.{flat_map, filter}
use Rattle.flat_ir.specs.declared.names.FuncId.{FuncId}
use Rattle.flat_ir.specs.declared.names.RegId.{RegId}
use Rattle.flat_ir.specs.declared.program.Func.{Func}
use Rattle.ir_tree.specs.declared.module.FunctionDefinition.{FunctionDefinition}
use Rattle.ir_tree.specs.declared.module.IrTree.{IrTree}
use Rattle.prelude.specs.Prelude.{functions}
use Rattle.ir_programs.specs.Texts.{among, texts, number_among}
use Rattle.ir_programs.specs.Parts.{function_callees}
use Rattle.ir_programs.specs.Locals.{register_names}
use Rattle.ir_programs.specs.Uses.{global_names, function_names}

-- a tree without refusals defines each name that it uses, so that no default is met
abbrev pub number_of : List ℕ → List (List ℕ) → ℕ
number_of name names = unwrap_or (number_among 0 name names) 0

abbrev pub register_of : FunctionDefinition → List ℕ → RegId
register_of f name = record { 0 = number_of name (register_names f) }

abbrev pub global_of : IrTree → List ℕ → ℕ
global_of t name = number_of name (texts (global_names t))

abbrev pub is_called : IrTree → Func → Bool
is_called t g = among g.name (texts (flat_map function_callees t.functions))

-- the functions that the module calls without defining them, in their order
abbrev pub called : IrTree → List Func
called t = filter (is_called t) functions

-- the names of a program's functions: those that are defined, in the order of the text, and then those that are called
abbrev pub all_functions : IrTree → List (List ℕ)
all_functions t = texts (function_names t) ++ map (λ g. g.name) (called t)

abbrev pub function_of : IrTree → List ℕ → FuncId
function_of t name = record { 0 = number_of name (all_functions t) }
