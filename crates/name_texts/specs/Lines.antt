-- Lines of text, and the names of a program that stand in them.
use Rattle.std.specs.Prelude.{ℕ, List, [], ◌∷◌, ◌++◌, Option, Some, None, codes, slice_get}
use Rattle.std.specs.Fmt.{decimal}
use Rattle.ir_tree.specs.Texts.{name_text, global_text, local_text}
use Rattle.flat_ir.specs.declared.names.FuncId.{FuncId}
use Rattle.flat_ir.specs.declared.names.NodeId.{NodeId}
use Rattle.flat_ir.specs.declared.names.RegId.{RegId}
use Rattle.flat_ir.specs.declared.program.Func.{Func}
use Rattle.flat_ir.specs.declared.program.GlobalVar.{GlobalVar}
use Rattle.flat_ir.specs.declared.program.ProgramData.{ProgramData}
use Rattle.flat_ir.specs.Machine.{func_at}

-- these pieces one after another, and a line feed
abbrev pub line : List (List ℕ) → List ℕ
line [] = 10 ∷ []
line (piece ∷ pieces) = piece ++ line pieces

-- a function's name, with quotes if it needs them
abbrev pub named : Option Func → List ℕ
named None = []
named (Some f) = name_text f.name

abbrev pub function_text : ProgramData → FuncId → List ℕ
function_text p f = named (func_at p f)

-- a node, by its function's name and its number
abbrev pub place_text : ProgramData → FuncId → NodeId → List ℕ
place_text p f n = function_text p f ++ (codes ":" ++ decimal n.0)

-- a global's name, behind its sign
abbrev pub global_named : Option GlobalVar → List ℕ
global_named None = []
global_named (Some g) = global_text g.name

-- a register's name, behind its sign
abbrev pub register_named : Option (List ℕ) → List ℕ
register_named None = []
register_named (Some name) = local_text name

abbrev pub register_in : Option Func → RegId → List ℕ
register_in None r = []
register_in (Some f) r = register_named (slice_get f.reg_names r.0)

-- the name of a register of a function
abbrev pub register_text : ProgramData → FuncId → RegId → List ℕ
register_text p f r = register_in (func_at p f) r
