-- What words name: a function that the text defines, or a location at the end of its calls. A name names what has its bytes as its name.
--
--     cells:SITE  life:SITE  input  output  result
--
-- A SITE is `@` with a global's name; or a function's name, a colon and the number of a node that makes objects.
use Rattle.std.specs.Prelude.{ℕ, ◌+◌, List, [], ◌∷◌, ◌++◌, take, Option, Some, None, if◌then◌else◌, codes, slice_get}
use Rattle.std.specs.Str.{bytes_eq}
use Rattle.std.specs.Fmt.{decimal}
use Rattle.flat_ir.specs.declared.names.FuncId.{FuncId}
use Rattle.flat_ir.specs.declared.names.Site.{Site}
use Rattle.flat_ir.specs.declared.names.Site.TheVariants as site
use Rattle.flat_ir.specs.declared.names.Location.{Location}
use Rattle.flat_ir.specs.declared.names.Location.TheVariants as location
use Rattle.flat_ir.specs.declared.nodes.RegType.{RegType}
use Rattle.flat_ir.specs.declared.program.Func.{Func}
use Rattle.flat_ir.specs.declared.program.GlobalVar.{GlobalVar}
use Rattle.flat_ir.specs.declared.program.ProgramData.{ProgramData}
use Rattle.flat_ir.specs.Machine.{func_at}
use Rattle.mod_ref.specs.Sites.{locations}

-- the first of these functions that has this name; they are the program's from the k-th on
abbrev pub function_from : ℕ → List ℕ → List Func → Option FuncId
function_from k name [] = None
function_from k name (f ∷ fs) = if bytes_eq f.name name then Some (record { 0 = k }) else function_from (k + 1) name fs

-- the function with this name that the text defines; it defines one at most
abbrev pub function_named : ProgramData → List ℕ → Option FuncId
function_named p name = function_from 0 name (take p.defined p.funcs)

abbrev pub global_name : Option GlobalVar → List ℕ
global_name None = []
global_name (Some g) = g.name

abbrev pub function_name : Option Func → List ℕ
function_name None = []
function_name (Some f) = f.name

-- the word of a site
abbrev pub site_word : ProgramData → Site → List ℕ
site_word p (site.Global g) = codes "@" ++ global_name (slice_get p.globals g)
site_word p (site.Node f n) = function_name (func_at p f) ++ (codes ":" ++ decimal n.0)

-- the word of a location
abbrev pub location_word : ProgramData → Location → List ℕ
location_word p (location.Cells s) = codes "cells:" ++ site_word p s
location_word p (location.Life s) = codes "life:" ++ site_word p s
location_word p location.Input = codes "input"
location_word p location.Output = codes "output"
location_word p location.Result = codes "result"

abbrev pub result_if : Option RegType → List Location
result_if None = []
result_if (Some t) = location.Result ∷ []

abbrev pub result_of : Option Func → List Location
result_of None = []
result_of (Some f) = result_if f.result

-- the locations that may be asked for: those of the program, and the result of a function that has one
abbrev pub targets : ProgramData → FuncId → List Location
targets p f = locations p ++ result_of (func_at p f)

-- the first of these locations whose word this is
abbrev pub location_in : ProgramData → List ℕ → List Location → Option Location
location_in p word [] = None
location_in p word (l ∷ ls) = if bytes_eq (location_word p l) word then Some l else location_in p word ls

-- the location that a word names at the end of a function's calls
abbrev pub location_named : ProgramData → FuncId → List ℕ → Option Location
location_named p f word = location_in p word (targets p f)

-- the line of a word that names nothing
abbrev pub unknown_line : List ℕ → List ℕ
unknown_line word = codes "refused UnknownTarget " ++ (word ++ 10 ∷ [])
