-- Why a file is refused, and the line that says it: the first of these that holds, in this order. Each says the byte, or the function and
-- node, at which it shows.
use Rattle.std.specs.Prelude.{◌≡◌, ◌⊎◌, ℕ, List, None, Some, Result, Ok, Err, Vec}
use Rattle.std.specs.declared.alloc.Global.{Global}
use Rattle.std.specs.declared.alloc.AllocError.{AllocError}
use Rattle.flat_ir.specs.declared.check.CheckError.{CheckError}
use Rattle.flat_ir.specs.declared.names.FuncId.{FuncId}
use Rattle.flat_ir.specs.declared.names.Location.{Location}
use Rattle.flat_ir.specs.declared.program.ProgramData.{ProgramData}
use Rattle.checks.specs.Errors.{IsFirstOf}
use Rattle.ir_tree.specs.declared.module.IrTree.{IrTree}
use Rattle.ir_reader.specs.declared.text.SyntaxError.{SyntaxError}
use Rattle.ir_reader.specs.Reading as reading
use Rattle.ir_reader.specs.Reading.{IsReadAs}
use Rattle.ir_programs.specs.Answers.{Resolved, answer}
use Rattle.ir_resolve.specs.declared.error.ResolveError.{ResolveError}
use Rattle.ir_resolve.specs.Resolving as resolving
use Rattle.refusal_lines.specs.Refusals.{misread_line, unresolved_line, unchecked_line}
use Rattle.chop_words.specs.declared.options.Options.{Options}
use Rattle.chop_words.specs.Words.{Wanted, Explored, Ran, Printed, Sited, Sliced}
use Rattle.slice_lines.specs.Targets.{function_named, location_named, unknown_line}
use Rattle.chop_top.specs.declared.accepting.Stop.{Stop}
use Rattle.chop_top.specs.declared.accepting.Stop.TheVariants.{Line, Memory}
use Rattle.chop_top.specs.Accepted.{Reads}

-- the bytes are no module: the first token that stands in none after those before it
pub record IsMisread (bytes written : List ℕ) : Type 0 where
  pub error : SyntaxError
  pub says : reading.Says bytes error
  pub line : misread_line error ≡ Some written

-- the tree has no program: its first refusal in the order of the text, or that it has no main
pub record IsUnresolvedTree (tree : IrTree) (written : List ℕ) : Type 0 where
  pub error : ResolveError
  pub says : resolving.Says tree error
  pub line : unresolved_line error ≡ Some written

-- the program doesn't meet its conditions: the first node at which one fails
pub record IsUncheckedProgram (p : ProgramData) (written : List ℕ) : Type 0 where
  pub error : CheckError
  pub first : IsFirstOf p.funcs error
  pub line : written ≡ unchecked_line p error

pub record IsUnresolved (bytes written : List ℕ) : Type 0 where
  pub tree : IrTree
  pub read : IsReadAs bytes tree
  pub unresolved : IsUnresolvedTree tree written

pub record IsUnchecked (bytes written : List ℕ) : Type 0 where
  pub tree : IrTree
  pub program : ProgramData
  pub read : IsReadAs bytes tree
  pub resolves : answer tree ≡ Resolved program
  pub unchecked : IsUncheckedProgram program written

-- the bytes are the text of no program
pub data IsUnaccepted (bytes written : List ℕ) : Type 0 where
  misread : IsMisread bytes written → IsUnaccepted bytes written
  unresolved : IsUnresolved bytes written → IsUnaccepted bytes written
  unchecked : IsUnchecked bytes written → IsUnaccepted bytes written

-- a word names no function that the text defines; or, where the other does, no location at the end of that function's calls
pub data IsUnknown (p : ProgramData) (function location word : List ℕ) : Type 0 where
  no_function : function_named p function ≡ None → word ≡ function → IsUnknown p function location word
  no_location : (f : FuncId) → function_named p function ≡ Some f → location_named p f location ≡ None → word ≡ location → IsUnknown p function location word

pub record IsUnknownTarget (function location bytes written : List ℕ) : Type 0 where
  pub program : ProgramData
  pub reads : Reads bytes program
  pub word : List ℕ
  pub unknown : IsUnknown program function location word
  pub line : written ≡ unknown_line word

-- the words name a function that the text defines and a location at the end of its calls
pub record IsKnown (p : ProgramData) (function location : List ℕ) : Type 0 where
  pub func : FuncId
  pub named : function_named p function ≡ Some func
  pub at' : Location
  pub place : location_named p func location ≡ Some at'

-- what is wanted can't be done with the bytes
abbrev pub IsRefusalOf : Wanted → List ℕ → List ℕ → Type 0
IsRefusalOf (Explored options file) bytes written = IsUnaccepted bytes written
IsRefusalOf (Ran input steps file) bytes written = IsUnaccepted bytes written
IsRefusalOf (Printed file) bytes written = IsUnaccepted bytes written
IsRefusalOf (Sited file) bytes written = IsUnaccepted bytes written
IsRefusalOf (Sliced file function location) bytes written = IsUnaccepted bytes written ⊎ IsUnknownTarget function location bytes written

-- what the words name in the program is there
abbrev pub HasTarget : Wanted → ProgramData → Type 0
HasTarget (Explored options file) p = Unit {0}
HasTarget (Ran input steps file) p = Unit {0}
HasTarget (Printed file) p = Unit {0}
HasTarget (Sited file) p = Unit {0}
HasTarget (Sliced file function location) p = IsKnown p function location

-- a line to stop with, or that memory ran out
abbrev pub stop_of : Result (Vec ℕ Global) AllocError → Stop
stop_of (Ok text) = Line text
stop_of (Err e) = Memory

-- what the code stops with has a line of which this is said, or memory ran out
abbrev pub StopsAs : (List ℕ → Type 0) → Stop → Type 0
StopsAs P (Line text) = P text.items
StopsAs P Memory = Unit {0}
