-- What each status of the top call says.
use Rattle.std.specs.Prelude.{◌≡◌, ◌⊎◌, ℕ, ◌<◌, ◌≤◌, List, [], length, codes, Some, None, IfSome, string_bytes, String, Result, Ok, Err, Vec}
use Rattle.std.specs.declared.alloc.Global.{Global}
use Rattle.std.specs.declared.alloc.AllocError.{AllocError}
use Rattle.flat_ir.specs.declared.program.ProgramData.{ProgramData}
use Rattle.chop_outside.specs.Reading.{FilesState, ReadWhole, contents_of}
use Rattle.chop_outside.specs.Writing.{SinkState, Appends, WrotePrefix}
use Rattle.chop_words.specs.declared.options.Options.{Options}
use Rattle.chop_words.specs.Words.{Wanted, Explored, Ran, Printed, Sited, Sliced, file_of, wanted, usage_line}
use Rattle.leaf_lines.specs.Report.{report_of}
use Rattle.leaves.specs.declared.options.Options as leaves
use Rattle.leaves.specs.Events.{Leaf}
use Rattle.right_leaves.specs.Right.{AreRight}
use Rattle.sym_machine.specs.Explored.{AreLeaves}
use Rattle.ir_tree.specs.declared.module.IrTree.{IrTree}
use Rattle.ir_tree.specs.Printing.{printed}
use Rattle.refusal_lines.specs.Refusals.{refused}
use Rattle.run_lines.specs.Runs.{IsRunText}
use Rattle.site_lines.specs.Sites.{IsSitesText}
use Rattle.slice_lines.specs.Slices.{IsSliceText}
use Rattle.chop_top.specs.declared.top.Status.{Status}
use Rattle.chop_top.specs.declared.top.Status.TheVariants.{Done, Usage, Refused, Memory, ReadFault, WriteFault}
use Rattle.chop_top.specs.declared.top.Answer.{Answer}
use Rattle.chop_top.specs.declared.top.Answer.TheVariants as answer
use Rattle.chop_top.specs.Accepted.{IsTextOf, Reads}
use Rattle.chop_top.specs.Refusals.{IsRefusalOf, HasTarget, IsKnown}

-- the most bytes that are read
abbrev pub limit : ℕ
limit = 16777216

-- how far an exploration goes by the options of the words, and what it tells; it has one worker
abbrev pub exploration : Options → leaves.Options
exploration o = record { input = o.input; steps = o.steps; leaves = o.leaves; shares = o.shares; workers = 1; trace = o.trace; conditions = o.conditions }

-- one call of the top: its words, and the files before and after it
pub record Reading : Type 0 where
  pub words : List (List ℕ)
  pub before : FilesState
  pub after : FilesState

-- A text is the report of the exploration of the program that the bytes are the text of, with no call skipped. The leaves split the
-- inputs, each is right of the runs of the whole program on the inputs that it stands for, and an input that is kept is the least of
-- these.
pub record IsReportOf (options : Options) (bytes written : List ℕ) : Type 0 where
  pub program : ProgramData
  pub reads : Reads bytes program
  pub leaves : List Leaf
  pub explores : AreLeaves program (exploration options) leaves
  pub right : AreRight program options.input leaves
  pub report : written ≡ report_of program (exploration options) [] leaves

-- a text is the line of the run on an input of the program that the bytes are the text of, for no more than so many steps
pub record IsRunOf (input : List ℕ) (steps : ℕ) (bytes written : List ℕ) : Type 0 where
  pub program : ProgramData
  pub reads : Reads bytes program
  pub line : IsRunText program input steps written

-- a text is that of the tree of bytes that are accepted, printed anew
pub record IsPrintOf (bytes written : List ℕ) : Type 0 where
  pub tree : IrTree
  pub program : ProgramData
  pub accepted : IsTextOf bytes tree program
  pub print : written ≡ printed tree

-- a text has the lines of the sites and functions of the program that the bytes are the text of
pub record IsSitesOf (bytes written : List ℕ) : Type 0 where
  pub program : ProgramData
  pub reads : Reads bytes program
  pub lines : IsSitesText program written

-- a text has the lines of the slice, for the location that a word names, of the function that a word names, of the program that the bytes are
-- the text of
pub record IsSliceOf (function location bytes written : List ℕ) : Type 0 where
  pub program : ProgramData
  pub reads : Reads bytes program
  pub known : IsKnown program function location
  pub lines : IsSliceText program known.func known.at' written

-- what is wanted of the bytes is done
abbrev pub IsDoneOf : Wanted → List ℕ → List ℕ → Type 0
IsDoneOf (Explored options file) bytes written = IsReportOf options bytes written
IsDoneOf (Ran input steps file) bytes written = IsRunOf input steps bytes written
IsDoneOf (Printed file) bytes written = IsPrintOf bytes written
IsDoneOf (Sited file) bytes written = IsSitesOf bytes written
IsDoneOf (Sliced file function location) bytes written = IsSliceOf function location bytes written

-- the file that the words name was read to its end, and what is said of its bytes holds
pub record OfFile (P : Wanted → List ℕ → Type 0) (r : Reading) : Type 0 where
  pub asked : Wanted
  pub named : wanted r.words ≡ Some asked
  pub bytes : List ℕ
  pub read : ReadWhole (file_of asked) bytes limit r.before r.after
  pub holds : P asked bytes

-- the words aren't in the table, and no file was asked for
pub record IsUsage (r : Reading) (written : List ℕ) : Type 0 where
  pub none : wanted r.words ≡ None
  pub untouched : r.after ≡ r.before
  pub line : written ≡ usage_line r.words

-- more bytes were read than the limit, and where the file is told it has more
pub record IsTooLarge (r : Reading) (written : List ℕ) : Type 0 where
  pub asked : Wanted
  pub named : wanted r.words ≡ Some asked
  pub more : limit < r.after.count
  pub told : IfSome (contents_of r.before.named (file_of asked)) (λ contents. limit < length contents)
  pub line : written ≡ refused (codes "TooLarge")

-- a call on the files failed, which was asked for the file that the words name
pub record IsReadFault (r : Reading) : Type 0 where
  pub asked : Wanted
  pub named : wanted r.words ≡ Some asked
  pub opened : r.after.asked ≡ Some (file_of asked)
  pub fault : r.before.faults < r.after.faults

-- what may be written under a status, all of it
abbrev pub Text : Status → Reading → List ℕ → Type 0
Text Done r written = OfFile (λ asked bytes. IsDoneOf asked bytes written) r
Text Usage r written = IsUsage r written
Text Refused r written = IsTooLarge r written ⊎ OfFile (λ asked bytes. IsRefusalOf asked bytes written) r
Text Memory r written = ⊥
Text ReadFault r written = ⊥
Text WriteFault r written = ⊥

-- what is to be written, under which status, or why nothing is
abbrev pub Answered : Answer → Reading → Type 0
Answered (answer.Text status written) r = Text status r written.items
Answered answer.ReadFault r = IsReadFault r
Answered answer.Memory r = Unit {0}

-- the same of the bytes of a file that was read
abbrev pub Judged : Answer → Wanted → List ℕ → Type 0
Judged (answer.Text Done written) asked bytes = IsDoneOf asked bytes written.items
Judged (answer.Text Refused written) asked bytes = IsRefusalOf asked bytes written.items
Judged answer.Memory asked bytes = Unit {0}
Judged _ asked bytes = ⊥

-- the whole of it was written, without a fault
pub record Wrote (status : Status) (r : Reading) (old new : SinkState) : Type 0 where
  pub text : List ℕ
  pub means : Text status r text
  pub written : Appends text old new
  pub faults : new.faults ≡ old.faults

-- a call on the sink failed, and a prefix of what was to be written stands there
pub record IsWriteFault (r : Reading) (old new : SinkState) : Type 0 where
  pub status : Status
  pub text : List ℕ
  pub means : Text status r text
  pub prefix : WrotePrefix old new text
  pub fault : old.faults < new.faults

pub record IsReadFaultQuiet (r : Reading) (old new : SinkState) : Type 0 where
  pub fault : IsReadFault r
  pub nothing : new ≡ old

-- what a status says
abbrev pub Outcome : Status → Reading → SinkState → SinkState → Type 0
Outcome Done r old new = Wrote Done r old new
Outcome Usage r old new = Wrote Usage r old new
Outcome Refused r old new = Wrote Refused r old new
Outcome Memory r old new = new ≡ old
Outcome ReadFault r old new = IsReadFaultQuiet r old new
Outcome WriteFault r old new = IsWriteFault r old new

-- a file of told bytes that are the text of a program, which the words name, and in which they name what there is
pub record IsAccepted (r : Reading) : Type 0 where
  pub asked : Wanted
  pub named : wanted r.words ≡ Some asked
  pub bytes : List ℕ
  pub told : contents_of r.before.named (file_of asked) ≡ Some bytes
  pub short : length bytes ≤ limit
  pub program : ProgramData
  pub reads : Reads bytes program
  pub target : HasTarget asked program

-- Where the file is accepted and no call failed, the status is Done, or memory ran out.
abbrev pub IsComplete : Status → Reading → SinkState → SinkState → Type 0
IsComplete status r old new =
    IsAccepted r → r.after.faults ≡ r.before.faults → new.faults ≡ old.faults → (status ≡ Done) ⊎ (status ≡ Memory)

abbrev pub text_or_memory : Status → Result (Vec ℕ Global) AllocError → Answer
text_or_memory status (Ok written) = answer.Text status written
text_or_memory status (Err e) = answer.Memory

-- a line's bytes are written, or memory ran out
abbrev pub IsLine : Status → Result (String Global) AllocError → Answer → Type 0
IsLine status (Ok line) a = (written : Vec ℕ Global) × (a ≡ answer.Text status written) × (written.items ≡ string_bytes line)
IsLine status (Err e) a = a ≡ answer.Memory
