-- The report of an exploration: its options, the functions that were skipped, its leaves in order, and how many there are of each
-- kind. Each line ends with a line feed.
use Rattle.std.specs.Prelude.{ℕ, ◌+◌, ◌-◌, Bool, true, false, List, [], ◌∷◌, ◌++◌, length, count_by, codes, Option}
use Rattle.std.specs.List.{flat_map}
use Rattle.std.specs.Fmt.{decimal}
use Rattle.ir_tree.specs.Texts.{name_text}
use Rattle.terms.specs.Tree.{Tree}
use Rattle.flat_ir.specs.declared.names.FuncId.{FuncId}
use Rattle.flat_ir.specs.declared.names.NodeId.{NodeId}
use Rattle.flat_ir.specs.declared.program.ProgramData.{ProgramData}
use Rattle.flat_ir.specs.declared.values.FaultKind.{FaultKind}
use Rattle.sym_bytes.specs.Value.{SymValue}
use Rattle.leaves.specs.declared.options.Cause.{Cause}
use Rattle.leaves.specs.declared.options.Cause.TheVariants as cause
use Rattle.leaves.specs.declared.options.Options.{Options}
use Rattle.leaves.specs.Events.{Event, Branch, Load, Told, Leaf, Complete, Fault, Skipped, Open, Done, told_of}
use Rattle.name_texts.specs.Lines.{line, place_text}
use Rattle.value_texts.specs.Values.{fault_text}
use Rattle.leaf_lines.specs.Terms.{term_text}
use Rattle.leaf_lines.specs.Values.{number_text, input_text, output_text, with_results, value_text}

-- what was asked for: bytes of input, steps of a path, conflicts of a decision, shares of leaves
abbrev pub options_line : Options → List ℕ
options_line o =
    line (codes "options input=" ∷ decimal o.input ∷ codes " steps=" ∷ decimal o.steps ∷ codes " leaves=" ∷ decimal o.leaves
    ∷ codes " shares=" ∷ decimal o.shares ∷ [])

-- a function whose calls are skipped
abbrev pub skip_line : List ℕ → List ℕ
skip_line name = line (codes "skip " ∷ name_text name ∷ [])

-- ---- how a leaf ends, behind its number

-- why the exploration stopped
abbrev pub cause_text : Cause → List ℕ
cause_text cause.Steps = codes "steps"
cause_text cause.Solver = codes "solver"
cause_text cause.Shares = codes "shares"

-- a fault and the node that has it
abbrev pub fault_and_place : ProgramData → FaultKind → FuncId → NodeId → List ℕ
fault_and_place p kind f n = fault_text kind ++ (codes " at=" ++ place_text p f n)

-- the kept input
abbrev pub spaced_input : Option (List ℕ) → List ℕ
spaced_input kept = codes " input=" ++ input_text kept

-- what was written out under it
abbrev pub spaced_output : Option (List ℕ) → List Tree → List ℕ
spaced_output kept written = codes " output=" ++ output_text kept written

-- the program ends with a status
abbrev pub complete_text : Option (List ℕ) → Tree → List Tree → List ℕ
complete_text kept status written =
    codes " complete" ++ (spaced_input kept ++ (codes " status=" ++ (number_text kept status ++ spaced_output kept written)))

-- the exploration stopped
abbrev pub open_text : Option (List ℕ) → Cause → List ℕ
open_text kept why = codes " open " ++ (cause_text why ++ spaced_input kept)

-- A recovery's end is a leaf of that recovery, and never of a whole exploration. As one it would be told as done.
abbrev pub done_text : Option (List ℕ) → List ℕ
done_text kept = codes " done" ++ spaced_input kept

-- how a leaf ends; a skipped call that has a fault is told with it
abbrev pub end_text : ProgramData → Leaf → List ℕ
end_text p (Complete told status written) = complete_text told.kept status written
end_text p (Fault told kind f n written) = codes " fault " ++ (fault_and_place p kind f n ++ (spaced_input told.kept ++ spaced_output told.kept written))
end_text p (Skipped told kind f n) = codes " skipped " ++ (fault_and_place p kind f n ++ spaced_input told.kept)
end_text p (Open told why) = open_text told.kept why
end_text p (Done told entries result) = done_text told.kept

-- the steps that were taken, with which the line ends
abbrev pub steps_text : ℕ → List ℕ
steps_text steps = line (codes " steps=" ∷ decimal steps ∷ [])

-- ---- what stands below a leaf's line

-- the side that a branch or a switch took, numbered from 0 as the node's successors are
abbrev pub branch_line : ProgramData → FuncId → NodeId → ℕ → List ℕ
branch_line p f n side = line (codes "  branch " ∷ place_text p f n ∷ codes " " ∷ decimal side ∷ [])

-- the value that a load gave
abbrev pub load_line : ProgramData → Option (List ℕ) → FuncId → NodeId → SymValue → List ℕ
load_line p kept f n v = line (codes "  load " ∷ place_text p f n ∷ codes " " ∷ value_text p kept v ∷ [])

-- a load's value has the recovered results in it
abbrev pub event_line : ProgramData → Told → Event → List ℕ
event_line p told (Branch f n side) = branch_line p f n side
event_line p told (Load f n v) = load_line p told.kept f n (with_results told.results v)

-- one conjunct of a condition
abbrev pub conjunct_line : Tree → List ℕ
conjunct_line t = line (codes "  when " ∷ term_text t ∷ [])

-- the branches and loads in order, where they are asked for
abbrev pub trace_lines : Bool → ProgramData → Told → List ℕ
trace_lines true p told = flat_map (event_line p told) told.path
trace_lines false p told = []

-- the conjuncts in order, where they are asked for
abbrev pub condition_lines : Bool → List Tree → List ℕ
condition_lines true conjuncts = flat_map conjunct_line conjuncts
condition_lines false conjuncts = []

-- a leaf, by its number: its line, its events, and its condition
abbrev pub leaf_lines : ProgramData → Options → ℕ → Leaf → List ℕ
leaf_lines p o k leaf =
    decimal k ++ (end_text p leaf ++ (steps_text (o.steps - (told_of leaf).left)
    ++ (trace_lines o.trace p (told_of leaf) ++ condition_lines o.conditions (told_of leaf).condition)))

-- leaves, numbered from k on
abbrev pub leaves_from : ProgramData → Options → ℕ → List Leaf → List ℕ
leaves_from p o k [] = []
leaves_from p o k (leaf ∷ leaves) = leaf_lines p o k leaf ++ leaves_from p o (k + 1) leaves

-- ---- the last line

-- the kinds of leaves that are counted
abbrev pub is_complete : Leaf → Bool
is_complete (Complete told status written) = true
is_complete _ = false

abbrev pub is_fault : Leaf → Bool
is_fault (Fault told kind f n written) = true
is_fault _ = false

abbrev pub is_skipped : Leaf → Bool
is_skipped (Skipped told kind f n) = true
is_skipped _ = false

abbrev pub is_open : Leaf → Bool
is_open (Open told why) = true
is_open _ = false

-- how many leaves there are, and how many of each kind
abbrev pub total_line : List Leaf → List ℕ
total_line leaves =
    line (codes "total " ∷ decimal (length leaves) ∷ codes " complete " ∷ decimal (count_by is_complete leaves)
    ∷ codes " fault " ∷ decimal (count_by is_fault leaves) ∷ codes " skipped " ∷ decimal (count_by is_skipped leaves)
    ∷ codes " open " ∷ decimal (count_by is_open leaves) ∷ [])

-- the options, the names of the skipped functions, the leaves numbered from 1, and their numbers
abbrev pub report_of : ProgramData → Options → List (List ℕ) → List Leaf → List ℕ
report_of p o skips leaves = options_line o ++ (flat_map skip_line skips ++ (leaves_from p o 1 leaves ++ total_line leaves))
