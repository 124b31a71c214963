-- The line of a run: how it ended, what it had written out, and how many nodes were attempted.
use Rattle.std.specs.Prelude.{◌≡◌, ℕ, List, [], ◌∷◌, ◌++◌, codes}
use Rattle.std.specs.Fmt.{decimal}
use Rattle.flat_ir.specs.declared.names.FuncId.{FuncId}
use Rattle.flat_ir.specs.declared.names.NodeId.{NodeId}
use Rattle.flat_ir.specs.declared.program.ProgramData.{ProgramData}
use Rattle.flat_ir.specs.declared.values.FaultKind.{FaultKind}
use Rattle.concrete_machine.specs.declared.running.Outcome.{Outcome}
use Rattle.concrete_machine.specs.declared.running.Outcome.TheVariants as outcome
use Rattle.concrete_machine.specs.declared.running.RunEnd.{RunEnd}
use Rattle.concrete_machine.specs.declared.running.RunEnd.TheVariants as ended
use Rattle.concrete_machine.specs.Running.{IsRunOf}
use Rattle.name_texts.specs.Lines.{line, place_text}
use Rattle.value_texts.specs.Values.{bytes_text, fault_text}

-- how each line ends
abbrev pub output_and_steps : List ℕ → ℕ → List ℕ
output_and_steps written steps = line (codes " output=" ∷ bytes_text written ∷ codes " steps=" ∷ decimal steps ∷ [])

-- the program ended
abbrev pub complete_line : ℕ → List ℕ → ℕ → List ℕ
complete_line status written steps = codes "complete status=" ++ (decimal status ++ output_and_steps written steps)

abbrev pub fault_and_place : ProgramData → FaultKind → FuncId → NodeId → List ℕ
fault_and_place p kind f n = codes "fault " ++ (fault_text kind ++ (codes " at=" ++ place_text p f n))

abbrev pub ended_line : ProgramData → Outcome → ℕ → List ℕ
ended_line p (outcome.Exit status written) steps = complete_line status written steps
ended_line p (outcome.Fault kind f n written) steps = fault_and_place p kind f n ++ output_and_steps written steps

-- all steps were attempted, and the run isn't over
abbrev pub spent_line : List ℕ → ℕ → List ℕ
spent_line written steps = codes "spent" ++ output_and_steps written steps

-- the line of a run of at most so many steps
abbrev pub run_line : ProgramData → ℕ → RunEnd → List ℕ
run_line p steps (ended.Ended shown attempted) = ended_line p shown attempted
run_line p steps (ended.Spent written) = spent_line written steps

-- this is the line of the program's run on the input, of which no more than so many nodes are attempted
pub record IsRunText (p : ProgramData) (input : List ℕ) (steps : ℕ) (written : List ℕ) : Type 0 where
  pub end : RunEnd
  pub runs : IsRunOf p input steps end
  pub is : written ≡ run_line p steps end
