-- The run of a program on an input.
use Rattle.std.specs.Prelude.{◌≡◌, refl, ℕ, zero, suc, List}
use Rattle.flat_ir.specs.declared.program.ProgramData.{ProgramData}
use Rattle.flat_ir.specs.Machine.{State, Run, On, Over, Event, state_of, start, node_at, counted}
use Rattle.flat_ir.specs.Steps.{attempt, with_frame}

-- one node is executed, which counts it first
unfoldable pub step : ProgramData → List ℕ → State → Run
step p input s = attempt p input (node_at p s.frame.func s.frame.node) (with_frame (counted s.frame) s)

-- one node more, unless the run is over
abbrev pub goes_on : ProgramData → List ℕ → Run → Run
goes_on p input (On s) = step p input s
goes_on p input (Over e s) = Over e s

-- after at most n steps
unfoldable pub run : ProgramData → List ℕ → ℕ → Run
run p input zero = On (start p)
run p input (suc n) = goes_on p input (run p input n)

-- the events so far, the oldest first
abbrev pub trace : ProgramData → List ℕ → ℕ → List Event
trace p input n = (state_of (run p input n)).events

pub step-attempt : (p : ProgramData) (input : List ℕ) (s : State)
    → step p input s ≡ attempt p input (node_at p s.frame.func s.frame.node) (with_frame (counted s.frame) s)
unfolding step
step-attempt p input s = refl

pub run-zero : (p : ProgramData) (input : List ℕ) → run p input 0 ≡ On (start p)
unfolding run
run-zero p input = refl

pub run-suc : (p : ProgramData) (input : List ℕ) (n : ℕ) → run p input (suc n) ≡ goes_on p input (run p input n)
unfolding run
run-suc p input n = refl
