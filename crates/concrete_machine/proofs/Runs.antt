-- How the steps of the machine make up the run.
use Rattle.std.proofs.Common.{◌≡◌, ℕ, ◌+◌, List, refl, sym, ◌∙◌, ap, add-one}
use Rattle.flat_ir.specs.declared.program.ProgramData.{ProgramData}
use Rattle.flat_ir.specs.declared.values.FaultKind.{FaultKind}
use Rattle.flat_ir.specs.Machine as run
use Rattle.flat_ir.specs.Machine.{State, Run}
use Rattle.flat_ir.specs.Run.{run as run_of, step, goes_on, run-suc}
use Rattle.concrete_machine.specs.declared.machine.Led.TheVariants.{On, Exited, Faulted}
use Rattle.concrete_machine.specs.declared.machine.Machine.{Machine}
use Rattle.concrete_machine.specs.Running.{EndsIn, outcome_of}
use Rattle.concrete_machine.specs.Standing.{Leads}
use Rattle.concrete_machine.specs.Stepping.{IsAt, StepsAs}

next_run : (p : ProgramData) (input : List ℕ) (done : ℕ) (s : State) → run_of p input done ≡ run.On s → run_of p input (done + 1) ≡ step p input s
next_run p input done s at = ap (run_of p input) (add-one done) ∙ (run-suc p input done ∙ ap (goes_on p input) at)

pub stays_at : (p : ProgramData) (input : List ℕ) (done : ℕ) (old new : Machine) → IsAt p input done old → StepsAs p input old new On → IsAt p input (done + 1) new
stays_at p input done old new at leads = after (step p input at.state) (next_run p input done at.state at.goes_on) (leads at.state at.stands)
  where
    after : (r : Run) → run_of p input (done + 1) ≡ r → Leads p input new On r → IsAt p input (done + 1) new
    after (run.On s) e stands = record { state = s; goes_on = e; stands = stands }
    after (run.Over end s) e stands = absurd stands

pub exits : (p : ProgramData) (input : List ℕ) (done : ℕ) (old new : Machine) (status : ℕ) → IsAt p input done old → StepsAs p input old new (Exited status)
    → EndsIn p input (done + 1) (outcome_of (run.Exited status) new.output)
exits p input done old new status at leads = after (step p input at.state) (next_run p input done at.state at.goes_on) (leads at.state at.stands)
  where
    after : (r : Run) → run_of p input (done + 1) ≡ r → Leads p input new (Exited status) r → EndsIn p input (done + 1) (outcome_of (run.Exited status) new.output)
    after (run.On s) e ended = absurd ended
    after (run.Over end s) e ended = record {
      done = done;
      last = refl;
      before = at.state;
      goes_on = at.goes_on;
      end = run.Exited status;
      left = s;
      over = e ∙ ap (λ (d : run.End). run.Over d s) (sym ended.0);
      shows = ap (outcome_of (run.Exited status)) ended.1;
    }

pub faults : (p : ProgramData) (input : List ℕ) (done : ℕ) (old new : Machine) (kind : FaultKind) → IsAt p input done old → StepsAs p input old new (Faulted kind)
    → EndsIn p input (done + 1) (outcome_of (run.Faulted kind new.frame.func new.frame.node) new.output)
faults p input done old new kind at leads = after (step p input at.state) (next_run p input done at.state at.goes_on) (leads at.state at.stands)
  where
    after : (r : Run) → run_of p input (done + 1) ≡ r → Leads p input new (Faulted kind) r → EndsIn p input (done + 1) (outcome_of (run.Faulted kind new.frame.func new.frame.node) new.output)
    after (run.On s) e ended = absurd ended
    after (run.Over end s) e ended = record {
      done = done;
      last = refl;
      before = at.state;
      goes_on = at.goes_on;
      end = run.Faulted kind new.frame.func new.frame.node;
      left = s;
      over = e ∙ ap (λ (d : run.End). run.Over d s) (sym ended.0);
      shows = ap (outcome_of (run.Faulted kind new.frame.func new.frame.node)) ended.1;
    }
