-- The first state is plain, and agrees with the run's start.
use Rattle.std.proofs.Common.{ℕ, List, [], ◌∷◌, map, None, refl, sym}
use Rattle.flat_ir.specs.declared.nodes.RegType.{RegType}
use Rattle.flat_ir.specs.Machine.{func_at, regs_of, start}
use Rattle.flat_ir.specs.Registers.{zero_of}
use Rattle.flat_ir.specs.Run.{run-zero}
use Rattle.sym_bytes.specs.Under.{Results}
use Rattle.sym_states.specs.Exploring.{Setting, first_state, context_of}
use Rattle.state_laws.specs.Explored.{IsFittingSetting}
use Rattle.state_laws.proofs.Roots.{first_state-fits}
use Rattle.state_laws.proofs.Explored.{first_state-free}
use Rattle.agreement.specs.Agreement.{RegsAgree, StandsAt}
use Rattle.agreement.specs.Premises.{IsPlain, IsPlainState, none_gave}
use Rattle.agreement.proofs.SetEnds.{func_whole, entered_set}

-- registers that aren't set agree with any
pub unset-agree : (input : List ℕ) (results : Results) (ts : List RegType) → RegsAgree input results (map (λ t. None) ts) (map zero_of ts)
unset-agree input results [] = tt
unset-agree input results (t ∷ ts) = (tt, unset-agree input results ts)

pub first-plain : (e : Setting) → IsFittingSetting e → IsPlain (context_of e (first_state e)) → IsPlainState (context_of e (first_state e)) e.inputs (first_state e)
first-plain e fitting plain =
    let main = plain.whole.main in
    record {
      fits = first_state-fits e fitting;
      no_calls = first_state-free e;
      set = record {
        frame = entered_set (context_of e (first_state e)) e.program.main main.0 [] [] plain main.1 (sym main.2.params) (func_whole e.program e.program.main main.0 plain.whole main.1).params;
        callers = tt;
        calls = tt;
      };
      globals = refl;
    }

pub first-stands : (e : Setting) (input : List ℕ) → StandsAt e.program [] input none_gave (first_state e)
first-stands e input = record {
  steps = 0;
  moment = start e.program;
  runs = run-zero e.program input;
  agrees = record {
    frame = record { func = refl; place = refl; name = refl; counts = refl; regs = unset-agree input [] (regs_of (func_at e.program e.program.main)) };
    callers = tt;
    outside_calls = refl;
    log = record { is = refl; marks = tt };
    path = refl;
    each_call = refl;
    recovered = tt;
  };
}
