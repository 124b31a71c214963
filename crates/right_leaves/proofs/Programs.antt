-- What a plain program has: switches whose numbers are distinct, and globals that fit.
use Rattle.std.proofs.Common.{◌≡◌, ℕ, ◌^◌, ◌<◌, ◌≤◌, List, [], ◌∷◌, length, Some, None, ap, arith, All}
use Rattle.std.specs.List.{AllByRecursion as Each}
use Rattle.std.proofs.lemmas.List.Elements.{recursion_from_All}
use Rattle.flat_ir.specs.declared.program.GlobalVar.{GlobalVar}
use Rattle.flat_ir.specs.declared.program.InitByte.{InitByte}
use Rattle.flat_ir.specs.declared.program.InitByte.TheVariants as init
use Rattle.flat_ir.specs.Whole.{IsGlobalOf}
use Rattle.typed_runs.specs.FittingRuns as runs
use Rattle.sym_states.specs.Exploring.{Setting, context_of, first_state, oldest}
use Rattle.sym_states.specs.Fitting.{InitsFit, GlobalFits, GlobalsFit}
use Rattle.sym_states.specs.States.{State}
use Rattle.state_laws.specs.Explored.{IsFittingSetting}
use Rattle.right_leaves.specs.Right.{IsPlainSetting}

-- ---- globals

inits-fit : (bs : List InitByte) → Each runs.InitFits bs → InitsFit bs
inits-fit [] h = tt
inits-fit (init.Int b ∷ bs) h = (h.0, inits-fit bs h.1)
inits-fit (init.PtrByte g offset j ∷ bs) h = (h.0, inits-fit bs h.1)

small : (size : ℕ) → size ≤ 65536 → size < 2 ^ 64
small size h = omega (arith, h)

few : (count size : ℕ) → count ≤ size → size ≤ 65536 → count ≤ 2 ^ 64
few count size h k = omega (arith, h, k)

global-fits : (count : ℕ) (g : GlobalVar) → IsGlobalOf count g → All runs.InitFits g.init → GlobalFits g
global-fits count g h k = record { small = small g.size h.small; few = few (length g.init) g.size h.fits h.small; inits = inits-fit g.init (recursion_from_All runs.InitFits g.init k) }

all-fit : (count : ℕ) (gs : List GlobalVar) → Each (IsGlobalOf count) gs → Each (λ g. All runs.InitFits g.init) gs → GlobalsFit gs
all-fit count [] h k = tt
all-fit count (g ∷ gs) h k = (global-fits count g h.0 k.0, all-fit count gs h.1 k.1)

-- ---- settings

pub plain-fits : (e : Setting) → IsPlainSetting e → IsFittingSetting e
plain-fits e h = record {
  most = h.most;
  sizes = h.plain.fitting.sizes;
  program = h.plain.program;
  globals = all-fit (length e.program.globals) e.program.globals (recursion_from_All (IsGlobalOf (length e.program.globals)) e.program.globals h.plain.whole.globals)
      (recursion_from_All (λ g. All runs.InitFits g.init) e.program.globals h.plain.numbers.globals);
}

-- what is attempted outside of recoveries takes the same from outside
pub same-context : (e : Setting) (s : State) → s.target ≡ None → context_of e s ≡ context_of e (first_state e)
same-context e s none = ap (λ target. record {
  program = e.program;
  skips = e.skips;
  mods = e.mods;
  residual = elim target [ None ↦ None | Some at ↦ Some (e.slice (oldest s.frame s.callers).func at.at) ];
  verdict = e.verdict;
}) none
