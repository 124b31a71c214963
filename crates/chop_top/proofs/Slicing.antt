-- What is written of a slice.
use Rattle.std.proofs.Common.{◌≡◌, ℕ, List, Option, Some, None, Result, Ok, Err, IfOk, Vec, refl, sym, subst, inr}
use Rattle.std.specs.declared.alloc.Global.{Global}
use Rattle.std.specs.declared.alloc.AllocError.{AllocError}
use Rattle.flat_ir.specs.declared.names.FuncId.{FuncId}
use Rattle.flat_ir.specs.declared.names.Location.{Location}
use Rattle.flat_ir.specs.declared.program.ProgramData.{ProgramData}
use Rattle.chop_words.specs.Words.{Sliced}
use Rattle.slice_lines.specs.Slices.{IsSliceText}
use Rattle.slice_lines.specs.Targets.{function_named, location_named, unknown_line}
use Rattle.chop_top.specs.declared.top.Answer.{Answer}
use Rattle.chop_top.specs.declared.top.Status.TheVariants.{Done, Refused}
use Rattle.chop_top.specs.Accepted.{Reads}
use Rattle.chop_top.specs.Refusals.{IsUnknown}
use Rattle.chop_top.specs.Outcomes.{Judged, text_or_memory}

-- the lines of the slice
pub judged-slice : (bytes file function location : List ℕ) (p : ProgramData) (f : FuncId) (at' : Location) (written : Result (Vec ℕ Global) AllocError) (answer : Answer) →
    Reads bytes p → function_named p function ≡ Some f → location_named p f location ≡ Some at' → IfOk written (λ w. IsSliceText p f at' w.items) →
    answer ≡ text_or_memory Done written → Judged answer (Sliced file function location) bytes
judged-slice bytes file function location p f at' (Ok w) answer reads named place lines is = subst (λ (a : Answer). Judged a (Sliced file function location) bytes) (sym is) (record {
  program = p;
  reads = reads;
  known = record { func = f; named = named; at' = at'; place = place };
  lines = lines;
})
judged-slice bytes file function location p f at' (Err e) answer reads named place lines is = subst (λ (a : Answer). Judged a (Sliced file function location) bytes) (sym is) tt

-- the line of a word that names nothing
pub judged-unknown : (bytes file function location word : List ℕ) (p : ProgramData) (written : Result (Vec ℕ Global) AllocError) (answer : Answer) →
    Reads bytes p → IsUnknown p function location word → IfOk written (λ w. w.items ≡ unknown_line word) →
    answer ≡ text_or_memory Refused written → Judged answer (Sliced file function location) bytes
judged-unknown bytes file function location word p (Ok w) answer reads unknown line is = subst (λ (a : Answer). Judged a (Sliced file function location) bytes) (sym is) (inr (record {
  program = p;
  reads = reads;
  word = word;
  unknown = unknown;
  line = line;
}))
judged-unknown bytes file function location word p (Err e) answer reads unknown line is = subst (λ (a : Answer). Judged a (Sliced file function location) bytes) (sym is) tt

-- what is no Some is None
pub none-left : {A : Type 0} (o : Option A) → ((x : A) → o ≡ Some x → ⊥) → o ≡ None
none-left None none = refl
none-left (Some x) none = absurd (none x refl)
