-- What follows from what a status says.
use Rattle.std.proofs.Common.{◌≡◌, ℕ, ◌<◌, ◌≤◌, List, [], ◌∷◌, length, Option, Some, None, Result, Ok, Err, IfOk, IfSome, Vec, refl, sym, ◌∙◌, ap, subst, inl, inr, arith}
use Rattle.std.specs.declared.alloc.Global.{Global}
use Rattle.std.specs.declared.alloc.AllocError.{AllocError}
use Rattle.flat_ir.specs.declared.program.ProgramData.{ProgramData}
use Rattle.flat_ir.specs.declared.names.FuncId.{FuncId}
use Rattle.slice_lines.specs.Targets.{function_named, location_named}
use Rattle.distinct_cases.proofs.Distinct.{cases-distinct}
use Rattle.chop_words.specs.declared.options.Options.{Options}
use Rattle.chop_words.specs.Words.{Wanted, Explored, Ran, Printed, Sited, Sliced, file_of, wanted}
use Rattle.chop_outside.specs.Reading.{Named, Holds, contents_of}
use Rattle.chop_outside.specs.Writing.{SinkState}
use Rattle.chop_top.specs.declared.top.Answer.{Answer}
use Rattle.chop_top.specs.declared.top.Status.{Status}
use Rattle.chop_top.specs.declared.top.Status.TheVariants.{Done, Usage, Refused, Memory, ReadFault, WriteFault}
use Rattle.chop_top.specs.Accepted.{Reads}
use Rattle.chop_top.specs.Refusals.{IsRefusalOf, HasTarget, IsKnown, IsUnknown, no_function, no_location}
use Rattle.chop_top.proofs.OneText.{one-program, not-unaccepted}
use Rattle.report.specs.Reports.{IsReport}
use Rattle.chop_top.specs.Outcomes.{limit, exploration, Reading, IsTooLarge, OfFile, IsAccepted, IsComplete, Outcome, Judged, text_or_memory}

-- the report of the program that the bytes are the text of
pub judged-report : (bytes file : List ℕ) (o : Options) (p : ProgramData) (written : Result (Vec ℕ Global) AllocError) (answer : Answer) → Reads bytes p → IfOk written (λ w. IsReport p (exploration o) w.items) → answer ≡ text_or_memory Done written → Judged answer (Explored o file) bytes
judged-report bytes file o p (Ok w) answer reads told is = subst (λ a. Judged a (Explored o file) bytes) (sym is) (record {
  program = p;
  reads = reads;
  leaves = told.leaves;
  explores = told.explores;
  right = told.right (cases-distinct reads.0 p reads.1.resolves);
  report = told.report;
})
judged-report bytes file o p (Err e) answer reads told is = subst (λ a. Judged a (Explored o file) bytes) (sym is) tt

-- a file holds what it is told to hold
told-holds : (named : Option Named) (name read bytes : List ℕ) → Holds named name read → contents_of named name ≡ Some bytes → read ≡ bytes
told-holds None name read bytes holds told = cc
told-holds (Some f) name read bytes holds told =
    let same : Some read ≡ Some bytes = sym holds ∙ told in cc

same-asked : (words : List (List ℕ)) (a b : Wanted) → wanted words ≡ Some a → wanted words ≡ Some b → a ≡ b
same-asked words a b p q = let same : Some a ≡ Some b = sym p ∙ q in cc

-- words that name a function and a location are none that name nothing
not-unknown : (p : ProgramData) (function location word : List ℕ) → IsKnown p function location → IsUnknown p function location word → ⊥
not-unknown p function location word known (no_function none is) = let both : None ≡ Some known.func = sym none ∙ known.named in cc
not-unknown p function location word known (no_location f named none is) =
    let funcs : Some f ≡ Some known.func = sym named ∙ known.named in
    let same : f ≡ known.func = cc in
    let both : None ≡ Some known.at' = sym none ∙ (ap (λ (g : FuncId). location_named p g location) same ∙ known.place) in cc

-- what is accepted, for what is wanted of it, isn't refused
not-refused-of : (asked : Wanted) (bytes written : List ℕ) (p : ProgramData) → Reads bytes p → HasTarget asked p → IsRefusalOf asked bytes written → ⊥
not-refused-of (Explored o file) bytes written p reads there unaccepted = not-unaccepted bytes written p reads unaccepted
not-refused-of (Ran input steps file) bytes written p reads there unaccepted = not-unaccepted bytes written p reads unaccepted
not-refused-of (Printed file) bytes written p reads there unaccepted = not-unaccepted bytes written p reads unaccepted
not-refused-of (Sited file) bytes written p reads there unaccepted = not-unaccepted bytes written p reads unaccepted
not-refused-of (Sliced file function location) bytes written p reads there (inl unaccepted) = not-unaccepted bytes written p reads unaccepted
not-refused-of (Sliced file function location) bytes written p reads there (inr target) =
    let same = one-program bytes p target.program reads target.reads in
    not-unknown target.program function location target.word (subst (λ (q : ProgramData). IsKnown q function location) same there) target.unknown

-- an accepted file isn't refused
not-refused : (r : Reading) (written : List ℕ) → IsAccepted r → OfFile (λ asked bytes. IsRefusalOf asked bytes written) r → ⊥
not-refused r written accepted refused =
    let same = same-asked r.words refused.asked accepted.asked refused.named accepted.named in
    let P : Wanted → Type 0 = λ e. contents_of r.before.named (file_of e) ≡ Some accepted.bytes in
    let told = subst P (sym same) accepted.told in
    let bytes = told-holds r.before.named (file_of refused.asked) refused.bytes accepted.bytes refused.read.told told in
    let Q : List ℕ → Type 0 = λ bs. Reads bs accepted.program in
    let B : Wanted → Type 0 = λ e. HasTarget e accepted.program in
    not-refused-of refused.asked refused.bytes written accepted.program (subst Q (sym bytes) accepted.reads) (subst B (sym same) accepted.target) refused.holds

over-limit : (contents : Option (List ℕ)) (bytes : List ℕ) → contents ≡ Some bytes → length bytes ≤ limit → IfSome contents (λ c. limit < length c) → ⊥
over-limit None bytes told short over = cc
over-limit (Some c) bytes told short over =
    let same : c ≡ bytes = cc in omega (arith, ap (length {A = ℕ}) same)

not-too-large : (r : Reading) (written : List ℕ) → IsAccepted r → IsTooLarge r written → ⊥
not-too-large r written accepted large =
    let same = same-asked r.words large.asked accepted.asked large.named accepted.named in
    let P : Wanted → Type 0 = λ e. contents_of r.before.named (file_of e) ≡ Some accepted.bytes in
    over-limit (contents_of r.before.named (file_of large.asked)) accepted.bytes (subst P (sym same) accepted.told) accepted.short large.told

-- each status says enough for completeness
pub completes : (status : Status) (r : Reading) (old new : SinkState) → Outcome status r old new → IsComplete status r old new
completes Done r old new outcome accepted read wrote = inl refl
completes Memory r old new outcome accepted read wrote = inr refl
completes Usage r old new outcome accepted read wrote = absurd (let none : None ≡ Some accepted.asked = sym outcome.means.none ∙ accepted.named in cc)
completes Refused r old new outcome accepted read wrote =
    absurd (elim outcome.means [ inl large ↦ not-too-large r outcome.text accepted large | inr refused ↦ not-refused r outcome.text accepted refused ])
completes ReadFault r old new outcome accepted read wrote = absurd (omega (arith, outcome.fault.fault))
completes WriteFault r old new outcome accepted read wrote = absurd (omega (arith, outcome.fault))
