-- Each command that was begun can be ended, and the place of a misfit.
use Rattle.std.proofs.Common.{◌≡◌, ◌<◌, ◌≤◌, ◌+◌, ◌-◌, ◌%◌, ◌==◌, ℕ, zero, suc, Bool, true, false, not, ◌&&◌, ◌||◌, nat_le, List, [], ◌∷◌, ◌++◌, length, take, codes, Option, Some, None, if◌then◌else◌, refl, sym, ap, ◌∙◌, subst, arith, append-nil}
use Rattle.std.specs.Prelude.{slice_get, slice_index_or, is_some}
use Rattle.std.specs.List.{list_all}
use Rattle.std.specs.Result.{result_ok}
use Rattle.std.specs.Str.{bytes_eq}
use Rattle.std.proofs.lemmas.Bool.{and_parts, eqb-true}
use Rattle.std.proofs.lemmas.List.Sums.{AllPass-from_list_all}
use Rattle.hex.specs.Hex.{decode_of, is_hex_digit}
use Rattle.hex.proofs.HexLemmas.{decode_of-digits}
use Rattle.chop_words.specs.declared.options.Options.{Options}
use Rattle.chop_words.specs.declared.words.Verb.{Verb}
use Rattle.chop_words.specs.declared.words.Verb.TheVariants as verb
use Rattle.chop_words.specs.declared.words.Setting.{Setting}
use Rattle.chop_words.specs.declared.words.Setting.TheVariants.{Input, Steps, Leaves, Shares}
use Rattle.chop_words.specs.declared.words.Choice.TheVariants.{Bytes, Number, Switch}
use Rattle.chop_words.specs.declared.words.Stage.{Stage}
use Rattle.chop_words.specs.declared.words.Stage.TheVariants.{Start, Open, Value, Function, Location, End}
use Rattle.chop_words.specs.declared.words.Heard.{Heard}
use Rattle.chop_words.specs.Words.{Wanted, Explored, Ran, Printed, Sited, Sliced, misfit, heard, nothing_heard, asked_of, asked_at, asked_with, command_of, of_file, run_of, slice_of, input_of, bytes_in, word_after, last_word, is_hex, is_lower_digit, with_given, with_number, number_in, numbered, next}
use Rattle.word_laws.specs.Beginnings.{Begins, MisfitsAreFirst}
use Rattle.word_laws.proofs.Hearing.{heard-append, wanted-none, fitting-within, hears-fitting, ends-there}
use Rattle.word_laws.proofs.Keeping.{name, waits, HexFact, least, Ready, Good, heard-good}

-- ---- what is wanted in the end

abbrev IsThere : {A : Type 0} → Option A → Type 0
IsThere {A} o = (x : A) × (o ≡ Some x)

word-at : (words : List (List ℕ)) (n : ℕ) → n < length words → IsThere (slice_get words n)
word-at [] n lt = absurd (omega (arith, lt))
word-at (w ∷ ws) zero lt = (w, refl)
word-at (w ∷ ws) (suc n) lt = word-at ws n (omega (arith, lt))

last-there : (words : List (List ℕ)) → 1 ≤ length words → IsThere (last_word words)
last-there words some = word-at words (length words - 1) (omega (arith, some))

file-there : (asked : List ℕ → Wanted) (o : Option (List ℕ)) → IsThere o → IsThere (of_file asked o)
file-there asked o there = (asked there.0, ap (λ (f : Option (List ℕ)). of_file asked f) there.1)

lower-is-digit : (b : ℕ) → is_lower_digit b ≡ true → is_hex_digit b ≡ true
lower-is-digit b is = digit (nat_le 65 b && nat_le b 70) (nat_le 97 b && nat_le b 102) (nat_le 48 b && nat_le b 57) is
  where
    digit : (upper lower ten : Bool) → (ten || lower) ≡ true → is_some (if upper then Some (b - 55) else (if lower then Some (b - 87) else (if ten then Some (b - 48) else None))) ≡ true
    digit true lower ten h = refl
    digit false true ten h = refl
    digit false false true h = refl
    digit false false false h = cc

bytes-there : (h : List ℕ) → is_hex h ≡ true → IsThere (bytes_in h)
bytes-there h is = go (bytes_eq h (codes "-")) refl
  where
    go : (b : Bool) → bytes_eq h (codes "-") ≡ b → IsThere (if b then Some [] else result_ok (decode_of h))
    go true e = ([], refl)
    go false e =
        let rest : (nat_le 2 (length h) && (nat_le (length h) 128 && (length h % 2 == 0 && list_all is_lower_digit h))) ≡ true =
        subst (λ (b : Bool). (b || (nat_le 2 (length h) && (nat_le (length h) 128 && (length h % 2 == 0 && list_all is_lower_digit h)))) ≡ true) e is in
        let more = (and_parts (nat_le 2 (length h)) (nat_le (length h) 128 && (length h % 2 == 0 && list_all is_lower_digit h)) rest).1 in
        let last = (and_parts (nat_le (length h) 128) (length h % 2 == 0 && list_all is_lower_digit h) more).1 in
        let both = and_parts (length h % 2 == 0) (list_all is_lower_digit h) last in
        let read = decode_of-digits h (eqb-true (length h % 2) 0 both.0) (λ k d lt. lower-is-digit (slice_index_or h k d) (AllPass-from_list_all is_lower_digit h both.1 k d lt)) in
        (read.0, ap result_ok read.1)

run-there : (o : Options) (words : List (List ℕ)) (h : List ℕ) → is_hex h ≡ true → word_after name words ≡ Some h → IsThere (last_word words) → IsThere (command_of verb.Run o words)
run-there o words h is after file =
    let bytes = bytes-there h is in
    let whole = file-there (Ran bytes.0 o.steps) (last_word words) file in
    (whole.0, ap (λ (w : Option (List ℕ)). run_of (input_of w) o.steps (last_word words)) after ∙ (ap (λ (b : Option (List ℕ)). run_of b o.steps (last_word words)) bytes.1 ∙ whole.1))

slice-there : (f g l : Option (List ℕ)) → IsThere f → IsThere g → IsThere l → IsThere (slice_of f g l)
slice-there f g l file function location = (
  Sliced file.0 function.0 location.0,
  ap (λ (x : Option (List ℕ)). slice_of x g l) file.1 ∙ (ap (λ (x : Option (List ℕ)). slice_of (Some file.0) x l) function.1 ∙ ap (λ (x : Option (List ℕ)). slice_of (Some file.0) (Some function.0) x) location.1),
)

by-verb : (v : Verb) (words : List (List ℕ)) (o : Options) (given : Bool) → least (End v) ≤ length words → HexFact false given words → Ready (End v) given → IsThere (command_of v o words)
by-verb verb.Explore words o given count hex ready = file-there (Explored o) (last_word words) (last-there words count)
by-verb verb.Print words o given count hex ready = file-there Printed (last_word words) (last-there words count)
by-verb verb.Sites words o given count hex ready = file-there Sited (last_word words) (last-there words count)
by-verb verb.Slice words o given count hex ready =
    slice-there (slice_get words 1) (slice_get words 2) (slice_get words 3) (word-at words 1 (omega (arith, count))) (word-at words 2 (omega (arith, count))) (word-at words 3 (omega (arith, count)))
by-verb verb.Run words o given count hex ready =
    let fact : HexFact false true words = subst (λ (b : Bool). HexFact false b words) ready hex in
    run-there o words fact.0 fact.1 (subst (λ (ws : List (List ℕ)). word_after name ws ≡ Some fact.0) (append-nil words) (fact.2 [])) (last-there words count)

ended-there : (v : Verb) (words : List (List ℕ)) (s : Heard) → s.stage ≡ End v → Good words s → IsThere (command_of v s.options words)
ended-there v words s is good =
    by-verb v words s.options s.given.bytes (subst (λ (st : Stage). least st ≤ length words) is good.count) (subst (λ (st : Stage). HexFact (waits st) s.given.bytes words) is good.hex)
    (subst (λ (st : Stage). Ready st s.given.bytes) is good.ready)

-- ---- how a command is ended

record Ends (s : Heard) : Type 0 where
  more : List (List ℕ)
  verb' : Verb
  end : Heard
  hears : heard (Some s) more ≡ Some end
  ended : end.stage ≡ End verb'

-- by a word that fits, and then what ends what was heard with it
by-word : (w : List ℕ) (s s' : Heard) (stage : Stage) → s.stage ≡ stage → next stage s w ≡ Some s' → Ends s' → Ends s
by-word w s s' stage at' fits ends = record {
  more = w ∷ ends.more;
  verb' = ends.verb';
  end = ends.end;
  hears = ap (λ (st : Stage). heard (next st s w) ends.more) at' ∙ (ap (λ (o : Option Heard). heard o ends.more) fits ∙ ends.hears);
  ended = ends.ended;
}

ended : (v : Verb) (s : Heard) → s.stage ≡ End v → Ends s
ended v s is = record { more = []; verb' = v; end = s; hears = refl; ended = is }

at-location : (s : Heard) → s.stage ≡ Location → Ends s
at-location s is = by-word (codes "input") s (record s { stage = End verb.Slice }) Location is refl (ended verb.Slice (record s { stage = End verb.Slice }) refl)

at-function : (s : Heard) → s.stage ≡ Function → Ends s
at-function s is = by-word (codes "f") s (record s { stage = Location }) Function is refl (at-location (record s { stage = Location }) refl)

with-both : (s : Heard) → s.stage ≡ Open verb.Run → s.given.steps ≡ true → s.given.bytes ≡ true → Ends s
with-both s is steps bytes =
    by-word (codes "F") s (record s { stage = End verb.Run }) (Open verb.Run) is
    (ap (λ (b : Bool). if b && s.given.bytes then Some (record s { stage = End verb.Run }) else None) steps ∙ ap (λ (b : Bool). if b then Some (record s { stage = End verb.Run }) else None) bytes)
    (ended verb.Run (record s { stage = End verb.Run }) refl)

with-steps : (s : Heard) (b : Bool) → s.given.bytes ≡ b → s.stage ≡ Open verb.Run → s.given.steps ≡ true → Ends s
with-steps s true bytes is steps = with-both s is steps bytes
with-steps s false bytes is steps =
    let waiting : Heard = record s { stage = Value verb.Run Bytes } in
    let heard' : Heard = record s { stage = Open verb.Run; given = with_given Bytes s.given } in
    by-word name s waiting (Open verb.Run) is (ap (λ (b : Bool). if not b then Some (record s { stage = Value verb.Run Bytes }) else None) bytes)
    (by-word (codes "-") waiting heard' (Value verb.Run Bytes) refl refl (with-both heard' refl steps refl))

run-open : (s : Heard) (b : Bool) → s.given.steps ≡ b → s.stage ≡ Open verb.Run → Ends s
run-open s true steps is = with-steps s s.given.bytes refl is steps
run-open s false steps is =
    let waiting : Heard = record s { stage = Value verb.Run (Number Steps) } in
    let heard' : Heard = record { stage = Open verb.Run; given = with_given (Number Steps) s.given; options = with_number Steps 1 s.options } in
    by-word (codes "--steps") s waiting (Open verb.Run) is (ap (λ (b : Bool). if not b then Some (record s { stage = Value verb.Run (Number Steps) }) else None) steps)
    (by-word (codes "1") waiting heard' (Value verb.Run (Number Steps)) refl refl (with-steps heard' s.given.bytes refl refl refl))

at-open : (v : Verb) (s : Heard) → s.stage ≡ Open v → Ends s
at-open verb.Explore s is = by-word (codes "F") s (record s { stage = End verb.Explore }) (Open verb.Explore) is refl (ended verb.Explore (record s { stage = End verb.Explore }) refl)
at-open verb.Print s is = by-word (codes "F") s (record s { stage = End verb.Print }) (Open verb.Print) is refl (ended verb.Print (record s { stage = End verb.Print }) refl)
at-open verb.Sites s is = by-word (codes "F") s (record s { stage = End verb.Sites }) (Open verb.Sites) is refl (ended verb.Sites (record s { stage = End verb.Sites }) refl)
at-open verb.Slice s is = by-word (codes "F") s (record s { stage = Function }) (Open verb.Slice) is refl (at-function (record s { stage = Function }) refl)
at-open verb.Run s is = run-open s s.given.steps refl is

one-fits : (c : Setting) → number_in c (codes "1") ≡ Some 1
one-fits Input = refl
one-fits Steps = refl
one-fits Leaves = refl
one-fits Shares = refl

at-number : (v : Verb) (c : Setting) (s : Heard) → s.stage ≡ Value v (Number c) → Ends s
at-number v c s is =
    let heard' : Heard = record { stage = Open v; given = with_given (Number c) s.given; options = with_number c 1 s.options } in
    by-word (codes "1") s heard' (Value v (Number c)) is (ap (λ (o : Option ℕ). numbered v c s o) (one-fits c)) (at-open v heard' refl)

at-bytes : (v : Verb) (s : Heard) → s.stage ≡ Value v Bytes → Ends s
at-bytes v s is =
    let heard' : Heard = record s { stage = Open v; given = with_given Bytes s.given } in
    by-word (codes "-") s heard' (Value v Bytes) is refl (at-open v heard' refl)

at-start : (s : Heard) → s.stage ≡ Start → Ends s
at-start s is = by-word (codes "print") s (record s { stage = Open verb.Print }) Start is refl (at-open verb.Print (record s { stage = Open verb.Print }) refl)

-- whatever was heard, a command can be ended
at-stage : (stage : Stage) (s : Heard) → s.stage ≡ stage → Ready stage s.given.bytes → Ends s
at-stage Start s is ready = at-start s is
at-stage (Open v) s is ready = at-open v s is
at-stage (Value v (Number c)) s is ready = at-number v c s is
at-stage (Value v Bytes) s is ready = at-bytes v s is
at-stage (Value v (Switch f)) s is ready = absurd ready
at-stage Function s is ready = at-function s is
at-stage Location s is ready = at-location s is
at-stage (End v) s is ready = ended v s is

-- ---- words that were heard begin words of the table

begins-of : (words : List (List ℕ)) (s : Heard) → heard (Some nothing_heard) words ≡ Some s → Begins words
begins-of words s hears =
    let ends = at-stage s.stage s refl (heard-good words s hears).ready in
    let whole : heard (Some nothing_heard) (words ++ ends.more) ≡ Some ends.end =
    heard-append (Some nothing_heard) words ends.more ∙ (ap (λ (o : Option Heard). heard o ends.more) hears ∙ ends.hears) in
    let asked = ended-there ends.verb' (words ++ ends.more) ends.end ends.ended (heard-good (words ++ ends.more) ends.end whole) in
    record {
      more = ends.more;
      asked = asked.0;
      is = ap (λ (o : Option Heard). asked_with (asked_of o) (words ++ ends.more)) whole
          ∙ (ap (λ (st : Stage). asked_with (asked_at st ends.end.options) (words ++ ends.more)) ends.ended ∙ asked.1);
    }

none-some : (asked : Wanted) → None ≡ Some asked → ⊥
none-some asked e = cc

pub misfits-are-first : MisfitsAreFirst
misfits-are-first words = record {
  within = fitting-within (Some nothing_heard) words;
  before = let found = hears-fitting (Some nothing_heard) words nothing_heard refl in begins-of (take (misfit words) words) found.0 found.1;
  misfits = λ below begins.
      none-some begins.asked (sym (wanted-none (take (misfit words + 1) words) begins.more (ends-there (Some nothing_heard) words below)) ∙ begins.is);
}
