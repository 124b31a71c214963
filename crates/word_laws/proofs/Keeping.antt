-- What is kept with each word that fits: where `--hex` was named, its bytes stand behind it.
use Rattle.std.proofs.Common.{◌≡◌, ◌≤◌, ◌+◌, ℕ, Bool, true, false, not, ◌&&◌, List, [], ◌∷◌, ◌++◌, length, codes, Option, Some, None, if◌then◌else◌, refl, sym, ap, ◌∙◌, subst, arith, append_assoc, append-nil, length-append}
use Rattle.std.specs.Prelude.{slice_get}
use Rattle.std.specs.Str.{bytes_eq}
use Rattle.std.proofs.lemmas.Bool.{and_parts}
use Rattle.std.proofs.lemmas.Slice.Eq.{bytes_eq-Decides}
use Rattle.chop_words.specs.declared.words.Verb.{Verb}
use Rattle.chop_words.specs.declared.words.Verb.TheVariants as verb
use Rattle.chop_words.specs.declared.words.Setting.{Setting}
use Rattle.chop_words.specs.declared.words.Setting.TheVariants.{Input, Steps, Leaves, Shares}
use Rattle.chop_words.specs.declared.words.Flag.{Flag}
use Rattle.chop_words.specs.declared.words.Flag.TheVariants.{Trace, Conditions}
use Rattle.chop_words.specs.declared.words.Choice.{Choice}
use Rattle.chop_words.specs.declared.words.Choice.TheVariants.{Bytes, Number, Switch}
use Rattle.chop_words.specs.declared.words.Stage.{Stage}
use Rattle.chop_words.specs.declared.words.Stage.TheVariants.{Start, Open, Value, Function, Location, End}
use Rattle.chop_words.specs.declared.words.Heard.{Heard}
use Rattle.word_laws.proofs.Hearing.{heard-none}
use Rattle.chop_words.specs.Words.{verb_named, named, is_positional, number_in, is_hex, is_given, with_given, with_number, takes, has_needed, behind_file, taken, chosen, begun, numbered, placed, next, nothing_heard, heard, word_after}

abbrev pub name : List ℕ
name = codes "--hex"

-- the next word is that of the bytes
abbrev pub waits : Stage → Bool
waits Start = false
waits (Open v) = false
waits (Value v (Number c)) = false
waits (Value v Bytes) = true
waits (Value v (Switch f)) = false
waits Function = false
waits Location = false
waits (End v) = false

abbrev pub HexFact : Bool → Bool → List (List ℕ) → Type 0
HexFact true given words = (w : List ℕ) (more : List (List ℕ)) → word_after name (words ++ w ∷ more) ≡ Some w
HexFact false true words = (h : List ℕ) × (is_hex h ≡ true) × ((more : List (List ℕ)) → word_after name (words ++ more) ≡ Some h)
HexFact false false words = (more : List (List ℕ)) → word_after name (words ++ more) ≡ word_after name more

-- how many words stand there at least
abbrev pub least : Stage → ℕ
least Start = 0
least (Open v) = 1
least (Value v c) = 1
least Function = 2
least Location = 3
least (End verb.Slice) = 4
least (End v) = 1

-- a run has its bytes in the end, and no flag waits for a value
abbrev pub Ready : Stage → Bool → Type 0
Ready (End verb.Run) given = given ≡ true
Ready (Value v (Switch f)) given = ⊥
Ready _ given = Unit {0}

pub record Good (words : List (List ℕ)) (s : Heard) : Type 0 where
  pub count : least s.stage ≤ length words
  pub hex : HexFact (waits s.stage) s.given.bytes words
  pub ready : Ready s.stage s.given.bytes

-- ---- words that aren't `--hex`

other : {A : Type 0} (f : List ℕ → A) (w : List ℕ) (x : A) → (f name ≡ x → ⊥) → f w ≡ x → bytes_eq w name ≡ false
other f w x differs is = go (bytes_eq w name) refl
  where
    go : (b : Bool) → bytes_eq w name ≡ b → b ≡ false
    go true e = let same : w ≡ name = (bytes_eq-Decides w name).0 e in absurd (differs (subst (λ (v : List ℕ). f v ≡ x) same is))
    go false e = refl

-- ---- one word more

shift : (words more : List (List ℕ)) (w : List ℕ) → (words ++ w ∷ []) ++ more ≡ words ++ w ∷ more
shift words more w = append_assoc words (w ∷ []) more

longer : (words : List (List ℕ)) (w : List ℕ) (n : ℕ) → n ≤ length words → n + 1 ≤ length (words ++ w ∷ [])
longer words w n within = omega (arith, within, length-append words (w ∷ []))

keeps : (given : Bool) (words : List (List ℕ)) (w : List ℕ) → bytes_eq w name ≡ false → HexFact false given words → HexFact false given (words ++ w ∷ [])
keeps true words w unlike fact = (fact.0, fact.1, λ more. ap (λ (ws : List (List ℕ)). word_after name ws) (shift words more w) ∙ fact.2 (w ∷ more))
keeps false words w unlike fact = λ more.
    ap (λ (ws : List (List ℕ)). word_after name ws) (shift words more w) ∙ (fact (w ∷ more) ∙ ap (λ (b : Bool). if b then slice_get more 0 else word_after name more) unlike)

names : (words : List (List ℕ)) (w : List ℕ) → bytes_eq w name ≡ true → HexFact false false words → HexFact true false (words ++ w ∷ [])
names words w yes' fact = λ v more.
    ap (λ (ws : List (List ℕ)). word_after name ws) (shift words (v ∷ more) w) ∙ (fact (w ∷ v ∷ more) ∙ ap (λ (b : Bool). if b then Some v else word_after name (v ∷ more)) yes')

has : (words : List (List ℕ)) (w : List ℕ) (given : Bool) → is_hex w ≡ true → HexFact true given words → HexFact false true (words ++ w ∷ [])
has words w given is fact = (w, is, λ more. ap (λ (ws : List (List ℕ)). word_after name ws) (shift words more w) ∙ fact w more)

-- ---- each stage

some-same : (a b : Heard) → Some a ≡ Some b → a ≡ b
some-same a b e = cc

none-some : (s : Heard) → None ≡ Some s → ⊥
none-some s e = cc

-- a test that fails gives nothing
passed : (b : Bool) (o : Heard) (s : Heard) → (if b then Some o else None) ≡ Some s → (b ≡ true) × (o ≡ s)
passed true o s e = (refl, some-same o s e)
passed false o s e = absurd (none-some s e)

keeps-stage : (words : List (List ℕ)) (w : List ℕ) (s : Heard) (to : Stage) → bytes_eq w name ≡ false → waits to ≡ false → least to ≤ length words + 1 →
    Ready to s.given.bytes → HexFact false s.given.bytes words → Good (words ++ w ∷ []) (record s { stage = to })
keeps-stage words w s to unlike open' within ready fact = record {
  count = omega (arith, within, length-append words (w ∷ []));
  hex = subst (λ (b : Bool). HexFact b s.given.bytes (words ++ w ∷ [])) (sym open') (keeps s.given.bytes words w unlike fact);
  ready = ready;
}

begins : (words : List (List ℕ)) (s s' : Heard) (w : List ℕ) (o : Option Verb) → verb_named w ≡ o → HexFact false s.given.bytes words → begun s o ≡ Some s' → Good (words ++ w ∷ []) s'
begins words s s' w None named' fact e = absurd (none-some s' e)
begins words s s' w (Some v) named' fact e =
    subst (λ (h : Heard). Good (words ++ w ∷ []) h) (some-same (record s { stage = Open v }) s' e)
    (keeps-stage words w s (Open v) (other verb_named w (Some v) (λ none. cc) named') refl (omega arith) tt fact)

number-given : (c : Setting) (g : Bool) → (s : Heard) → s.given.bytes ≡ g → (with_given (Number c) s.given).bytes ≡ g
number-given Input g s e = e
number-given Steps g s e = e
number-given Leaves g s e = e
number-given Shares g s e = e

flag-given : (f : Flag) (g : Bool) → (s : Heard) → s.given.bytes ≡ g → (with_given (Switch f) s.given).bytes ≡ g
flag-given Trace g s e = e
flag-given Conditions g s e = e

-- only `--hex` names the option with bytes
only-hex : (a b c d e f g : Bool) →
    (if a then Some (Number Input) else (if b then Some (Number Steps) else (if c then Some (Number Leaves) else (if d then Some (Number Shares) else (if e then Some Bytes else (if f then Some (Switch Trace) else (if g then Some (Switch Conditions) else None))))))) ≡ Some Bytes → e ≡ true
only-hex true b c d e f g is = cc
only-hex false true c d e f g is = cc
only-hex false false true d e f g is = cc
only-hex false false false true e f g is = cc
only-hex false false false false true f g is = refl
only-hex false false false false false true g is = cc
only-hex false false false false false false true is = cc
only-hex false false false false false false false is = cc

not-given : (b : Bool) → not b ≡ true → b ≡ false
not-given true e = cc
not-given false e = refl

behind-waits : (v : Verb) → waits (behind_file v) ≡ false
behind-waits verb.Explore = refl
behind-waits verb.Run = refl
behind-waits verb.Print = refl
behind-waits verb.Sites = refl
behind-waits verb.Slice = refl

behind-least : (v : Verb) (n : ℕ) → 1 ≤ n → least (behind_file v) ≤ n + 1
behind-least verb.Explore n h = omega (arith, h)
behind-least verb.Run n h = omega (arith, h)
behind-least verb.Print n h = omega (arith, h)
behind-least verb.Sites n h = omega (arith, h)
behind-least verb.Slice n h = omega (arith, h)

behind-ready : (v : Verb) (s : Heard) → has_needed v s.given ≡ true → Ready (behind_file v) s.given.bytes
behind-ready verb.Explore s h = tt
behind-ready verb.Run s h = (and_parts s.given.steps s.given.bytes h).1
behind-ready verb.Print s h = tt
behind-ready verb.Sites s h = tt
behind-ready verb.Slice s h = tt

chooses : (words : List (List ℕ)) (v : Verb) (s s' : Heard) (w : List ℕ) (o : Option Choice) → named w ≡ o → 1 ≤ length words → HexFact false s.given.bytes words →
    chosen v s o (is_positional w) ≡ Some s' → Good (words ++ w ∷ []) s'
chooses words v s s' w None named' within fact e =
    let test = passed (is_positional w && has_needed v s.given) (record s { stage = behind_file v }) s' e in
    let both = and_parts (is_positional w) (has_needed v s.given) test.0 in
    subst (λ (h : Heard). Good (words ++ w ∷ []) h) test.1
    (keeps-stage words w s (behind_file v) (other is_positional w true (λ no. cc) both.0) (behind-waits v) (behind-least v (length words) within) (behind-ready v s both.1) fact)
chooses words v s s' w (Some (Number c)) named' within fact e =
    let test = passed (takes v (Number c) && not (is_given (Number c) s.given)) (record s { stage = Value v (Number c) }) s' e in
    subst (λ (h : Heard). Good (words ++ w ∷ []) h) test.1
    (keeps-stage words w s (Value v (Number c)) (other named w (Some (Number c)) (λ no. cc) named') refl (omega arith) tt fact)
chooses words v s s' w (Some Bytes) named' within fact e =
    let test = passed (takes v Bytes && not s.given.bytes) (record s { stage = Value v Bytes }) s' e in
    let free = not-given s.given.bytes (and_parts (takes v Bytes) (not s.given.bytes) test.0).1 in
    let yes' = only-hex (bytes_eq w (codes "--input")) (bytes_eq w (codes "--steps")) (bytes_eq w (codes "--leaves")) (bytes_eq w (codes "--shares")) (bytes_eq w name) (bytes_eq w (codes "--trace")) (bytes_eq w (codes "--conditions")) named' in
    subst (λ (h : Heard). Good (words ++ w ∷ []) h) test.1 (record {
      count = omega (arith, length-append words (w ∷ []));
      hex = names words w yes' (subst (λ (b : Bool). HexFact false b words) free fact);
      ready = tt;
    })
chooses words v s s' w (Some (Switch f)) named' within fact e =
    let test = passed (takes v (Switch f) && not (is_given (Switch f) s.given)) (taken v (Switch f) s) s' e in
    subst (λ (h : Heard). Good (words ++ w ∷ []) h) test.1 (record {
      count = omega (arith, length-append words (w ∷ []));
      hex = subst (λ (b : Bool). HexFact false b (words ++ w ∷ [])) (sym (flag-given f s.given.bytes s refl))
          (keeps s.given.bytes words w (other named w (Some (Switch f)) (λ no. cc) named') fact);
      ready = tt;
    })

numbers : (words : List (List ℕ)) (v : Verb) (c : Setting) (s s' : Heard) (w : List ℕ) (o : Option ℕ) → number_in c w ≡ o → HexFact false s.given.bytes words →
    numbered v c s o ≡ Some s' → Good (words ++ w ∷ []) s'
numbers words v c s s' w None is fact e = absurd (none-some s' e)
numbers words v c s s' w (Some n) is fact e =
    subst (λ (h : Heard). Good (words ++ w ∷ []) h) (some-same (record { stage = Open v; given = with_given (Number c) s.given; options = with_number c n s.options }) s' e) (record {
      count = omega (arith, length-append words (w ∷ []));
      hex = subst (λ (b : Bool). HexFact false b (words ++ w ∷ [])) (sym (number-given c s.given.bytes s refl))
          (keeps s.given.bytes words w (other (number_in c) w (Some n) (no-number c n) is) fact);
      ready = tt;
    })
  where
    no-number : (d : Setting) (m : ℕ) → number_in d name ≡ Some m → ⊥
    no-number d m unlike = cc

places : (words : List (List ℕ)) (s s' : Heard) (w : List ℕ) (to : Stage) → waits to ≡ false → least to ≤ length words + 1 → Ready to s.given.bytes → HexFact false s.given.bytes words →
    placed s to (is_positional w) ≡ Some s' → Good (words ++ w ∷ []) s'
places words s s' w to open' within ready fact e =
    let test = passed (is_positional w) (record s { stage = to }) s' e in
    subst (λ (h : Heard). Good (words ++ w ∷ []) h) test.1 (keeps-stage words w s to (other is_positional w true (λ no. cc) test.0) open' within ready fact)

-- a word that fits keeps what is good
goes-on : (stage : Stage) (words : List (List ℕ)) (s s' : Heard) (w : List ℕ) → least stage ≤ length words → HexFact (waits stage) s.given.bytes words →
    next stage s w ≡ Some s' → Good (words ++ w ∷ []) s'
goes-on Start words s s' w within fact e = begins words s s' w (verb_named w) refl fact e
goes-on (Open v) words s s' w within fact e = chooses words v s s' w (named w) refl within fact e
goes-on (Value v (Number c)) words s s' w within fact e = numbers words v c s s' w (number_in c w) refl fact e
goes-on (Value v Bytes) words s s' w within fact e =
    let test = passed (is_hex w) (record s { stage = Open v; given = with_given Bytes s.given }) s' e in
    subst (λ (h : Heard). Good (words ++ w ∷ []) h) test.1 (record {
      count = omega (arith, length-append words (w ∷ []));
      hex = has words w s.given.bytes test.0 fact;
      ready = tt;
    })
goes-on (Value v (Switch f)) words s s' w within fact e = absurd (none-some s' e)
goes-on Function words s s' w within fact e = places words s s' w Location refl (omega (arith, within)) tt fact e
goes-on Location words s s' w within fact e = places words s s' w (End verb.Slice) refl (omega (arith, within)) tt fact e
goes-on (End v) words s s' w within fact e = absurd (none-some s' e)

-- and so do all words
all-good : (before words : List (List ℕ)) (s s' : Heard) → Good before s → heard (Some s) words ≡ Some s' → Good (before ++ words) s'
all-good before [] s s' good e = subst (λ (ws : List (List ℕ)). Good ws s') (sym (append-nil before)) (subst (λ (h : Heard). Good before h) (some-same s s' e) good)
all-good before (w ∷ ws) s s' good e = behind (next s.stage s w) refl (λ more next'. all-good (before ++ w ∷ []) ws more s' (goes-on s.stage before s more w good.count good.hex next'))
  where
    behind : (o : Option Heard) → next s.stage s w ≡ o → ((more : Heard) → next s.stage s w ≡ Some more → heard (Some more) ws ≡ Some s' → Good ((before ++ w ∷ []) ++ ws) s') →
        Good (before ++ w ∷ ws) s'
    behind None is go = absurd (none-some s' (sym (heard-none ws) ∙ subst (λ (o : Option Heard). heard o ws ≡ Some s') is e))
    behind (Some more) is go =
        subst (λ (ts : List (List ℕ)). Good ts s') (shift before ws w) (go more is (subst (λ (o : Option Heard). heard o ws ≡ Some s') is e))

pub heard-good : (words : List (List ℕ)) (s : Heard) → heard (Some nothing_heard) words ≡ Some s → Good words s
heard-good words s e = all-good [] words nothing_heard s (record { count = omega arith; hex = λ more. refl; ready = tt }) e
