-- The words of the program:
--
--     explore [--input N] [--steps S] [--leaves B] [--shares A] [--trace] [--conditions] FILE
--     run --hex H --steps S FILE
--     print FILE
--     sites FILE
--     slice FILE FUNCTION LOCATION
--
-- The options of a command stand in any order between its name and its file, each at most once. `--trace` and `--conditions` are flags: a
-- flag stands alone, while each value stands in the word after its option's name.
use Rattle.std.specs.Prelude.{ℕ, ◌+◌, ◌*◌, ◌-◌, ◌%◌, Bool, true, false, not, ◌&&◌, ◌||◌, ◌==◌, nat_le, List, [], ◌∷◌, ◌++◌, length, Option, None, Some, if◌then◌else◌, codes, slice_get, string_bytes, ◌≡◌, ◌≤◌}
use Rattle.std.specs.Str.{bytes_eq}
use Rattle.std.specs.List.{list_all}
use Rattle.std.specs.Result.{result_ok}
use Rattle.hex.specs.Hex.{decode_of}
use Rattle.ir_lexer.specs.Forms as forms
use Rattle.chop_words.specs.declared.options.Options.{Options}
use Rattle.chop_words.specs.declared.words.Verb.{Verb}
use Rattle.chop_words.specs.declared.words.Verb.TheVariants as verb
use Rattle.chop_words.specs.declared.words.Setting.{Setting}
use Rattle.chop_words.specs.declared.words.Setting.TheVariants.{Input, Steps, Leaves, Shares}
use Rattle.chop_words.specs.declared.words.Flag.{Flag}
use Rattle.chop_words.specs.declared.words.Flag.TheVariants.{Trace, Conditions}
use Rattle.chop_words.specs.declared.words.Choice.{Choice}
use Rattle.chop_words.specs.declared.words.Choice.TheVariants.{Bytes, Number, Switch}
use Rattle.chop_words.specs.declared.words.Given.{Given}
use Rattle.chop_words.specs.declared.words.Stage.{Stage}
use Rattle.chop_words.specs.declared.words.Stage.TheVariants.{Start, Open, Value, Function, Location, End}
use Rattle.chop_words.specs.declared.words.Heard.{Heard}
use Rattle.chop_words.specs.declared.commands.Command.{Command}
use Rattle.chop_words.specs.declared.commands.Command.TheVariants as command
use Rattle.chop_words.specs.declared.commands.UsageError.{UsageError}
use Rattle.chop_words.specs.declared.commands.UsageError.TheVariants.{Usage, Memory}

-- ---- the table of commands and their options

-- the command that a word names
abbrev pub verb_named : List ℕ → Option Verb
verb_named word =
    if bytes_eq word (codes "explore") then Some verb.Explore
    else (if bytes_eq word (codes "run") then Some verb.Run
    else (if bytes_eq word (codes "print") then Some verb.Print
    else (if bytes_eq word (codes "sites") then Some verb.Sites
    else (if bytes_eq word (codes "slice") then Some verb.Slice
    else None))))

-- the option that a word names
abbrev pub named : List ℕ → Option Choice
named word =
    if bytes_eq word (codes "--input") then Some (Number Input)
    else (if bytes_eq word (codes "--steps") then Some (Number Steps)
    else (if bytes_eq word (codes "--leaves") then Some (Number Leaves)
    else (if bytes_eq word (codes "--shares") then Some (Number Shares)
    else (if bytes_eq word (codes "--hex") then Some Bytes
    else (if bytes_eq word (codes "--trace") then Some (Switch Trace)
    else (if bytes_eq word (codes "--conditions") then Some (Switch Conditions)
    else None))))))

-- the options that a command may have
abbrev pub takes : Verb → Choice → Bool
takes verb.Explore (Number c) = true
takes verb.Explore Bytes = false
takes verb.Explore (Switch f) = true
takes verb.Run Bytes = true
takes verb.Run (Number Steps) = true
takes verb.Run (Number c) = false
takes verb.Run (Switch f) = false
takes verb.Print c = false
takes verb.Sites c = false
takes verb.Slice c = false

-- the least and the greatest number that an option may have
abbrev pub low : Setting → ℕ
low Input = 0
low Steps = 1
low Leaves = 1
low Shares = 1

abbrev pub high : Setting → ℕ
high Input = 64
high Steps = 1000000
high Leaves = 1000000
high Shares = 100000

-- where none is named
abbrev pub plain : Options
plain = record { input = 4; steps = 100000; leaves = 10000; shares = 1024; trace = false; conditions = false }

abbrev pub with_number : Setting → ℕ → Options → Options
with_number Input n o = record o { input = n }
with_number Steps n o = record o { steps = n }
with_number Leaves n o = record o { leaves = n }
with_number Shares n o = record o { shares = n }

abbrev pub with_flag : Flag → Options → Options
with_flag Trace o = record o { trace = true }
with_flag Conditions o = record o { conditions = true }

-- each number within its range
pub record AreInRange (o : Options) : Type 0 where
  pub input : o.input ≤ 64
  pub steps : (1 ≤ o.steps) × (o.steps ≤ 1000000)
  pub leaves : (1 ≤ o.leaves) × (o.leaves ≤ 1000000)
  pub shares : (1 ≤ o.shares) × (o.shares ≤ 100000)

-- ---- which options were named so far

abbrev pub is_given : Choice → Given → Bool
is_given (Number Input) g = g.input
is_given (Number Steps) g = g.steps
is_given (Number Leaves) g = g.leaves
is_given (Number Shares) g = g.shares
is_given Bytes g = g.bytes
is_given (Switch Trace) g = g.trace
is_given (Switch Conditions) g = g.conditions

abbrev pub with_given : Choice → Given → Given
with_given (Number Input) g = record g { input = true }
with_given (Number Steps) g = record g { steps = true }
with_given (Number Leaves) g = record g { leaves = true }
with_given (Number Shares) g = record g { shares = true }
with_given Bytes g = record g { bytes = true }
with_given (Switch Trace) g = record g { trace = true }
with_given (Switch Conditions) g = record g { conditions = true }

abbrev pub none_given : Given
none_given = record { input = false; steps = false; leaves = false; shares = false; bytes = false; trace = false; conditions = false }

-- no option is missing that the command needs
abbrev pub has_needed : Verb → Given → Bool
has_needed verb.Run g = g.steps && g.bytes
has_needed _ g = true

-- ---- numbers

-- no digit 0 stands in front
abbrev pub starts_plain : List ℕ → Bool
starts_plain [] = false
starts_plain (b ∷ []) = true
starts_plain (b ∷ c ∷ bs) = not (b == 48)

-- what decimal digits are worth behind a number
abbrev pub worth : ℕ → List ℕ → ℕ
worth n [] = n
worth n (b ∷ bs) = worth (n * 10 + (b - 48)) bs

abbrev pub at_most : ℕ → ℕ → Option ℕ
at_most most n = if nat_le n most then Some n else None

-- what digits are worth behind a number, if there is one and that is at most so much
abbrev pub within : ℕ → Option ℕ → List ℕ → Option ℕ
within most (Some n) bs = at_most most (worth n bs)
within most None bs = None

abbrev pub at_least : ℕ → Option ℕ → Option ℕ
at_least least (Some n) = if nat_le least n then Some n else None
at_least least None = None

-- the number that a word is, within the range of a setting
abbrev pub number_in : Setting → List ℕ → Option ℕ
number_in c word = if forms.is_number word && starts_plain word then at_least (low c) (within (high c) (Some 0) word) else None

-- ---- bytes

-- 0 to 9, or a to f
abbrev pub is_lower_digit : ℕ → Bool
is_lower_digit b = (nat_le 48 b && nat_le b 57) || (nat_le 97 b && nat_le b 102)

-- a dash, or two lower-case hexadecimal digits for each of 1 to 64 bytes
abbrev pub is_hex : List ℕ → Bool
is_hex word = bytes_eq word (codes "-") || (nat_le 2 (length word) && (nat_le (length word) 128 && (length word % 2 == 0 && list_all is_lower_digit word)))

-- the bytes that such a word says: a dash says none
abbrev pub bytes_in : List ℕ → Option (List ℕ)
bytes_in word = if bytes_eq word (codes "-") then Some [] else result_ok (decode_of word)

-- ---- words

-- a word that stands for a file, a function or a location isn't empty and doesn't begin with a dash
abbrev pub is_positional : List ℕ → Bool
is_positional [] = false
is_positional (b ∷ bs) = not (b == 45)

abbrev pub begun : Heard → Option Verb → Option Heard
begun s (Some v) = Some (record s { stage = Open v })
begun s None = None

-- what stands behind the file
abbrev pub behind_file : Verb → Stage
behind_file verb.Slice = Function
behind_file v = End v

-- what was heard with an option's name more: a flag is set at once, and another option waits for its value
abbrev pub taken : Verb → Choice → Heard → Heard
taken v (Number c) s = record s { stage = Value v (Number c) }
taken v Bytes s = record s { stage = Value v Bytes }
taken v (Switch f) s = record { stage = Open v; given = with_given (Switch f) s.given; options = with_flag f s.options }

-- an option of the command that wasn't named before, or the file, once no option is missing
abbrev pub chosen : Verb → Heard → Option Choice → Bool → Option Heard
chosen v s (Some c) positional = if takes v c && not (is_given c s.given) then Some (taken v c s) else None
chosen v s None positional = if positional && has_needed v s.given then Some (record s { stage = behind_file v }) else None

abbrev pub numbered : Verb → Setting → Heard → Option ℕ → Option Heard
numbered v c s (Some n) = Some (record { stage = Open v; given = with_given (Number c) s.given; options = with_number c n s.options })
numbered v c s None = None

-- with the value of an option; a flag has none
abbrev pub set : Verb → Choice → Heard → List ℕ → Option Heard
set v (Number c) s word = numbered v c s (number_in c word)
set v Bytes s word = if is_hex word then Some (record s { stage = Open v; given = with_given Bytes s.given }) else None
set v (Switch f) s word = None

abbrev pub placed : Heard → Stage → Bool → Option Heard
placed s stage positional = if positional then Some (record s { stage = stage }) else None

-- what was heard with a word more, if the word may stand there
abbrev pub next : Stage → Heard → List ℕ → Option Heard
next Start s word = begun s (verb_named word)
next (Open v) s word = chosen v s (named word) (is_positional word)
next (Value v c) s word = set v c s word
next Function s word = placed s Location (is_positional word)
next Location s word = placed s (End verb.Slice) (is_positional word)
next (End v) s word = None

abbrev pub nothing_heard : Heard
nothing_heard = record { stage = Start; given = none_given; options = plain }

abbrev pub then_heard : Option Heard → List ℕ → Option Heard
then_heard None word = None
then_heard (Some s) word = next s.stage s word

-- what was heard with these words more, if each may stand where it does
abbrev pub heard : Option Heard → List (List ℕ) → Option Heard
heard s [] = s
heard s (word ∷ words) = heard (then_heard s word) words

-- the command with its options, where no word is missing
abbrev pub asked_at : Stage → Options → Option (Verb × Options)
asked_at (End v) o = Some (v, o)
asked_at _ o = None

abbrev pub asked_of : Option Heard → Option (Verb × Options)
asked_of None = None
asked_of (Some s) = asked_at s.stage s.options

-- ---- what is wanted

-- To explore the program of a file; to run it on an input for so many steps; to print its module; to tell where its pointers point and what
-- its functions change; or to tell what of it a location at the end of a function's call depends on.
pub data Wanted : Type 0 where
  Explored : Options → List ℕ → Wanted
  Ran : List ℕ → ℕ → List ℕ → Wanted
  Printed : List ℕ → Wanted
  Sited : List ℕ → Wanted
  Sliced : List ℕ → List ℕ → List ℕ → Wanted

abbrev pub file_of : Wanted → List ℕ
file_of (Explored options file) = file
file_of (Ran input steps file) = file
file_of (Printed file) = file
file_of (Sited file) = file
file_of (Sliced file function location) = file

-- the word after the first that is this one
abbrev pub word_after : List ℕ → List (List ℕ) → Option (List ℕ)
word_after name [] = None
word_after name (word ∷ words) = if bytes_eq word name then slice_get words 0 else word_after name words

abbrev pub last_word : List (List ℕ) → Option (List ℕ)
last_word words = slice_get words (length words - 1)

abbrev pub of_file : (List ℕ → Wanted) → Option (List ℕ) → Option Wanted
of_file asked (Some file) = Some (asked file)
of_file asked None = None

abbrev pub input_of : Option (List ℕ) → Option (List ℕ)
input_of (Some word) = bytes_in word
input_of None = None

abbrev pub run_of : Option (List ℕ) → ℕ → Option (List ℕ) → Option Wanted
run_of (Some input) steps file = of_file (Ran input steps) file
run_of None steps file = None

abbrev pub slice_of : Option (List ℕ) → Option (List ℕ) → Option (List ℕ) → Option Wanted
slice_of (Some file) (Some function) (Some location) = Some (Sliced file function location)
slice_of _ _ _ = None

-- The command with its options and the words that are no options. Those of `slice` are the three behind its name; a file is the last word; the
-- input is what the word after `--hex` says.
abbrev pub command_of : Verb → Options → List (List ℕ) → Option Wanted
command_of verb.Explore o words = of_file (Explored o) (last_word words)
command_of verb.Run o words = run_of (input_of (word_after (codes "--hex") words)) o.steps (last_word words)
command_of verb.Print o words = of_file Printed (last_word words)
command_of verb.Sites o words = of_file Sited (last_word words)
command_of verb.Slice o words = slice_of (slice_get words 1) (slice_get words 2) (slice_get words 3)

abbrev pub asked_with : Option (Verb × Options) → List (List ℕ) → Option Wanted
asked_with (Some asked) words = command_of asked.0 asked.1 words
asked_with None words = None

-- what is wanted, where the words are in the table
abbrev pub wanted : List (List ℕ) → Option Wanted
wanted words = asked_with (asked_of (heard (Some nothing_heard) words)) words

abbrev pub counted : Option Heard → ℕ → ℕ
counted None n = 0
counted (Some s) n = n + 1

-- how many words stand where they may, from the first on
abbrev pub fitting : Option Heard → List (List ℕ) → ℕ
fitting s [] = 0
fitting s (word ∷ words) = counted (then_heard s word) (fitting (then_heard s word) words)

-- the place of the first word that may not stand there, or of the end
abbrev pub misfit : List (List ℕ) → ℕ
misfit words = fitting (Some nothing_heard) words

abbrev pub word_or_end : Option (List ℕ) → List ℕ
word_or_end None = codes "end"
word_or_end (Some word) = word

-- names the first word that doesn't fit, or says that words are missing
abbrev pub usage_line : List (List ℕ) → List ℕ
usage_line words = codes "usage " ++ word_or_end (slice_get words (misfit words)) ++ 10 ∷ []

-- the command as contracts see it
abbrev pub wanted_by : Command → Wanted
wanted_by (command.Explore options file) = Explored options (string_bytes file)
wanted_by (command.Run input steps file) = Ran input.items steps (string_bytes file)
wanted_by (command.Print file) = Printed (string_bytes file)
wanted_by (command.Sites file) = Sited (string_bytes file)
wanted_by (command.Slice file function location) = Sliced (string_bytes file) (string_bytes function) (string_bytes location)

-- the numbers of a command are within their ranges
abbrev pub IsInRange : Wanted → Type 0
IsInRange (Explored options file) = AreInRange options
IsInRange (Ran input steps file) = (1 ≤ steps) × (steps ≤ 1000000)
IsInRange (Printed file) = Unit {0}
IsInRange (Sited file) = Unit {0}
IsInRange (Sliced file function location) = Unit {0}

-- the words aren't in the table, and this is the place of the first that may not stand where it does
abbrev pub Misses : UsageError → List (List ℕ) → Type 0
Misses (Usage index) words = (wanted words ≡ None) × (index ≡ misfit words)
Misses Memory words = Unit {0}
