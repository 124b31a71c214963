-- What a reader of the code returns is what its phrase gives, unless memory ran out.
use Rattle.std.specs.Prelude.{◌≡◌, Result, Ok, Err}
use Rattle.phrases.specs.Phrase.{Outcome, got, refused}
use Rattle.reader_words.specs.declared.stop.Stop.{Stop}
use Rattle.reader_words.specs.declared.stop.Stop.TheVariants.{Memory, Refused}
use Rattle.reader_words.specs.declared.source.Source.{Source}
use Rattle.reader_words.specs.Source.{pieces}

-- refused at the same token, and named or not
abbrev pub Fails : {A : Type 0} → Stop → Outcome A → Type 0
Fails Memory read = Unit {0}
Fails (Refused named rest) read = read ≡ refused named (pieces rest)

-- a value and the tokens after it
abbrev pub Gives : {A : Type 0} → Result (A × Source) Stop → Outcome A → Type 0
Gives (Ok x) read = read ≡ got x.0 (pieces x.1)
Gives (Err e) read = Fails e read

-- the tokens after what has no value
abbrev pub Moves : Result Source Stop → Outcome (Unit {0}) → Type 0
Moves (Ok rest) read = read ≡ got tt (pieces rest)
Moves (Err e) read = Fails e read

-- a value, seen as the grammar has it, and the tokens after it
abbrev pub GivesAs : {A B : Type 0} → (A → B) → Result (A × Source) Stop → Outcome B → Type 0
GivesAs view (Ok x) read = read ≡ got (view x.0) (pieces x.1)
GivesAs view (Err e) read = Fails e read
