-- What the grammar says of every list of tokens.
use Rattle.std.specs.Prelude.{◌≡◌, Bool, List, ◌⊎◌}
use Rattle.ir_tree.specs.declared.module.IrTree.{IrTree}
use Rattle.phrases.specs.Piece.{Piece}
use Rattle.phrases.specs.Reading.{IsRefusedAt}
use Rattle.ir_grammar.specs.Module.{module_text}

-- the tokens are a module, and this is its tree as it is written
abbrev pub IsModule : IrTree → List Piece → Type 0
IsModule tree ts = module_text.derives tree ts

-- they are none, and what is left begins with the first token that stands in no derivable list after those before it
abbrev pub IsRefused : List Piece → List Piece → Bool → Type 0
IsRefused ts rest named = IsRefusedAt module_text ts rest named

-- tokens have one tree at most
abbrev pub HasOneTree : Type 0
HasOneTree = (ts : List Piece) (a b : IrTree) → IsModule a ts → IsModule b ts → a ≡ b

-- they are a module, or they are refused
abbrev pub IsDecided : Type 0
IsDecided = (ts : List Piece) → ((tree : IrTree) × IsModule tree ts) ⊎ ((rest : List Piece) × (named : Bool) × IsRefused ts rest named)

-- and not both
abbrev pub IsNotBoth : Type 0
IsNotBoth = (ts rest : List Piece) (named : Bool) (tree : IrTree) → IsModule tree ts → IsRefused ts rest named → ⊥

-- they are refused at one place, and named as unsupported there or not
abbrev pub IsRefusedOnce : Type 0
IsRefusedOnce = (ts rest last : List Piece) (n m : Bool) → IsRefused ts rest n → IsRefused ts last m → (rest ≡ last) × (n ≡ m)
