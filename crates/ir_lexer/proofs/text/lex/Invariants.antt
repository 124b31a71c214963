use Rattle.std.proofs.Common.{◌≤◌, ◌-◌, ◌++◌, List, true, false, length, drop}
use Rattle.ir_lexer.specs.declared.token.Token.{Token}
use Rattle.ir_lexer.specs.Lexing.{past, PartsInto}
use Rattle.ir_lexer.proofs.text.lex.Given as goal

-- the tokens so far and any of the rest are tokens of all
abbrev pub invariant-tokens : goal.invariant-tokens
invariant-tokens l = record {
  within : l.at ≤ length l.bytes;
  so_far : (ts : List Token) → PartsInto (length l.bytes) (drop l.at l.bytes) ts → PartsInto (length l.bytes) (past false true l.bytes) (l.tokens.items ++ ts);
}

abbrev pub decreases-tokens : goal.decreases-tokens
decreases-tokens l = length l.bytes - l.at
