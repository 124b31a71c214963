use Rattle.std.proofs.Common.{◌≡◌, ◌≤◌, ◌-◌, false, length, drop}
use Rattle.ir_lexer.specs.Lexing as spec
use Rattle.ir_lexer.proofs.text.past.Given as goal

abbrev pub invariant-blanks : goal.invariant-blanks
invariant-blanks l = record {
  within : l.at ≤ length l.bytes;
  so_far : spec.past l.in_comment l.fresh (drop l.at l.bytes) ≡ spec.past false l.fn.on_fresh_line (drop l.fn.from l.bytes);
}

abbrev pub decreases-blanks : goal.decreases-blanks
decreases-blanks l = length l.bytes - l.at
