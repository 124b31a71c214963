use Rattle.std.proofs.Common.{arith}
use Rattle.std.proofs.lemmas.List.{length-map}
use Rattle.ir_grammar.specs.Tokens.{piece, seen}
use Rattle.reader_words.specs.Source.{pieces}
use Rattle.ir_reader.proofs.Told.{read_whole, trailing, stopped}
use Rattle.ir_reader.proofs.text.spelled.Goals as goal

pub returns-in-empty-clause-tree : goal.returns-in-empty-clause-tree
returns-in-empty-clause-tree c =
    read_whole (seen c.args.bytes.now c.args.tokens.now) (pieces c.in-Ok.rest) c.in-Ok.tree c.in-Ok.ensures (omega (arith, c.in-empty.len_below, length-map c.in-Ok.rest.tokens.now (piece c.in-Ok.rest.bytes.now)))

pub returns-in_default-clause-error : goal.returns-in_default-clause-error
returns-in_default-clause-error c =
    trailing c.args.bytes.now (seen c.args.bytes.now c.args.tokens.now) (pieces c.in-Ok.rest) c.in-Ok.tree _ c.in-Ok.ensures
    (omega (arith, c.in_default.len_at_least, length-map c.in-Ok.rest.tokens.now (piece c.in-Ok.rest.bytes.now))) c.refusal.ensures

pub returns-in-Err-Refused-clause-error : goal.returns-in-Err-Refused-clause-error
returns-in-Err-Refused-clause-error c =
    stopped c.args.bytes.now (seen c.args.bytes.now c.args.tokens.now) (pieces c.in-Err-Refused.rest) c.in-Err-Refused.named _ (rw c.in-Err-Refused.field-0-is at c.in-Err-Refused.ensures) c.refusal-in-Err-Refused.ensures
