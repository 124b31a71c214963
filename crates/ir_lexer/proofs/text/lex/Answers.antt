use Rattle.std.proofs.Common.{false, ◌+◌, subst, ap, arith, length, drop, length-drop}
use Rattle.ir_lexer.specs.Lexing.{IsTokenAt}
use Rattle.ir_lexer.proofs.Runs.{to_the_end_is}
use Rattle.ir_lexer.proofs.Lexed.{past_shrinks, with_token, at_the_end}
use Rattle.ir_lexer.proofs.text.lex.Goals as goal

pub tokens-smaller : goal.tokens-smaller
tokens-smaller c =
    let token = subst (λ bs. IsTokenAt bs c.in-Some.kind c.in-Some.len) (to_the_end_is c.args.bytes.now c.tokens.at) c.in-Some.ensures in
    omega (
      arith,
      ap length c.past-at-in-Some.ensures.value,
      c.past-at-in-Some.ensures.within,
      past_shrinks false false (drop (c.tokens.at + c.in-Some.len) c.args.bytes.now),
      length-drop c.past-at-in-Some.result c.args.bytes.now,
      length-drop (c.tokens.at + c.in-Some.len) c.args.bytes.now,
      length-drop c.tokens.at c.args.bytes.now,
      token.some,
      token.within,
      c.tokens-test.true,
    )

pub tokens-preserved : goal.tokens-preserved
tokens-preserved c =
    let token = subst (λ bs. IsTokenAt bs c.in-Some.kind c.in-Some.len) (to_the_end_is c.args.bytes.now c.tokens.at) c.in-Some.ensures in
    record {
      within = c.past-at-in-Some.ensures.within;
      so_far = with_token c.args.bytes.now c.tokens.tokens.items c.tokens.at c.tokens.invariant.so_far c.push.new.self.items c.in-Some.kind c.in-Some.len c.past-at-in-Some.result c.tokens-test.true token c.in_ok-push-in-Some.ensures.items c.past-at-in-Some.ensures.value;
    }

pub returns : goal.returns
returns c = at_the_end c.args.bytes.now c.tokens.tokens.items c.tokens.at c.tokens.invariant.so_far c.tokens-test.false
