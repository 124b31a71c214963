use Rattle.std.proofs.Common.{refl, arith}
use Rattle.std.proofs.lemmas.Option.{slice_get_read, MatchOption-at_some, MatchOption-at_none}
use Rattle.checks.specs.Errors.{IsCleanFunc, IsFirstIn, func_of}
use Rattle.checks.proofs.Firsts.{clean_funcs_more, all_clean}
use Rattle.checks.proofs.checking.first_among.Goals as goal

pub returns-in-Some : goal.returns-in-Some
returns-in-Some c =
    let funcs = c.args.funcs.now in
    let f = c.index-funcs-at.result in
    record {
      function = c.loop-at.at;
      func = f;
      there = slice_get_read funcs _ c.loop-at.at f refl (omega arith) c.index-funcs-at.is;
      first = MatchOption-at_some (IsCleanFunc funcs f) (IsFirstIn funcs (func_of c.loop-at.at) f) c.in-Some.failed c.in-Some.is c.in_ok-found.ensures;
      lowest = c.loop-at.invariant;
    }

pub loop-at-preserved : goal.loop-at-preserved
loop-at-preserved c =
    let funcs = c.args.funcs.now in
    let f = c.index-funcs-at.result in
    clean_funcs_more funcs c.loop-at.at f c.loop-at.invariant (slice_get_read funcs _ c.loop-at.at f refl (omega arith) c.index-funcs-at.is)
    (MatchOption-at_none (IsCleanFunc funcs f) (IsFirstIn funcs (func_of c.loop-at.at) f) c.in-None.is c.in_ok-found.ensures)

pub returns : goal.returns
returns c = all_clean c.args.funcs.now (λ j lt. c.loop-at.invariant j (omega arith))
