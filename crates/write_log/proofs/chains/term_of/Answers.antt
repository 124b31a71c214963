use Rattle.std.proofs.Common.{◌≡◌, ◌∙◌, ◌-◌, suc, take, sym, ap, arith}
use Rattle.sym_bytes.specs.Joining.{int_of}
use Rattle.log_laws.specs.Reading.{choose}
use Rattle.write_log.specs.Walks.{chosen_from}
use Rattle.write_log.proofs.Chained.{chosen_all, chosen_back, take_all}
use Rattle.write_log.proofs.chains.term_of.Goals as goal

pub back-init : goal.back-init
back-init g c =
    let cs = c.args.candidates.now in (
      chosen_all cs c.args.last.now ∙ ap (chosen_from cs) (sym c.in_ok-term.ensures.term) ∙ ap (λ ds. chosen_from ds c.in_ok-term.term) (sym (take_all cs)),
      (omega arith, c.in_ok-term.ensures.width),
    )

pub back-preserved : goal.back-preserved
back-preserved g c =
    let cs = c.args.candidates.now in
    let i = c.back.left - 1 in
    let one = c.index-candidates-left.result in
    let next : c.back.left ≡ suc (c.back.left - 1) = omega (arith, c.back-test.true) in (
      c.back.invariant.0
          ∙ chosen_back cs i c.back.left one c.back.term next (omega (arith, c.back-test.true, c.back.invariant.1.0)) c.index-candidates-left.is
          ∙ ap (λ o. chosen_from (take i cs) (choose one.test (int_of one.found) o)) c.in-Some.is
          ∙ ap (chosen_from (take i cs)) (sym c.in_ok-term-in-Some.ensures.term),
      (omega (arith, c.back.invariant.1.0), c.in_ok-term-in-Some.ensures.width),
    )
