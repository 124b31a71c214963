use Rattle.std.proofs.Common.{sym, ap, ◌∙◌}
use Rattle.leaf_lines.specs.Values.{with_results}
use Rattle.leaf_lines.proofs.Fits.{with_results-newest}
use Rattle.leaf_lines.proofs.shown.with_results.Goals as goal

pub calls-preserved : goal.calls-preserved
calls-preserved g c =
    ap (with_results c.in-Some.rest.now) c.with_result-shown.ensures
    ∙ (sym (with_results-newest c.in-Some.rest.now c.in-Some.newest.now c.calls.shown.now)
    ∙ (ap (λ results. with_results results c.calls.shown.now) (sym c.in-Some.ensures.cases.0) ∙ c.calls.invariant))
