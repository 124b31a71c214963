use Rattle.std.proofs.Common.{◌≡◌, ◌∙◌, IfSome}
use Rattle.std.proofs.lemmas.Result.{IfOk-weaker}
use Rattle.slicer.specs.Locations.{IsLocationOf}
use Rattle.slice_lines.specs.Targets.{location_in}
use Rattle.slice_lines.proofs.Within.{named-is-location}
use Rattle.slice_lines.proofs.targets.location_named.Goals as goal

pub returns-clause-range : goal.returns-clause-range
returns-clause-range c =
    IfOk-weaker c.location_in.result (λ found. found ≡ location_in c.args.program.now c.as_bytes.result.now c.as_slice.result.now) (λ found. IfSome found (IsLocationOf c.args.program.now))
    (λ found e. named-is-location c.args.program.now c.args.func c.as_bytes.result.now c.as_slice.result.now found (c.as_slice.ensures.value ∙ c.in_ok-found.ensures) e) c.location_in.ensures
