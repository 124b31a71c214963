use Rattle.std.proofs.Common.{◌≡◌, ◌↔◌, None}
use Rattle.std.proofs.lemmas.Result.{IfOk-weaker}
use Rattle.flow.specs.Answers.{NamesFirst}
use Rattle.flow.specs.Flow.{AreDefined}
use Rattle.flow.proofs.Exact.{Found, none_exactly, some_exactly}
use Rattle.flow.proofs.finding.first_undefined.Goals as goal

pub returns : goal.returns
returns c =
    let f = c.args.func.now in
    record {
      none = IfOk-weaker c.find.result (Found f) (λ found. (found ≡ None) ↔ AreDefined f) (none_exactly f) c.find.ensures;
      first = IfOk-weaker c.find.result (Found f) (NamesFirst f) (some_exactly f) c.find.ensures;
    }
