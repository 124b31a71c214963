use Rattle.typed_runs.proofs.Types.{operand_has}
use Rattle.typed_runs.proofs.operands_are_typed.Goals as goal

pub returns : goal.returns
returns c = operand_has
