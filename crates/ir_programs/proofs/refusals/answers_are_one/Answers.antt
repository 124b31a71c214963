use Rattle.ir_programs.proofs.Told.{first_is_told, program_is_one, not_both}
use Rattle.ir_programs.proofs.refusals.answers_are_one.Goals as goal

pub returns : goal.returns
returns c = record { told = first_is_told; one = program_is_one; apart = not_both }
