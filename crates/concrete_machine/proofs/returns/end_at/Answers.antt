use Rattle.concrete_machine.proofs.returns.end_at.Goals as goal

pub returns-in-Alloca : goal.returns-in-Alloca
returns-in-Alloca c = rw c.in-Alloca.is (rw c.count_of.ensures at c.end_all_of.ensures)
