use Rattle.solver_tests.proofs.of_conditions.gives.Given as goal

-- the table that was just opened
abbrev pub ghosts-clauses_of_operation : goal.ghosts-clauses_of_operation
ghosts-clauses_of_operation a = record { book = a.opened.seen.book }
