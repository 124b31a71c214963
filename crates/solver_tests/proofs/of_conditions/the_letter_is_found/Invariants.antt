use Rattle.solver_tests.proofs.of_conditions.the_letter_is_found.Given as goal

-- the table that was just opened
abbrev pub ghosts-clauses_of_letter : goal.ghosts-clauses_of_letter
ghosts-clauses_of_letter g a = record { book = a.opened.seen.book }
