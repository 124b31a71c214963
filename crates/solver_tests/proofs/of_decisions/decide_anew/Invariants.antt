use Rattle.solver_tests.proofs.of_decisions.decide_anew.Given as goal

-- the table that was just opened
abbrev pub ghosts-decide_in : goal.ghosts-decide_in
ghosts-decide_in a = record { book = a.opened.seen.book }
