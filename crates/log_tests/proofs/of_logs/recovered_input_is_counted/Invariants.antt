use Rattle.log_tests.proofs.of_logs.recovered_input_is_counted.Given as goal

-- the table that was just opened
abbrev pub ghosts-totals_of : goal.ghosts-totals_of
ghosts-totals_of g a = record { book = a.opened.seen.book }
