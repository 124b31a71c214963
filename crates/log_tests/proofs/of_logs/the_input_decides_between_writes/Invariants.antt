use Rattle.log_tests.proofs.of_logs.the_input_decides_between_writes.Given as goal

-- the table that was just opened
abbrev pub ghosts-bytes_of : goal.ghosts-bytes_of
ghosts-bytes_of g a = record { book = a.opened.seen.book }
