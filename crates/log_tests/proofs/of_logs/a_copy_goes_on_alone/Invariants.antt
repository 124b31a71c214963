use Rattle.log_tests.proofs.of_logs.a_copy_goes_on_alone.Given as goal

-- the table that was just opened
abbrev pub ghosts-lengths_of : goal.ghosts-lengths_of
ghosts-lengths_of g a = record { book = a.opened.seen.book }
