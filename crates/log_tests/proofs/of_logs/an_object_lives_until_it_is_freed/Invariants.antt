use Rattle.log_tests.proofs.of_logs.an_object_lives_until_it_is_freed.Given as goal

-- the table that was just opened
abbrev pub ghosts-lives_of : goal.ghosts-lives_of
ghosts-lives_of g a = record { book = a.opened.seen.book }
