use Rattle.log_tests.proofs.of_bytes.bytes_make_their_value_again.Given as goal

-- the table that was just opened
abbrev pub ghosts-joins : goal.ghosts-joins
ghosts-joins g a = record { book = a.opened.seen.book }
