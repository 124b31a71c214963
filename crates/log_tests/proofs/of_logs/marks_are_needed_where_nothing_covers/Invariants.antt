use Rattle.log_tests.proofs.of_logs.marks_are_needed_where_nothing_covers.Given as goal

-- the table that was just opened
abbrev pub ghosts-needs_of : goal.ghosts-needs_of
ghosts-needs_of g a = record { book = a.opened.seen.book }
