use Rattle.term_tests.proofs.of_terms.two_threads_make_terms_of_one_table.Given as goal

-- the table that was just opened
abbrev pub ghosts-made_by_two : goal.ghosts-made_by_two
ghosts-made_by_two g a = record { book = a.opened.seen.book }
