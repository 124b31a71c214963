use Rattle.log_tests.proofs.of_conditions.a_list_has_each_conjunct_once.Given as goal

-- the table that was just opened
abbrev pub ghosts-told : goal.ghosts-told
ghosts-told g a = record { book = a.opened.seen.book }
