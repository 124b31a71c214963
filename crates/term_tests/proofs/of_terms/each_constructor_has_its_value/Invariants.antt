use Rattle.term_tests.proofs.of_terms.each_constructor_has_its_value.Given as goal

-- the table that was just opened
abbrev pub ghosts-value_of_sum : goal.ghosts-value_of_sum
ghosts-value_of_sum g a = record { book = a.opened.seen.book }

abbrev pub ghosts-value_of_tests : goal.ghosts-value_of_tests
ghosts-value_of_tests g a = record { book = a.opened.seen.book }

abbrev pub ghosts-value_of_widths : goal.ghosts-value_of_widths
ghosts-value_of_widths g a = record { book = a.opened.seen.book }

abbrev pub ghosts-value_of_byte : goal.ghosts-value_of_byte
ghosts-value_of_byte g a = record { book = a.opened.seen.book }
