use Rattle.term_tests.proofs.of_places.each_place_has_its_own_number.Given as goal

-- the table that was just opened
abbrev pub ghosts-two_places : goal.ghosts-two_places
ghosts-two_places g a = record { book = a.opened.seen.book }
