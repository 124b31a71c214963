use Rattle.term_tests.proofs.of_terms.a_deeper_chain_is_refused.Given as goal

-- the table that was just opened
abbrev pub ghosts-chains_alike : goal.ghosts-chains_alike
ghosts-chains_alike g a = record { book = a.opened.seen.book }
