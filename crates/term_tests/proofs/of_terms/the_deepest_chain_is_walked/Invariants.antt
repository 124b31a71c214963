use Rattle.term_tests.proofs.of_terms.the_deepest_chain_is_walked.Given as goal

-- the table that was just opened
abbrev pub ghosts-chain_value : goal.ghosts-chain_value
ghosts-chain_value g a = record { book = a.opened.seen.book }

abbrev pub ghosts-chains_alike : goal.ghosts-chains_alike
ghosts-chains_alike g a = record { book = a.opened.seen.book }
