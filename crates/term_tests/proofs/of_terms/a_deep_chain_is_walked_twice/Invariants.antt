use Rattle.term_tests.proofs.of_terms.a_deep_chain_is_walked_twice.Given as goal

-- the table that was just opened
abbrev pub ghosts-chain_values : goal.ghosts-chain_values
ghosts-chain_values g a = record { book = a.opened.seen.book }
