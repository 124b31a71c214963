use Rattle.bench_programs.proofs.explorations.explored_anew.Given as goal

-- the table that was just opened
abbrev pub ghosts-explored : goal.ghosts-explored
ghosts-explored a = record { book = a.opened.seen.book }
