use Rattle.report.proofs.reporting.report_of.Given as goal

-- the table that was just opened
abbrev pub ghosts-report_in : goal.ghosts-report_in
ghosts-report_in a = record { book = a.opened.seen.book }
