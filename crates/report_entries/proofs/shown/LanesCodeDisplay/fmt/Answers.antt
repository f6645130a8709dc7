use Rattle.report_entries.proofs.shown.LanesCodeDisplay.fmt.Goals as goal

pub returns-clause-writes : goal.returns-clause-writes
returns-clause-writes g c = rw c.byte.ensures.byte at c.write.ensures.writes
