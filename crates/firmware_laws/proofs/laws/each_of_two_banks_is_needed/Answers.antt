use Rattle.firmware_laws.proofs.NeededBanks.{commits_needed, downloads_needed, info_needed, question_needed, runs_needed}
use Rattle.firmware_laws.proofs.laws.each_of_two_banks_is_needed.Goals as goal

pub returns-clause-questions : goal.returns-clause-questions
returns-clause-questions c = question_needed

pub returns-clause-info : goal.returns-clause-info
returns-clause-info c = info_needed

pub returns-clause-downloads : goal.returns-clause-downloads
returns-clause-downloads c = downloads_needed

pub returns-clause-runs : goal.returns-clause-runs
returns-clause-runs c = runs_needed

pub returns-clause-commits : goal.returns-clause-commits
returns-clause-commits c = commits_needed
