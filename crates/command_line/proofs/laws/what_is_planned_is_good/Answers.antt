use Rattle.command_line.proofs.CheckedPlans.{good_behind, good_behind_input, good_in_place}
use Rattle.command_line.proofs.laws.what_is_planned_is_good.Goals as goal

pub returns-clause-nothing_kept : goal.returns-clause-nothing_kept
returns-clause-nothing_kept c = good_behind_input

pub returns-clause-kept : goal.returns-clause-kept
returns-clause-kept c = good_behind

pub returns-clause-in_place : goal.returns-clause-in_place
returns-clause-in_place c = good_in_place
