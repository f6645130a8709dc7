use Rattle.saved_tests.proofs.ProcedureBack.{few}
use Rattle.saved_tests.proofs.restoring.test_at.Goals as goal

pub plan_in-requires : goal.plan_in-requires
plan_in-requires c = (few c.args.saved.now c.requires).plan

pub changes_in-requires : goal.changes_in-requires
changes_in-requires c = (few c.args.saved.now c.requires).on

pub changes_in-requires-2 : goal.changes_in-requires-2
changes_in-requires-2 c = (few c.args.saved.now c.requires).still_on

pub bytes_in-requires : goal.bytes_in-requires
bytes_in-requires c = (few c.args.saved.now c.requires).results
