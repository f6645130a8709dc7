use Rattle.std.proofs.Common.{refl}
use Rattle.saved_tests.proofs.ProcedureBack.{under_way}
use Rattle.saved_tests.proofs.saving.save.Goals as goal

pub returns : goal.returns
returns c =
    under_way _ c.args.procedure.now (record {
      sound = c.numbers_of_test-test.ensures.sound;
      test = c.numbers_of_test-test.ensures.same;
      selection = c.numbers_of_page-page.ensures;
      taken = c.numbers_of_taken-taken.ensures;
      doubts = c.number_of-doubts.ensures;
      pause = refl;
      limit = refl;
      due = c.number_of-due.ensures;
      idle = refl;
      steps = refl;
      most = refl;
    })
