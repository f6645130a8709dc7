use Rattle.std.proofs.Common.{refl}
use Rattle.saved_vdm.proofs.ReadingsBack.{under_way}
use Rattle.saved_vdm.proofs.saving.save.Goals as goal

pub returns-clause-same : goal.returns-clause-same
returns-clause-same c =
    under_way _ c.args.reading.now (record {
      magic = refl;
      stage_known = c.numbers_of_stage-stage.ensures.known;
      statistics_known = c.number_of_statistics-statistics.ensures.known;
      release_known = c.number_of_release-release.ensures.known;
      pages_few = c.numbers_of_pages-pages.ensures.few;
      todo_few = c.numbers_of_pages-todo.ensures.few;
      todo_count = c.numbers_of_pages-todo.ensures.count;
      room = c.requires;
      pause = refl;
      bank = refl;
      stage = c.numbers_of_stage-stage.ensures.same;
      selection = c.numbers_of_page-page.ensures;
      left = refl;
      due = c.number_of-due.ensures;
      pages = c.numbers_of_pages-pages.ensures.same;
      todo = c.numbers_of_pages-todo.ensures.same;
      control = refl;
      statistics = c.number_of_statistics-statistics.ensures.same;
      release = c.number_of_release-release.ensures.same;
    })
