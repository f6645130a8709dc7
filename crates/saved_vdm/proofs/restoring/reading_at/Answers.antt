use Rattle.saved_vdm.proofs.ReadingsBack.{few}
use Rattle.saved_vdm.proofs.restoring.reading_at.Goals as goal

pub pages_in-pages-requires : goal.pages_in-pages-requires
pages_in-pages-requires c = (few c.args.saved.now c.requires).pages

pub pages_in-todo-requires : goal.pages_in-todo-requires
pages_in-todo-requires c = (few c.args.saved.now c.requires).todo
