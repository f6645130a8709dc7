use Rattle.std.proofs.Common.{refl, subst, sym}
use Rattle.saved_update.specs.declared.work.Work.{Work}
use Rattle.saved_update.specs.declared.work.Work.TheVariants.{Asking}
use Rattle.saved_update.specs.Works.{HasRested}
use Rattle.saved_update.proofs.work.Work.waited.Goals as goal

pub returns-in-Asking-clause-rests : goal.returns-in-Asking-clause-rests
returns-in-Asking-clause-rests c =
    let later = c.waited-in-Asking.new.self in
    subst (λ (w : Work). HasRested c.args.file.now w (Asking c.in-Asking.question later)) (sym c.in-Asking.is)
    (later, c.waited-in-Asking.ensures.rested, refl)
