use Rattle.std.proofs.Common.{Some, None, true, false}
use Rattle.conversations.proofs.PausingLaws.{goes_on_spaced}
use Rattle.conversations.specs.declared.watching.Look.TheVariants.{Left}
use Rattle.conversations.specs.declared.watching.Watched.TheVariants as watched
use Rattle.control_sets.specs.Progress.{GoesOn}
use Rattle.control_sets.proofs.Turns.{patiently_spaced, stopped}
use Rattle.conversations.proofs.WatchingLaws.{each_looks, looks_spaced}
use Rattle.control_sets.proofs.laws.watchful_procedures_have_their_outcomes.Goals as goal

pub returns-clause-ended : goal.returns-clause-ended
returns-clause-ended c patience work events spent (look, (own, adds, ended)) = (own, look, adds, ended)

pub returns-clause-left : goal.returns-clause-left
returns-clause-left c patience work events code (op, (own, adds, on)) =
    let (next, idle, (inner, pauses, goes)) = on.0 in
    (own, op, adds, stopped patience work inner own (Some next) false idle pauses goes)

pub returns-clause-spaced : goal.returns-clause-spaced
returns-clause-spaced c patience work events (watched.InOrder spent) (look, (own, adds, ended)) =
    (looks_spaced true patience.pause own events look None adds (patiently_spaced patience work own spent.end ended.ended), each_looks own events look None adds)
returns-clause-spaced c patience work events (watched.Left code) (op, (own, adds, on)) =
    (looks_spaced true patience.pause own events (Left code) (Some op) adds (goes_on_spaced patience (GoesOn true work) own on.0), each_looks own events (Left code) (Some op) adds)
