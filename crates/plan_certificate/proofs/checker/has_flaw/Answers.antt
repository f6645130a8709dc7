use Rattle.std.proofs.Common.{◌≡◌, ℕ, ◌+◌, List, None, Option, is_some, not, sym, subst, ap, ◌∙◌, arith}
use Rattle.std.specs.List.{All}
use Rattle.field_tables.specs.FirstFault.{first_fault}
use Rattle.plan_certificate.specs.declared.moves.Move.{Move}
use Rattle.plan_certificate.specs.declared.verdict.Flaw.{Flaw}
use Rattle.plan_certificate.specs.Certificates.{state_of}
use Rattle.plan_certificate.specs.Moves.{AreMoves, LeadsOn, decisions_by, moves_at}
use Rattle.plan_certificate.specs.Verdicts.{decisions_flaws, entry_flaws}
use Rattle.plan_certificate.proofs.HeaviestMoves.{heaviest_lead_on}
use Rattle.plan_certificate.proofs.MoveFlaws.{both_find, ended_has_none, entry_flaws_are, heaviest_have_none, none_of_heaviest}
use Rattle.plan_certificate.proofs.checker.has_flaw.Goals as goal

pub returns-then-entry-ge-HOST_LANES-clause-flaw : goal.returns-then-entry-ge-HOST_LANES-clause-flaw
returns-then-entry-ge-HOST_LANES-clause-flaw g c =
    sym (ap is_some (ended_has_none c.args.advert.now c.args.weights.now c.args.kept.now c.args.entries.now.entries c.args.number c.args.entry.now c.if-entry-ge-HOST_LANES.true))

pub decisions_flaw-requires : goal.decisions_flaw-requires
decisions_flaw-requires g c =
    let boundary : ℕ = c.args.entry.now.boundary in
    let moves = c.turn_to.new.self in
    let all = moves_at c.args.advert.now c.args.weights.now c.args.kept.now (boundary + 1) in
    let are : AreMoves c.args.advert.now c.args.weights.now c.args.kept.now boundary moves.followed.may_stay_free all moves.followed.moves.items =
    subst (λ (n : ℕ). AreMoves c.args.advert.now c.args.weights.now c.args.kept.now n moves.followed.may_stay_free (moves_at c.args.advert.now c.args.weights.now c.args.kept.now (n + 1)) moves.followed.moves.items) c.turn_to.ensures.boundary c.turn_to.ensures.moves in
    let lead = subst (All (LeadsOn boundary)) (sym c.as_slice-heaviest.ensures.value) (heaviest_lead_on boundary all moves.followed.moves.items are.heavy are.lead_on) in
    (omega arith, (c.if-entry-ge-HOST_LANES.false, lead))

pub returns-clause-flaw : goal.returns-clause-flaw
returns-clause-flaw g c =
    let entry = c.args.entry.now in
    let entries = c.args.entries.now.entries in
    let boundary : ℕ = entry.boundary in
    let moves = c.turn_to.new.self in
    let free = moves.followed.may_stay_free in
    let all = moves_at c.args.advert.now c.args.weights.now c.args.kept.now (boundary + 1) in
    let heaviest = moves.followed.moves.items in
    let are : AreMoves c.args.advert.now c.args.weights.now c.args.kept.now boundary free all heaviest =
    subst (λ (n : ℕ). AreMoves c.args.advert.now c.args.weights.now c.args.kept.now n free (moves_at c.args.advert.now c.args.weights.now c.args.kept.now (n + 1)) heaviest) c.turn_to.ensures.boundary c.turn_to.ensures.moves in
    let flaws : List Move → Option Flaw = λ moves. first_fault (decisions_flaws entries (c.args.number, entry) (decisions_by free (state_of entry) moves)) in
    let by_heaviest : c.decisions_flaw.result ≡ flaws heaviest = c.decisions_flaw.ensures ∙ ap flaws c.as_slice-heaviest.ensures.value in
    let by_all : first_fault (entry_flaws c.args.advert.now c.args.weights.now c.args.kept.now entries (c.args.number, entry)) ≡ flaws all =
    ap first_fault (entry_flaws_are c.args.advert.now c.args.weights.now c.args.kept.now entries c.args.number entry free all heaviest c.if-entry-ge-HOST_LANES.false are) in
    c.is_some.ensures ∙ ap is_some by_heaviest
    ∙ both_find (flaws heaviest) (flaws all) (none_of_heaviest entries (c.args.number, entry) free (state_of entry) all heaviest are.heavy) (heaviest_have_none entries (c.args.number, entry) free (state_of entry) all heaviest are.heavy)
    ∙ ap is_some (sym by_all)
