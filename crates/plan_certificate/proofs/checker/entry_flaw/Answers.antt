use Rattle.std.proofs.Common.{◌≡◌, ℕ, ◌+◌, ◌-◌, List, Option, sym, subst, ap, ◌∙◌, arith}
use Rattle.std.specs.List.{All}
use Rattle.field_tables.specs.FirstFault.{first_fault}
use Rattle.plan_certificate.specs.declared.moves.Move.{Move}
use Rattle.plan_certificate.specs.declared.state.Decision.{Decision}
use Rattle.plan_certificate.specs.declared.verdict.Flaw.{Flaw}
use Rattle.plan_certificate.specs.Certificates.{state_of}
use Rattle.plan_certificate.specs.Moves.{LeadsOn, decisions_by, moves_at}
use Rattle.plan_certificate.specs.Verdicts.{decisions_flaws}
use Rattle.plan_certificate.proofs.MoveDecisions.{decisions_are}
use Rattle.plan_certificate.proofs.checker.entry_flaw.Goals as goal

pub decisions_flaw-requires : goal.decisions_flaw-requires
decisions_flaw-requires g c =
    let boundary : ℕ = c.args.entry.now.boundary in
    let same : boundary + 1 - 1 ≡ boundary = omega arith in
    (omega arith, (c.requires.started, subst (All (LeadsOn boundary)) (sym c.as_slice.ensures.value) (subst (λ (n : ℕ). All (LeadsOn n) c.put_moves.new.moves.items) same c.put_moves.ensures.lead_on)))

pub returns : goal.returns
returns g c =
    let entry = c.args.entry.now in
    let all = moves_at c.args.advert.now c.args.weights.now c.args.kept.now (entry.boundary + 1) in
    let flaws : List Decision → Option Flaw = λ decisions. first_fault (decisions_flaws c.args.entries.now.entries (c.args.number, entry) decisions) in
    c.decisions_flaw.ensures
    ∙ ap (λ (moves : List Move). flaws (decisions_by c.may_stay_free-free.result (state_of entry) moves)) (c.as_slice.ensures.value ∙ c.put_moves.ensures.moves)
    ∙ (λ i. flaws (decisions_by (c.may_stay_free-free.ensures i) (state_of entry) all))
    ∙ ap flaws (sym (decisions_are c.args.advert.now c.args.weights.now c.args.kept.now (state_of entry) c.requires.started))
