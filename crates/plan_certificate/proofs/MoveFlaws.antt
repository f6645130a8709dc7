-- The flaws of the decisions of moves: where the heaviest moves have none, none has.
use Rattle.std.proofs.Common.{◌≡◌, ℕ, ◌+◌, ◌<◌, ◌≤◌, Bool, true, false, List, [], ◌∷◌, Option, Some, None, nat_lt, refl, sym, ap, ◌∙◌, arith}
use Rattle.std.specs.List.{flat_map}
use Rattle.std.specs.Option.{is_none, is_some, unwrap_or}
use Rattle.std.proofs.lemmas.Bool.Decides.{nat_tests}
use Rattle.field_tables.specs.FirstFault.{first_fault}
use Rattle.applications.specs.Advertised.{Advertised}
use Rattle.applications.specs.AppWeights.{PathWeights}
use Rattle.plan_certificate.specs.declared.certificate.Entry.{Entry}
use Rattle.plan_certificate.specs.declared.moves.Move.{Move}
use Rattle.plan_certificate.specs.declared.path.Path.{Path}
use Rattle.plan_certificate.specs.declared.state.State.{State}
use Rattle.plan_certificate.specs.declared.state.Decision.{Decision}
use Rattle.plan_certificate.specs.declared.verdict.Flaw.{Flaw}
use Rattle.plan_certificate.specs.declared.verdict.Reason.TheVariants.{NotClosed, TooLow}
use Rattle.plan_certificate.specs.Certificates.{state_of}
use Rattle.plan_certificate.specs.Moves.{AreHeaviest, AreMoves, move_decisions, decisions_by}
use Rattle.plan_certificate.specs.Verdicts.{Flaws, PossibleFlaw, entry_flaws, flaw, potential_of, decision_flaws, decisions_flaws}
use Rattle.plan_certificate.proofs.HeaviestMoves.{HoldsOfLighter, each_among, each_outweighed}
use Rattle.plan_certificate.proofs.MoveDecisions.{no_decisions, decisions_are}
use Rattle.plan_certificate.proofs.NoFlaw.{NoFlaw, flaw_first, none_of_each}

abbrev pub flaws_by : (Decision → Flaws) → State → List Move → Flaws
flaws_by flaws state moves = flat_map flaws (move_decisions state moves)

-- ---- the heaviest moves

lighter_none : (entries : List Entry) (entry : ℕ × Entry) → HoldsOfLighter (λ decision. NoFlaw (decision_flaws entries entry decision))
lighter_none entries (number, entry) decision weight light none =
    let later = potential_of entries decision.end in
    let Low : ℕ → Bool = λ w. nat_lt entry.potential (w + unwrap_or later 0) in
    let not_closed : PossibleFlaw = (is_none later, flaw NotClosed number) in
    let low : PossibleFlaw = (Low decision.weight, flaw TooLow number) in
    let lighter : PossibleFlaw = (Low weight, flaw TooLow number) in
    let first = (flaw_first not_closed (low ∷ [])).0 none in
    let second = (flaw_first low []).0 first.1 in
    let heavy : nat_lt entry.potential (decision.weight + unwrap_or later 0) ≡ false = second.0 in
    let test : nat_lt entry.potential (weight + unwrap_or later 0) ≡ false = grind (arith, nat_tests, heavy, light) in
    (flaw_first not_closed (lighter ∷ [])).1 (first.0, (flaw_first lighter []).1 (test, refl))

pub none_of_heaviest : (entries : List Entry) (entry : ℕ × Entry) (free : Bool) (state : State) (moves heaviest : List Move) → AreHeaviest moves heaviest → NoFlaw (decisions_flaws entries entry (decisions_by free state heaviest)) → NoFlaw (decisions_flaws entries entry (decisions_by free state moves))
none_of_heaviest entries entry free state moves heaviest are none =
    let flaws = decision_flaws entries entry in
    (none_of_each flaws (decisions_by free state moves)).1
    (each_outweighed free state (λ decision. NoFlaw (flaws decision)) moves heaviest (lighter_none entries entry) are ((none_of_each flaws (decisions_by free state heaviest)).0 none))

-- ---- an entry's flaws

pub entry_flaws_are : (advert : Advertised) (weights : PathWeights) (kept : List Path) (entries : List Entry) (number : ℕ) (entry : Entry) (free : Bool) (moves heaviest : List Move) → entry.boundary < 8 → AreMoves advert weights kept entry.boundary free moves heaviest
    → entry_flaws advert weights kept entries (number, entry) ≡ decisions_flaws entries (number, entry) (decisions_by free (state_of entry) moves)
entry_flaws_are advert weights kept entries number entry free moves heaviest below are =
    let flaws = decisions_flaws entries (number, entry) in
    ap flaws (decisions_are advert weights kept (state_of entry) below) ∙ (λ i. flaws (decisions_by (sym are.freed i) (state_of entry) (sym are.listed i)))

pub ended_has_none : (advert : Advertised) (weights : PathWeights) (kept : List Path) (entries : List Entry) (number : ℕ) (entry : Entry) → 8 ≤ entry.boundary → first_fault (entry_flaws advert weights kept entries (number, entry)) ≡ None
ended_has_none advert weights kept entries number entry past = ap (λ (decisions : List Decision). first_fault (decisions_flaws entries (number, entry) decisions)) (no_decisions advert weights kept (state_of entry) past)

pub none_is : (found : Option Flaw) → is_some found ≡ false → found ≡ None
none_is None is = refl
none_is (Some flaw) is = absurd cc

some_is : (found : Option Flaw) → (found ≡ None → ⊥) → is_some found ≡ true
some_is None some = absurd (some refl)
some_is (Some flaw) some = refl

-- one of two searches finds something where the other does
pub both_find : (one other : Option Flaw) → (one ≡ None → other ≡ None) → (other ≡ None → one ≡ None) → is_some one ≡ is_some other
both_find None other to back = ap is_some (sym (to refl))
both_find (Some flaw) other to back = sym (some_is other (λ none. (let wrong : Some flaw ≡ None = back none in cc)))

pub heaviest_have_none : (entries : List Entry) (entry : ℕ × Entry) (free : Bool) (state : State) (moves heaviest : List Move) → AreHeaviest moves heaviest → NoFlaw (decisions_flaws entries entry (decisions_by free state moves)) → NoFlaw (decisions_flaws entries entry (decisions_by free state heaviest))
heaviest_have_none entries entry free state moves heaviest are none =
    let flaws = decision_flaws entries entry in
    (none_of_each flaws (decisions_by free state heaviest)).1
    (each_among free state (λ decision. NoFlaw (flaws decision)) moves heaviest are ((none_of_each flaws (decisions_by free state moves)).0 none))

pub some_flaw : (found : Option Flaw) → is_some found ≡ true → (flaw : Flaw) × (found ≡ Some flaw)
some_flaw None some = absurd cc
some_flaw (Some flaw) some = (flaw, refl)
