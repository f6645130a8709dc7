-- How a certificate is judged: its flaws in order, of which the first counts. (docs/planning.md, "The checker"; this
-- project's own)
use Rattle.std.specs.Prelude.{ℕ, ◌+◌, ◌-◌, ◌==◌, Bool, not, nat_lt, List, [], ◌∷◌, ◌++◌, Option, Some, None, map, take, find, flat_map}
use Rattle.std.specs.Bool.{beq}
use Rattle.std.specs.List.{enumerate_from}
use Rattle.std.specs.Option.{option_map, unwrap_or, is_none}
use Rattle.field_tables.specs.FirstFault.{first_fault}
use Rattle.applications.specs.Advertised.{Advertised}
use Rattle.applications.specs.AppWeights.{PathWeights}
use Rattle.plan_certificate.specs.declared.path.Path.{Path}
use Rattle.plan_certificate.specs.declared.state.State.{State}
use Rattle.plan_certificate.specs.declared.state.Decision.{Decision}
use Rattle.plan_certificate.specs.declared.certificate.Entry.{Entry}
use Rattle.plan_certificate.specs.declared.verdict.Verdict.{Verdict}
use Rattle.plan_certificate.specs.declared.verdict.Verdict.TheVariants.{Good, Bad}
use Rattle.plan_certificate.specs.declared.verdict.Flaw.{Flaw}
use Rattle.plan_certificate.specs.declared.verdict.Reason.{Reason}
use Rattle.plan_certificate.specs.declared.verdict.Reason.TheVariants.{KeptNotAdmissible, PathNotAllowed, LaneTwice, KeptMissing, WeightWrong, NoStart, NotClosed, TooLow, StartNotWeight, PairingDiffers}
use Rattle.plan_certificate.specs.Paths.{is_allowed}
use Rattle.plan_certificate.specs.Plans.{plan_weight}
use Rattle.plan_certificate.specs.KeptPaths.{is_among, is_apart_from, may_join}
use Rattle.plan_certificate.specs.States.{start, state_place, decisions_from}
use Rattle.plan_certificate.specs.Certificates.{Claim, state_of, entry_place}

-- what may be wrong, and whether it is
abbrev pub PossibleFlaw : Type 0
PossibleFlaw = Bool × Flaw

abbrev pub Flaws : Type 0
Flaws = List PossibleFlaw

abbrev pub flaw : Reason → ℕ → Flaw
flaw reason number = record { reason = reason; number = number }

-- it is for modules that pair first lanes, and this one does not, or the other way round
abbrev pub pairing_flaw : Advertised → Bool → PossibleFlaw
pairing_flaw advert paired = (not (beq paired advert.paired), flaw PairingDiffers 0)

-- a kept path that isn't allowed, or takes a lane of a kept path before it; kept paths count from 1
abbrev pub kept_flaw : Advertised → List Path → ℕ × Path → PossibleFlaw
kept_flaw advert kept (number, path) = (not (may_join advert (take (number - 1) kept) path), flaw KeptNotAdmissible number)

-- a path that isn't allowed; paths count from 1
abbrev pub path_flaw : Advertised → ℕ × Path → PossibleFlaw
path_flaw advert (number, path) = (not (is_allowed advert path), flaw PathNotAllowed number)

-- a path that takes a lane of a path before it
abbrev pub lane_flaw : Advertised → List Path → ℕ × Path → PossibleFlaw
lane_flaw advert paths (number, path) = (not (is_apart_from advert (take (number - 1) paths) path), flaw LaneTwice number)

-- a kept path that the plan lacks
abbrev pub missing_flaw : List Path → ℕ × Path → PossibleFlaw
missing_flaw paths (number, path) = (not (is_among paths path), flaw KeptMissing number)

unfoldable pub kept_flaws : Advertised → List Path → Flaws
kept_flaws advert kept = map (kept_flaw advert kept) (enumerate_from 1 kept)

unfoldable pub path_flaws : Advertised → List Path → Flaws
path_flaws advert paths = map (path_flaw advert) (enumerate_from 1 paths)

unfoldable pub lane_flaws : Advertised → List Path → Flaws
lane_flaws advert paths = map (lane_flaw advert paths) (enumerate_from 1 paths)

unfoldable pub missing_flaws : List Path → List Path → Flaws
missing_flaws kept paths = map (missing_flaw paths) (enumerate_from 1 kept)

-- the number of the first kept path that isn't allowed, or takes a lane of a kept path before it
abbrev pub kept_fault : Advertised → List Path → Option ℕ
kept_fault advert kept = option_map (λ found. found.number) (first_fault (kept_flaws advert kept))

abbrev pub plan_flaws : Advertised → List Path → Flaws
plan_flaws advert paths = path_flaws advert paths ++ lane_flaws advert paths

-- the kept paths', the plan's, and then the plan's if it lacks kept ones
abbrev pub paths_flaws : Advertised → List Path → List Path → Flaws
paths_flaws advert kept paths = kept_flaws advert kept ++ (plan_flaws advert paths ++ missing_flaws kept paths)

-- the potential of a state, if it has an entry
unfoldable pub potential_of : List Entry → State → Option ℕ
potential_of entries state = option_map (λ entry. entry.potential) (find (λ entry. entry_place entry == state_place state) entries)

-- a decision to a state without an entry, or to one from which too much can still be gained; entries count from 1
abbrev pub decision_flaws : List Entry → ℕ × Entry → Decision → Flaws
decision_flaws entries (number, entry) decision =
    (is_none (potential_of entries decision.end), flaw NotClosed number)
    ∷ (nat_lt entry.potential (decision.weight + unwrap_or (potential_of entries decision.end) 0), flaw TooLow number)
    ∷ []

-- the flaws of decisions from an entry's state
abbrev pub decisions_flaws : List Entry → ℕ × Entry → List Decision → Flaws
decisions_flaws entries entry decisions = flat_map (decision_flaws entries entry) decisions

abbrev pub entry_flaws : Advertised → PathWeights → List Path → List Entry → ℕ × Entry → Flaws
entry_flaws advert weights kept entries entry = decisions_flaws entries entry (decisions_from advert weights kept (state_of entry.1))

unfoldable pub entries_flaws : Advertised → PathWeights → List Path → List Entry → Flaws
entries_flaws advert weights kept entries = flat_map (entry_flaws advert weights kept entries) (enumerate_from 1 entries)

-- entries that don't bound what can be gained, or not by the weight
unfoldable pub bound_flaws : Advertised → PathWeights → List Path → List Entry → ℕ → Flaws
bound_flaws advert weights kept entries weight =
    (is_none (potential_of entries start), flaw NoStart 0)
    ∷ entries_flaws advert weights kept entries
    ++ (not (unwrap_or (potential_of entries start) 0 == weight), flaw StartNotWeight 0)
    ∷ []

abbrev pub all_flaws : Advertised → PathWeights → Claim → Flaws
all_flaws advert weights certificate =
    pairing_flaw advert certificate.paired
    ∷ paths_flaws advert certificate.kept certificate.paths
    ++ (not (certificate.weight == plan_weight weights certificate.paths), flaw WeightWrong 0)
    ∷ bound_flaws advert weights certificate.kept certificate.entries certificate.weight

abbrev pub judged : Option Flaw → Verdict
judged None = Good
judged (Some found) = Bad found.reason found.number

unfoldable pub verdict : Advertised → PathWeights → Claim → Verdict
verdict advert weights certificate = judged (first_fault (all_flaws advert weights certificate))
