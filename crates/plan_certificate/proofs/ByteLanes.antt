-- Sets of used media lanes that a byte can say: those of entries, and of where their decisions lead.
use Rattle.std.proofs.Common.{◌≡◌, ℕ, ◌+◌, ◌-◌, ◌^◌, ◌<◌, ◌≤◌, Bool, true, false, List, [], ◌∷◌, ◌++◌, map, filter, cond, nat_lt, sym, subst, ap, ◌∙◌, inl, inr, arith, bit_or}
use Rattle.std.specs.List.{AllByRecursion}
use Rattle.std.specs.FinSet as set
use Rattle.std.proofs.lemmas.Bool.{cases_Bool, and_parts}
use Rattle.std.proofs.Math.Nat.{one-le-pow}
use Rattle.std.proofs.Math.Pow.{pow_mono, pow-sub-lt}
use Rattle.std.proofs.lemmas.Nat.{or_lt}
use Rattle.field_tables.specs.LaneSets.{Lanes, lanes_in, byte_of, run_of}
use Rattle.field_tables.specs.LaneBytes.{byte_of-lanes_in}
use Rattle.field_tables.proofs.LaneLaws.{lanes_in-or, lanes_in-mask, lanes_in-zero}
use Rattle.applications.specs.Advertised.{Advertised}
use Rattle.applications.specs.AppWeights.{PathWeights}
use Rattle.plan_certificate.specs.declared.path.Path.{Path}
use Rattle.plan_certificate.specs.declared.state.State.{State}
use Rattle.plan_certificate.specs.declared.state.Decision.{Decision}
use Rattle.plan_certificate.specs.Paths.{app_of}
use Rattle.plan_certificate.specs.KeptPaths.{may_stay_free}
use Rattle.plan_certificate.specs.States.{fits, free_decisions, path_decision, path_decisions, paths_at, decisions_from}
use Rattle.plan_certificate.proofs.Heaviest.{allowed}
use Rattle.plan_certificate.proofs.KeptPaths.{eligible_allowed}
use Rattle.plan_certificate.proofs.Lists.{all_of_append}

pub record IsByte (lanes : Lanes) : Type 0 where
  pub byte : ℕ
  pub below : byte < 256
  pub is : lanes ≡ lanes_in byte

pub lanes_of_byte : (lanes : Lanes) → IsByte lanes → lanes_in (byte_of lanes) ≡ lanes
lanes_of_byte lanes h = ap (λ (l : Lanes). lanes_in (byte_of l)) h.is ∙ ap lanes_in (byte_of-lanes_in h.byte h.below) ∙ sym h.is

union_is_byte : (lanes : Lanes) (first count : ℕ) → IsByte lanes → 1 ≤ first → first + count ≤ 9 → IsByte (set.union lanes (run_of first count))
union_is_byte lanes first count h from to =
    let mask : ℕ = 2 ^ (first - 1 + count) - 2 ^ (first - 1) in
    let last : first - 1 + count ≤ 8 = omega (arith, from, to) in
    let small : mask < 2 ^ 8 = omega (arith, pow-sub-lt (first - 1 + count) (one-le-pow (first - 1) 2 (omega arith)), pow_mono last) in
    record {
      byte = bit_or h.byte mask;
      below = or_lt 8 h.byte mask (omega (arith, h.below)) small;
      is = (λ i. set.union (h.is i) (sym (lanes_in-mask first count from to) i)) ∙ sym (lanes_in-or h.byte mask);
    }

pub start_is_byte : IsByte set.empty
start_is_byte = record { byte = 0; below = omega arith; is = sym lanes_in-zero }

abbrev EndsAtByte : Decision → Type 0
EndsAtByte decision = IsByte decision.end.used

decisions_end_at_bytes : (advert : Advertised) (weights : PathWeights) (kept : List Path) (state : State) (paths : List Path) → IsByte state.used → AllByRecursion EndsAtByte (path_decisions advert weights kept state paths)
unfolding path_decisions
decisions_end_at_bytes advert weights kept state [] is_byte = tt
decisions_end_at_bytes advert weights kept state (path ∷ paths) is_byte =
    let rest = decisions_end_at_bytes advert weights kept state paths is_byte in
    let Made : Bool → Type 0 = λ b. AllByRecursion EndsAtByte (map (path_decision advert weights state) (cond b (path ∷ filter (fits advert kept state) paths) (filter (fits advert kept state) paths))) in
    elim (cases_Bool (fits advert kept state path)) [
      | inl does ↦
          let lanes = allowed advert path (eligible_allowed advert kept path (and_parts _ _ does).0) in
          subst Made (sym does) (union_is_byte state.used path.media (app_of advert path).media_lanes is_byte lanes.media_from lanes.media_to, rest)
      | inr fails ↦ subst Made (sym fails) rest
    ]

free_ends_at_byte : (may : Bool) (state : State) → IsByte state.used → AllByRecursion EndsAtByte (free_decisions may state)
free_ends_at_byte true state is_byte = (is_byte, tt)
free_ends_at_byte false state is_byte = tt

pub each_end_is_byte : (advert : Advertised) (weights : PathWeights) (kept : List Path) (state : State) → IsByte state.used → AllByRecursion EndsAtByte (decisions_from advert weights kept state)
unfolding decisions_from
each_end_is_byte advert weights kept state is_byte =
    let may : Bool = may_stay_free advert kept (state.boundary + 1) in
    let of_paths = path_decisions advert weights kept state (paths_at advert (state.boundary + 1)) in
    elim (nat_lt state.boundary 8) as (λ (b : Bool). AllByRecursion EndsAtByte (cond b (free_decisions may state ++ of_paths) [])) [
      | true ↦ all_of_append EndsAtByte (free_decisions may state) of_paths (free_ends_at_byte may state is_byte) (decisions_end_at_bytes advert weights kept state (paths_at advert (state.boundary + 1)) is_byte)
      | false ↦ tt
    ]
