-- Of paired first lanes one tells the other, and what a module that pairs them can carry, one that does not can carry too.
use Rattle.std.proofs.Common.{◌≡◌, ℕ, zero, suc, ◌+◌, ◌<◌, ◌≤◌, Bool, true, false, cond, List, ◌∷◌, count_by, get_or, sym, ap, ◌∙◌, inl, inr, arith}
use Rattle.std.proofs.lemmas.Bool.{cases_lt}
use Rattle.std.proofs.lemmas.Bool.Decides.{nat_tests}
use Rattle.std.proofs.lemmas.List.Sums.{sum_by-cons}
use Rattle.std.specs.List.{range_with_len}
use Rattle.std.specs.FinSet as set
use Rattle.field_tables.specs.LaneSets.{Lanes}
use Rattle.applications.specs.declared.app.App.{App}
use Rattle.applications.specs.Advertised.{Advertised, with_pairing}
use Rattle.plan_certificate.specs.declared.path.Path.{Path}
use Rattle.plan_certificate.specs.Paths.{app_of, is_allowed, is_before, rank}
use Rattle.plan_certificate.specs.Plans.{are_apart, IsAdmissible}
use Rattle.plan_certificate.proofs.Heaviest.{allowed}

-- ---- ranks

counted_first : (p : ℕ → Bool) (k : ℕ) (ks : List ℕ) → count_by p (k ∷ ks) ≡ cond (p k) 1 0 + count_by p ks
counted_first p k ks = sum_by-cons (λ x. cond (p x) 1 0) k ks

-- a lower lane has no more lanes before it
counts_at_most : (lanes : Lanes) (lane later a n : ℕ) → lane ≤ later → count_by (is_before lanes lane) (range_with_len a n) ≤ count_by (is_before lanes later) (range_with_len a n)
counts_at_most lanes lane later a zero order = omega arith
counts_at_most lanes lane later a (suc n) order =
    let rest = counts_at_most lanes lane later (a + 1) n order in
    let here = counted_first (is_before lanes lane) a (range_with_len (a + 1) n) in
    let there = counted_first (is_before lanes later) a (range_with_len (a + 1) n) in
    grind (arith, nat_tests, here, there, rest, order)

-- and fewer, if it is among them
counts_fewer : (lanes : Lanes) (lane later a n : ℕ) → lane < later → set.contains lanes lane ≡ true → a ≤ lane → lane < a + n
    → count_by (is_before lanes lane) (range_with_len a n) < count_by (is_before lanes later) (range_with_len a n)
counts_fewer lanes lane later a zero order held from to = absurd (omega (arith, from, to))
counts_fewer lanes lane later a (suc n) order held from to =
    let here = counted_first (is_before lanes lane) a (range_with_len (a + 1) n) in
    let there = counted_first (is_before lanes later) a (range_with_len (a + 1) n) in
    elim (cases_lt a lane) [
      | inl before ↦
          let rest = counts_fewer lanes lane later (a + 1) n order held (omega (arith, before)) (omega (arith, to)) in
          grind (arith, nat_tests, here, there, rest, order)
      | inr at ↦
          let is : a ≡ lane = omega (arith, at, from) in
          let rest = counts_at_most lanes lane later (a + 1) n (omega (arith, order)) in
          let holds : set.contains lanes a ≡ true = ap (set.contains lanes) is ∙ held in
          grind (arith, nat_tests, here, there, rest, order, is, holds)
    ]

-- lanes of one rank are one lane
pub rank_tells : (lanes : Lanes) (lane other : ℕ) → 1 ≤ lane → lane ≤ 8 → 1 ≤ other → other ≤ 8 → set.contains lanes lane ≡ true → set.contains lanes other ≡ true → rank lanes lane ≡ rank lanes other → lane ≡ other
unfolding rank
rank_tells lanes lane other from to other_from other_to held other_held same =
    elim (cases_lt lane other) [
      | inl lower ↦ absurd (omega (arith, same, counts_fewer lanes lane other 1 8 lower held from (omega (arith, to))))
      | inr not_lower ↦ elim (cases_lt other lane) [
        | inl higher ↦ absurd (omega (arith, same, counts_fewer lanes other lane 1 8 higher other_held other_from (omega (arith, other_to))))
        | inr not_higher ↦ omega (arith, not_lower, not_higher)
      ]
    ]

-- ---- paths

-- what pairing asks of an allowed path
record Joined (advert : Advertised) (path : Path) : Type 0 where
  starts : set.contains (app_of advert path).media_starts path.media ≡ true
  ranks : rank (app_of advert path).host_starts path.host ≡ rank (app_of advert path).media_starts path.media

joined : (advert : Advertised) (path : Path) → advert.paired ≡ true → is_allowed advert path ≡ true → Joined advert path
unfolding is_allowed
joined advert path paired can = record { starts = grind (arith, nat_tests); ranks = grind (arith, nat_tests) }

pub media_lane_told : (advert : Advertised) (path other : Path) → advert.paired ≡ true → is_allowed advert path ≡ true → is_allowed advert other ≡ true
    → path.app ≡ other.app → path.host ≡ other.host → path ≡ other
unfolding app_of
media_lane_told advert path other paired can may same_app same_host =
    let app : app_of advert path ≡ app_of advert other = λ i. app_of advert (record { app = same_app i; host = same_host i; media = path.media }) in
    let lanes = allowed advert path can in
    let others = allowed advert other may in
    let first = joined advert path paired can in
    let second = joined advert other paired may in
    let starts : Lanes = (app_of advert path).media_starts in
    let held : set.contains starts other.media ≡ true = ap (λ (a : App). set.contains a.media_starts other.media) app ∙ second.starts in
    let ranks : rank starts path.media ≡ rank starts other.media =
    sym first.ranks ∙ (λ i. rank (app i).host_starts (same_host i)) ∙ second.ranks ∙ ap (λ (a : App). rank a.media_starts other.media) (sym app) in
    let to : path.media ≤ 8 = omega (arith, lanes.media_to, lanes.media_some) in
    let other_to : other.media ≤ 8 = omega (arith, others.media_to, others.media_some) in
    let media = rank_tells starts path.media other.media lanes.media_from to others.media_from other_to first.starts held ranks in
    λ i. record { app = same_app i; host = same_host i; media = media i }

allowed_unpaired : (advert : Advertised) (path : Path) → is_allowed (with_pairing true advert) path ≡ true → is_allowed (with_pairing false advert) path ≡ true
unfolding is_allowed app_of
allowed_unpaired advert path can = grind (arith, nat_tests)

pub admissible_unpaired : (advert : Advertised) (paths : List Path) → IsAdmissible (with_pairing true advert) paths → IsAdmissible (with_pairing false advert) paths
unfolding are_apart app_of
admissible_unpaired advert paths is = record {
  allowed = λ k path below. allowed_unpaired advert (get_or paths k path) (is.allowed k path below);
  apart = is.apart;
}
