-- Of two plans one at most comes before the other, and first best plans have the same paths.
use Rattle.std.proofs.Common.{List, refl, inl, inr, arith}
use Rattle.std.specs.List.{Contains}
use Rattle.std.proofs.lemmas.Bool.{cases_lt}
use Rattle.std.proofs.lemmas.List.Elements.{All-contains, All-contains_itself, All-weaker}
use Rattle.lane_planner.proofs.Words.{Advertised, PathWeights, Path, IsBest}
use Rattle.lane_planner.specs.FirstBest.{AgreeOn, ComesBefore, HaveSamePaths, IsFirstBest, IsOfUse}

-- ---- the order

-- nothing is lower than itself, so a path that leads is not in the other plan
not_in_other : (paths others : List Path) (ahead : ComesBefore paths others) → Contains others ahead.path → ⊥
not_in_other paths others ahead held = omega (arith, ahead.there ahead.path held refl)

pub one_before : (paths others : List Path) → ComesBefore paths others → ComesBefore others paths → ⊥
one_before paths others a b =
    elim (cases_lt a.path.host b.path.host) [
      | inl low ↦ not_in_other paths others a ((b.below a.path low).1 a.held)
      | inr high ↦ elim (cases_lt b.path.host a.path.host) [
        | inl low ↦ not_in_other others paths b ((a.below b.path low).1 b.held)
        | inr same ↦ omega (arith, a.there b.path b.held (omega (arith, high, same)), b.there a.path a.held (omega (arith, high, same)))
      ]
    ]

pub not_before_same : (paths others : List Path) → ComesBefore paths others → HaveSamePaths paths others → ⊥
not_before_same paths others ahead same = not_in_other paths others ahead ((same ahead.path).0 ahead.held)

-- ---- first best plans have the same paths

pub one_first : (advert : Advertised) (weights : PathWeights) (kept : List Path) (paths others : List Path) → IsFirstBest advert weights kept paths → IsFirstBest advert weights kept others → HaveSamePaths paths others
one_first advert weights kept paths others is other =
    elim (is.first others other.candidate) [
      | inl same ↦ same
      | inr ahead ↦ elim (other.first paths is.candidate) [
        | inl same ↦ λ path. ((same path).1, (same path).0)
        | inr behind ↦ absurd (one_before paths others ahead behind)
      ]
    ]

agree_via : (paths others more : List Path) (path : Path) → AgreeOn paths others path → AgreeOn others more path → AgreeOn paths more path
agree_via paths others more path first then = ((λ held. then.0 (first.0 held)), (λ held. first.1 (then.1 held)))

-- and a best plan with the paths of a first one is first
pub first_of_same : (advert : Advertised) (weights : PathWeights) (kept paths others : List Path) → IsBest advert weights kept paths → HaveSamePaths paths others → IsFirstBest advert weights kept others → IsFirstBest advert weights kept paths
first_of_same advert weights kept paths others best same is =
    let Use : Path → Type 0 = IsOfUse weights kept in
    record {
      candidate = record {
        best = best;
        of_use = All-weaker (Contains paths) Use (λ path held. All-contains Use others path is.candidate.of_use ((same path).0 held)) paths (All-contains_itself paths);
      };
      first = λ more candidate. elim (is.first more candidate) [
        | inl alike ↦ inl (λ path. agree_via paths others more path (same path) (alike path))
        | inr ahead ↦ inr (record {
          path = ahead.path;
          held = (same ahead.path).1 ahead.held;
          below = λ low is_below. agree_via paths others more low (same low) (ahead.below low is_below);
          there = ahead.there;
        })
      ];
    }
