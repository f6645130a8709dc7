-- That IDs rise and counts are of lanes: computed tests of each table, and what they say.
use Rattle.std.proofs.Common.{◌≡◌, ◌<◌, ◌&&◌, Bool, true, List, [], ◌∷◌, get_or, nat_le, nat_lt, refl, arith}
use Rattle.std.specs.List.{AllPairs, list_all}
use Rattle.std.proofs.lemmas.Bool.{and_parts, ltb-true}
use Rattle.std.proofs.lemmas.List.Kept.{AllPairs-cons}
use Rattle.std.proofs.lemmas.List.Sums.{AllPass-from_list_all}
use Rattle.interface_lanes.specs.declared.row.Row.{Row}
use Rattle.interface_lanes.specs.HostInterfaces.{host_interface_lanes}
use Rattle.interface_lanes.specs.LanesById.{EachCountIsOfLanes, EachIdHasOneCount}
use Rattle.interface_lanes.specs.MultiModeMedia.{multi_mode_media_lanes}
use Rattle.interface_lanes.specs.SingleModeMedia.{single_mode_media_lanes}

-- ---- counts

abbrev is_of_lanes : Row → Bool
is_of_lanes row = nat_le 1 row.count && nat_le row.count 8

host_counts : list_all is_of_lanes host_interface_lanes ≡ true
unfolding host_interface_lanes
host_counts = refl

multi_mode_counts : list_all is_of_lanes multi_mode_media_lanes ≡ true
unfolding multi_mode_media_lanes
multi_mode_counts = refl

single_mode_counts : list_all is_of_lanes single_mode_media_lanes ≡ true
unfolding single_mode_media_lanes
single_mode_counts = refl

pub each_count_is_of_lanes : EachCountIsOfLanes
each_count_is_of_lanes = (
  AllPass-from_list_all is_of_lanes host_interface_lanes host_counts,
  (
    AllPass-from_list_all is_of_lanes multi_mode_media_lanes multi_mode_counts,
    AllPass-from_list_all is_of_lanes single_mode_media_lanes single_mode_counts,
  ),
)

-- ---- IDs

abbrev rises : List Row → Bool
rises [] = true
rises (row ∷ rows) = list_all (λ (later : Row). nat_lt row.id later.id) rows && rises rows

rising : (rows : List Row) → rises rows ≡ true → AllPairs (λ (row later : Row). row.id < later.id) rows
rising [] test = λ i j d less below. absurd (omega (arith, below))
rising (row ∷ rows) test =
    let later : Row → Bool = λ other. nat_lt row.id other.id in
    let parts = and_parts (list_all later rows) (rises rows) test in
    AllPairs-cons (λ (row later : Row). row.id < later.id) row rows
    (λ k d below. ltb-true row.id (get_or rows k d).id (AllPass-from_list_all later rows parts.0 k d below)) (rising rows parts.1)

host_rises : rises host_interface_lanes ≡ true
unfolding host_interface_lanes
host_rises = refl

multi_mode_rises : rises multi_mode_media_lanes ≡ true
unfolding multi_mode_media_lanes
multi_mode_rises = refl

single_mode_rises : rises single_mode_media_lanes ≡ true
unfolding single_mode_media_lanes
single_mode_rises = refl

pub each_id_has_one_count : EachIdHasOneCount
each_id_has_one_count = (rising host_interface_lanes host_rises, (rising multi_mode_media_lanes multi_mode_rises, rising single_mode_media_lanes single_mode_rises))
