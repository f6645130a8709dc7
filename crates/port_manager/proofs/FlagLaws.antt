-- What was read as raised is counted and dated until it is acknowledged.
use Rattle.std.proofs.Common.{◌≡◌, ◌<◌, ◌≤◌, ◌+◌, ℕ, max, Bool, true, false, List, [], ◌∷◌, ◌++◌, sym, ap, subst, ◌∙◌, refl, arith, if◌then◌else◌}
use Rattle.std.specs.Prelude.{◌-◌, ◌^◌, min, nat_le, slice_index}
use Rattle.std.specs.List.{range_with_len}
use Rattle.std.proofs.lemmas.List.FromFn.{get_or-map-range_with_len}
use Rattle.std.specs.Prelude.{map}
use Rattle.bus_model.specs.declared.device.Dev.TheVariants.{A0, A2}
use Rattle.bus_model.specs.declared.operation.Op.{Op}
use Rattle.bus_model.specs.declared.operation.Op.TheVariants.{Fetch, Store}
use Rattle.bus_model.specs.declared.operation.Reply.{Reply}
use Rattle.bus_model.specs.declared.operation.Reply.TheVariants.{Bytes, Done, Refused}
use Rattle.paged_memory.specs.KnownPages.{is_known}
use Rattle.port_manager.specs.declared.deciding.Wanted.{Wanted}
use Rattle.port_manager.specs.declared.flags.Flags.{Flags}
use Rattle.port_manager.specs.declared.flags.FlagKeeper.{FlagKeeper}
use Rattle.port_manager.specs.declared.port.Outcome.{Outcome}
use Rattle.port_manager.specs.Flags.{counted, counted_at, counts_since, dated, dated_at, flags_by, identifier_by, is_cmis, is_raised, last_since, noted, since_at}
use Rattle.port_manager.specs.KeptFlags.{IsHeld, IsUnacknowledged, NoFlagIsLost, ShowsCmis, ShowsLane, ShowsModule, identifier_in, identifier_read}
use Rattle.port_manager.specs.KeptLanes.{IsUnknown, LaneEvent, NoLaneFlagIsLost, know, lanes_in, show}
use Rattle.port_manager.specs.Stories.{Story, acknowledge, ask, drop, keeper_in, make, plug, pull, reconsider, hold, demand, hear}

-- ---- one list of counts and one of moments

at_place : (f : ℕ → ℕ) (count place : ℕ) → place < count → slice_index (map f (range_with_len 0 count)) place ≡ f place
at_place f count place within = get_or-map-range_with_len f 0 count place place 0 within (omega arith)

one_more : (raised : Bool) (held : ℕ) → raised ≡ true → 1 ≤ (if raised then min (held + 1) (2 ^ 16 - 1) else held)
one_more true held e = omega arith
one_more false held e = absurd (let same : false ≡ true = e in cc)

no_fewer : (raised : Bool) (held : ℕ) → 1 ≤ held → 1 ≤ (if raised then min (held + 1) (2 ^ 16 - 1) else held)
no_fewer true held some = omega arith
no_fewer false held some = some

as_late : (raised : Bool) (held now : ℕ) → raised ≡ true → now ≤ (if raised then max held now else held)
as_late true held now e = omega arith
as_late false held now e = absurd (let same : false ≡ true = e in cc)

no_earlier : (raised : Bool) (held now moment : ℕ) → now ≤ held → now ≤ (if raised then max held moment else held)
no_earlier true held now moment late = omega (arith, late)
no_earlier false held now moment late = late

-- what the bytes show is held
new : (count : ℕ) (counts last : List ℕ) (offset : ℕ) (bytes : List ℕ) (first now place : ℕ) → place < count → is_raised offset bytes first place ≡ true
    → IsHeld (counted count counts offset bytes first) (dated count last offset bytes first now) now place
unfolding counted dated
new count counts last offset bytes first now place within raised = (
  subst (λ (n : ℕ). 1 ≤ n) (sym (at_place (counted_at counts offset bytes first) count place within)) (one_more (is_raised offset bytes first place) (slice_index counts place) raised),
  subst (λ (n : ℕ). now ≤ n) (sym (at_place (dated_at last offset bytes first now) count place within)) (as_late (is_raised offset bytes first place) (slice_index last place) now raised),
)

-- what was held is still
still : (count : ℕ) (counts last : List ℕ) (offset : ℕ) (bytes : List ℕ) (first now moment place : ℕ) → place < count → IsHeld counts last now place
    → IsHeld (counted count counts offset bytes first) (dated count last offset bytes first moment) now place
unfolding counted dated
still count counts last offset bytes first now moment place within held = (
  subst (λ (n : ℕ). 1 ≤ n) (sym (at_place (counted_at counts offset bytes first) count place within)) (no_fewer (is_raised offset bytes first place) (slice_index counts place) held.0),
  subst (λ (n : ℕ). now ≤ n) (sym (at_place (dated_at last offset bytes first moment) count place within)) (no_earlier (is_raised offset bytes first place) (slice_index last place) now moment held.1),
)

later_than : (past value : ℕ) → past < value → nat_le value past ≡ false
later_than past value late = grind (arith, late)

-- what was read after the moment that is acknowledged stays
stays : (count : ℕ) (counts last : List ℕ) (now past place : ℕ) → place < count → past < now → IsHeld counts last now place → IsHeld (counts_since count counts last past) (last_since count last past) now place
unfolding counts_since last_since
stays count counts last now past place within earlier held =
    let kept : nat_le (slice_index last place) past ≡ false = later_than past (slice_index last place) (omega (arith, earlier, held.1)) in (
      subst (λ (n : ℕ). 1 ≤ n) (sym (at_place (since_at counts last past) count place within ∙ ap (λ (b : Bool). if b then 0 else slice_index counts place) kept)) held.0,
      subst (λ (n : ℕ). now ≤ n) (sym (at_place (since_at last last past) count place within ∙ ap (λ (b : Bool). if b then 0 else slice_index last place) kept)) held.1,
    )

-- ---- one reply

abbrev HeldModule : Flags → ℕ → ℕ → Type 0
HeldModule flags now place = IsHeld flags.module_counts flags.module_last now place

abbrev HeldLane : Flags → ℕ → ℕ → Type 0
HeldLane flags now place = IsHeld flags.lanes.counts flags.lanes.last now place

module_by : (cmis known : Bool) (flags : Flags) (offset : ℕ) (bytes : List ℕ) (now moment place : ℕ) → place < 32 → HeldModule flags now place → HeldModule (flags_by cmis known flags offset bytes moment) now place
module_by true true flags offset bytes now moment place within held = still 32 flags.module_counts flags.module_last offset bytes 8 now moment place within held
module_by true false flags offset bytes now moment place within held = still 32 flags.module_counts flags.module_last offset bytes 8 now moment place within held
module_by false known flags offset bytes now moment place within held = held

lane_by : (cmis known : Bool) (flags : Flags) (offset : ℕ) (bytes : List ℕ) (now moment place : ℕ) → place < 152 → HeldLane flags now place → HeldLane (flags_by cmis known flags offset bytes moment) now place
lane_by true true flags offset bytes now moment place within held = still 152 flags.lanes.counts flags.lanes.last offset bytes 134 now moment place within held
lane_by true false flags offset bytes now moment place within held = held
lane_by false known flags offset bytes now moment place within held = held

abbrev is_cmis_after : FlagKeeper → ℕ → List ℕ → Bool
is_cmis_after keeper offset bytes = is_cmis (identifier_by keeper.identifier offset bytes)

module_noted : (keeper : FlagKeeper) (op : Op) (reply : Reply) (now moment place : ℕ) → place < 32 → HeldModule keeper.flags now place → HeldModule (noted keeper op reply moment).flags now place
module_noted keeper (Store dev offset bytes) reply now moment place within held = held
module_noted keeper (Fetch A2 offset count) reply now moment place within held = held
module_noted keeper (Fetch A0 offset count) (Bytes bytes) now moment place within held =
    module_by (is_cmis_after keeper offset bytes.items) (is_known keeper.selected 0x11) keeper.flags offset bytes.items now moment place within held
module_noted keeper (Fetch A0 offset count) Done now moment place within held = held
module_noted keeper (Fetch A0 offset count) Refused now moment place within held = held

lane_noted : (keeper : FlagKeeper) (op : Op) (reply : Reply) (now moment place : ℕ) → place < 152 → HeldLane keeper.flags now place → HeldLane (noted keeper op reply moment).flags now place
lane_noted keeper (Store dev offset bytes) reply now moment place within held = held
lane_noted keeper (Fetch A2 offset count) reply now moment place within held = held
lane_noted keeper (Fetch A0 offset count) (Bytes bytes) now moment place within held =
    lane_by (is_cmis_after keeper offset bytes.items) (is_known keeper.selected 0x11) keeper.flags offset bytes.items now moment place within held
lane_noted keeper (Fetch A0 offset count) Done now moment place within held = held
lane_noted keeper (Fetch A0 offset count) Refused now moment place within held = held

-- byte 0 as the keeper has it is what the replies say
module _ (keeper : FlagKeeper) (identifier : ℕ) (same : keeper.identifier ≡ identifier) where
  read_as : (op : Op) (reply : Reply) (now : ℕ) → (noted keeper op reply now).identifier ≡ identifier_read op reply identifier
  read_as (Store dev offset bytes) reply now = same
  read_as (Fetch A2 offset count) reply now = same
  read_as (Fetch A0 offset count) (Bytes bytes) now = ap (λ (n : ℕ). identifier_by n offset bytes.items) same
  read_as (Fetch A0 offset count) Done now = same
  read_as (Fetch A0 offset count) Refused now = same

  module_shown : (cmis known : Bool) (flags : Flags) (offset : ℕ) (bytes : List ℕ) (now place : ℕ) → cmis ≡ true → place < 32 → is_raised offset bytes 8 place ≡ true → HeldModule (flags_by cmis known flags offset bytes now) now place
  module_shown true true flags offset bytes now place e within raised = new 32 flags.module_counts flags.module_last offset bytes 8 now place within raised
  module_shown true false flags offset bytes now place e within raised = new 32 flags.module_counts flags.module_last offset bytes 8 now place within raised
  module_shown false known flags offset bytes now place e within raised = absurd (let same : false ≡ true = e in cc)

  lane_shown : (cmis known : Bool) (flags : Flags) (offset : ℕ) (bytes : List ℕ) (now place : ℕ) → cmis ≡ true → known ≡ true → place < 152 → is_raised offset bytes 134 place ≡ true → HeldLane (flags_by cmis known flags offset bytes now) now place
  lane_shown true true flags offset bytes now place e is within raised = new 152 flags.lanes.counts flags.lanes.last offset bytes 134 now place within raised
  lane_shown true false flags offset bytes now place e is within raised = absurd (let same : false ≡ true = is in cc)
  lane_shown false known flags offset bytes now place e is within raised = absurd (let same : false ≡ true = e in cc)

  -- what a fetch reads is of a CMIS module
  abbrev IsOfCmis : Op → Reply → Type 0
  IsOfCmis op reply = is_cmis (identifier_read op reply identifier) ≡ true

  kept_cmis : (offset count : ℕ) (bytes : List ℕ) → IsOfCmis (Fetch A0 offset count) (Bytes (record { items = bytes })) → is_cmis_after keeper offset bytes ≡ true
  kept_cmis offset count bytes cmis = ap (λ (n : ℕ). is_cmis (identifier_by n offset bytes)) same ∙ cmis

  module_new : (op : Op) (reply : Reply) (now place : ℕ) → place < 32 → IsOfCmis op reply → ShowsModule op reply place → HeldModule (noted keeper op reply now).flags now place
  module_new op reply now place within cmis shows =
      subst (λ (op : Op). IsOfCmis op reply → HeldModule (noted keeper op reply now).flags now place) (sym shows.fetches)
      (subst (λ (reply : Reply). IsOfCmis (Fetch A0 shows.offset shows.count) reply → HeldModule (noted keeper (Fetch A0 shows.offset shows.count) reply now).flags now place) (sym shows.reads)
      (λ is. module_shown (is_cmis_after keeper shows.offset shows.bytes) (is_known keeper.selected 0x11) keeper.flags shows.offset shows.bytes now place (kept_cmis shows.offset shows.count shows.bytes is) within shows.raised)) cmis

  lane_new : (op : Op) (reply : Reply) (now place : ℕ) → place < 152 → IsOfCmis op reply → ShowsLane keeper.selected op reply place → HeldLane (noted keeper op reply now).flags now place
  lane_new op reply now place within cmis shows =
      subst (λ (op : Op). IsOfCmis op reply → HeldLane (noted keeper op reply now).flags now place) (sym shows.fetches)
      (subst (λ (reply : Reply). IsOfCmis (Fetch A0 shows.offset shows.count) reply → HeldLane (noted keeper (Fetch A0 shows.offset shows.count) reply now).flags now place) (sym shows.reads)
      (λ is. lane_shown (is_cmis_after keeper shows.offset shows.bytes) (is_known keeper.selected 0x11) keeper.flags shows.offset shows.bytes now place (kept_cmis shows.offset shows.count shows.bytes is) shows.known within shows.raised)) cmis

  none_by : (cmis known : Bool) (flags : Flags) (offset : ℕ) (bytes : List ℕ) (now : ℕ) → cmis ≡ false → flags_by cmis known flags offset bytes now ≡ flags
  none_by true known flags offset bytes now e = absurd (let same : true ≡ false = e in cc)
  none_by false known flags offset bytes now e = refl

  -- what one of another module shows is not counted
  none_counted : (op : Op) (reply : Reply) (now : ℕ) → is_cmis (identifier_read op reply identifier) ≡ false → (noted keeper op reply now).flags ≡ keeper.flags
  none_counted (Store dev offset bytes) reply now other = refl
  none_counted (Fetch A2 offset count) reply now other = refl
  none_counted (Fetch A0 offset count) (Bytes bytes) now other =
      none_by (is_cmis_after keeper offset bytes.items) (is_known keeper.selected 0x11) keeper.flags offset bytes.items now (ap (λ (n : ℕ). is_cmis (identifier_by n offset bytes.items)) same ∙ other)
  none_counted (Fetch A0 offset count) Done now other = refl
  none_counted (Fetch A0 offset count) Refused now other = refl

-- ---- a story

identified : (story : Story) → (keeper_in story).identifier ≡ identifier_in story
identified [] = refl
identified (plug now ∷ before) = refl
identified (pull ∷ before) = refl
identified (reconsider ∷ before) = identified before
identified (hold held ∷ before) = identified before
identified (demand request ∷ before) = identified before
identified (acknowledge past ∷ before) = identified before
identified (hear alive began ∷ before) = identified before
identified (ask op moment ∷ before) = identified before
identified (make op reply wanted now result ∷ before) = read_as (keeper_in before) (identifier_in before) (identified before) op reply now
identified (drop ∷ before) = identified before

module_held : (more before : Story) (op : Op) (reply : Reply) (wanted : Wanted) (now : ℕ) (result : Outcome) (place : ℕ) → place < 32 → ShowsCmis op reply before → ShowsModule op reply place → IsUnacknowledged now more
    → HeldModule (keeper_in (more ++ (make op reply wanted now result ∷ before))).flags now place
module_held [] before op reply wanted now result place within cmis shows unknown = module_new (keeper_in before) (identifier_in before) (identified before) op reply now place within cmis shows
module_held (plug moment ∷ more) before op reply wanted now result place within cmis shows unknown = module_held more before op reply wanted now result place within cmis shows unknown
module_held (pull ∷ more) before op reply wanted now result place within cmis shows unknown = module_held more before op reply wanted now result place within cmis shows unknown
module_held (reconsider ∷ more) before op reply wanted now result place within cmis shows unknown = module_held more before op reply wanted now result place within cmis shows unknown
module_held (hold held ∷ more) before op reply wanted now result place within cmis shows unknown = module_held more before op reply wanted now result place within cmis shows unknown
module_held (hear alive began ∷ more) before op reply wanted now result place within cmis shows unknown = module_held more before op reply wanted now result place within cmis shows unknown
module_held (demand request ∷ more) before op reply wanted now result place within cmis shows unknown = module_held more before op reply wanted now result place within cmis shows unknown
module_held (ask asked moment ∷ more) before op reply wanted now result place within cmis shows unknown = module_held more before op reply wanted now result place within cmis shows unknown
module_held (drop ∷ more) before op reply wanted now result place within cmis shows unknown = module_held more before op reply wanted now result place within cmis shows unknown
module_held (acknowledge past ∷ more) before op reply wanted now result place within cmis shows unknown =
    let keeper = keeper_in (more ++ (make op reply wanted now result ∷ before)) in
    stays 32 keeper.flags.module_counts keeper.flags.module_last now past place within unknown.0 (module_held more before op reply wanted now result place within cmis shows unknown.1)
module_held (make other given weights moment led ∷ more) before op reply wanted now result place within cmis shows unknown =
    module_noted (keeper_in (more ++ (make op reply wanted now result ∷ before))) other given now moment place within (module_held more before op reply wanted now result place within cmis shows unknown)

lane_held : (more before : Story) (op : Op) (reply : Reply) (wanted : Wanted) (now : ℕ) (result : Outcome) (place : ℕ) → place < 152 → ShowsCmis op reply before → ShowsLane (keeper_in before).selected op reply place → IsUnacknowledged now more
    → HeldLane (keeper_in (more ++ (make op reply wanted now result ∷ before))).flags now place
lane_held [] before op reply wanted now result place within cmis shows unknown = lane_new (keeper_in before) (identifier_in before) (identified before) op reply now place within cmis shows
lane_held (plug moment ∷ more) before op reply wanted now result place within cmis shows unknown = lane_held more before op reply wanted now result place within cmis shows unknown
lane_held (pull ∷ more) before op reply wanted now result place within cmis shows unknown = lane_held more before op reply wanted now result place within cmis shows unknown
lane_held (reconsider ∷ more) before op reply wanted now result place within cmis shows unknown = lane_held more before op reply wanted now result place within cmis shows unknown
lane_held (hold held ∷ more) before op reply wanted now result place within cmis shows unknown = lane_held more before op reply wanted now result place within cmis shows unknown
lane_held (hear alive began ∷ more) before op reply wanted now result place within cmis shows unknown = lane_held more before op reply wanted now result place within cmis shows unknown
lane_held (demand request ∷ more) before op reply wanted now result place within cmis shows unknown = lane_held more before op reply wanted now result place within cmis shows unknown
lane_held (ask asked moment ∷ more) before op reply wanted now result place within cmis shows unknown = lane_held more before op reply wanted now result place within cmis shows unknown
lane_held (drop ∷ more) before op reply wanted now result place within cmis shows unknown = lane_held more before op reply wanted now result place within cmis shows unknown
lane_held (acknowledge past ∷ more) before op reply wanted now result place within cmis shows unknown =
    let keeper = keeper_in (more ++ (make op reply wanted now result ∷ before)) in
    stays 152 keeper.flags.lanes.counts keeper.flags.lanes.last now past place within unknown.0 (lane_held more before op reply wanted now result place within cmis shows unknown.1)
lane_held (make other given weights moment led ∷ more) before op reply wanted now result place within cmis shows unknown =
    lane_noted (keeper_in (more ++ (make op reply wanted now result ∷ before))) other given now moment place within (lane_held more before op reply wanted now result place within cmis shows unknown)

pub no_flag_is_lost : NoFlagIsLost
no_flag_is_lost = record {
  module_flags = module_held;
  lane_flags = lane_held;
  of_another = λ before op reply wanted now result other. none_counted (keeper_in before) (identifier_in before) (identified before) op reply now other;
}

-- ---- the lanes of a bank

lane_stays : (more before : List LaneEvent) (offset : ℕ) (bytes : List ℕ) (now place : ℕ) → place < 152 → is_raised offset bytes 134 place ≡ true → IsUnknown now more
    → IsHeld (lanes_in (more ++ (show offset bytes now ∷ before))).counts (lanes_in (more ++ (show offset bytes now ∷ before))).last now place
lane_stays [] before offset bytes now place within raised unknown = new 152 (lanes_in before).counts (lanes_in before).last offset bytes 134 now place within raised
lane_stays (show other given moment ∷ more) before offset bytes now place within raised unknown =
    let held = lanes_in (more ++ (show offset bytes now ∷ before)) in
    still 152 held.counts held.last other given 134 now moment place within (lane_stays more before offset bytes now place within raised unknown)
lane_stays (know past ∷ more) before offset bytes now place within raised unknown =
    let held = lanes_in (more ++ (show offset bytes now ∷ before)) in
    stays 152 held.counts held.last now past place within unknown.0 (lane_stays more before offset bytes now place within raised unknown.1)

pub no_flag_of_a_bank_is_lost : NoLaneFlagIsLost
no_flag_of_a_bank_is_lost = lane_stays
