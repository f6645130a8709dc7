-- What the fetches of provisioning tell of the module that answers them.
use Rattle.std.proofs.Common.{◌≡◌, ◌≢◌, ℕ, ◌+◌, ◌-◌, ◌*◌, ◌/◌, ◌%◌, ◌<◌, ◌≤◌, Bool, true, false, Option, Some, None, is_some, IsTrue, List, [], ◌∷◌, length, get_or, map, slice_index, refl, ap, sym, ◌∙◌, ◌==◌, ◌&&◌, if◌then◌else◌, nat_lt, arith}
use Rattle.std.specs.List.{range_with_len}
use Rattle.std.specs.FinMap as finmap
use Rattle.std.specs.FinSet as set
use Rattle.std.proofs.lemmas.Bool.Decides.{nat_tests}
use Rattle.std.proofs.lemmas.List.{get_or-map, length-map}
use Rattle.bus_model.specs.declared.device.Dev.TheVariants.{A0}
use Rattle.paged_memory.specs.Images.{place_in_half}
use Rattle.field_tables.specs.LaneSets.{IsLane, Lanes}
use Rattle.control_sets.specs.OutcomeCodes.{IsOf}
use Rattle.datapath_states.specs.StatusCodes.{status_code_of}
use Rattle.field_tables.specs.declared.field.Register.TheVariants as registers
use Rattle.field_tables.specs.Registers.{byte_count, first_byte}
use Rattle.sim_module.specs.declared.lane.Lane.{Lane}
use Rattle.sim_module.specs.declared.module.SimModule.{SimModule}
use Rattle.sim_module.specs.Lanes.{active_bytes, is_in_progress, lane_at, no_lane}
use Rattle.paged_memory.specs.MappedPages.{shown_key}
use Rattle.sim_module.specs.ShownBytes.{configuration_bytes, fetched, fetched_from, first_shown, is_mapped, lower_bytes, shown_byte, status_bytes, status_code}
use Rattle.sim_module.specs.Soundness.{IsSound}
use Rattle.control_sets.proofs.EightLanes.{each_of_eight}
use Rattle.sim_module.proofs.EachLane.{each_lane}
use Rattle.datapath_states.specs.Lanes.{code_in}
use Rattle.datapath_states.proofs.LaneNibbles.{lower_half, upper_half}
use Rattle.sim_module.proofs.IdleModule.{IsIdle, Shows}
use Rattle.sim_module.proofs.HeldLanes.{HoldsOnly}

-- four bytes of statuses say ConfigSuccess for each of these lanes
abbrev pub SaySuccess : Lanes → List ℕ → Type 0
SaySuccess lanes bytes = (lane : ℕ) → IsOf lanes lane → code_in bytes lane ≡ 1

-- an answered fetch read a half of the image
pub record Reads (sim : SimModule) (address count : ℕ) (bytes : List ℕ) : Type 0 where
  pub page : List ℕ
  pub bytes_are : map (shown_byte sim page) (range_with_len address count) ≡ bytes

pub reads : (sim : SimModule) (address count : ℕ) (bytes : List ℕ) → (fetched sim A0 address count).0 ≡ Some bytes → Reads sim address count bytes
unfolding fetched
reads sim address count bytes answered = from (finmap.get sim.image (shown_key A0 sim.selection address)) answered where
  from : (page : Option (List ℕ)) → (fetched_from sim address count page).0 ≡ Some bytes → Reads sim address count bytes
  from (Some page) same = let here : map (shown_byte sim page) (range_with_len address count) ≡ bytes = cc in record { page = page; bytes_are = here }
  from None same = cc

pub shown_selection : (sim : SimModule) (page : List ℕ) → map (shown_byte sim page) (range_with_len 126 2) ≡ sim.selection.bank ∷ sim.selection.page ∷ []
unfolding shown_byte
shown_selection sim page = refl

-- a confirmed page is mapped
pub confirmed : (sim : SimModule) (number : ℕ) → (fetched sim A0 126 2).0 ≡ Some (number / 256 ∷ number % 256 ∷ []) → Shows number sim
confirmed sim number answered =
    let read = reads sim 126 2 (number / 256 ∷ number % 256 ∷ []) answered in
    let same : sim.selection.bank ∷ sim.selection.page ∷ [] ≡ number / 256 ∷ number % 256 ∷ [] = sym (shown_selection sim read.page) ∙ read.bytes_are in
    let bank : sim.selection.bank ≡ number / 256 = cc in
    let page : sim.selection.page ≡ number % 256 = cc in
    record { bank = bank; number = page }

pub not_mapped : (sim : SimModule) → Shows 0x11 sim → is_mapped sim 0x10 ≡ false
not_mapped sim shows = λ i. shows.bank i == 0 && shows.number i == 0x10

is_on : (sim : SimModule) → Shows 0x11 sim → is_mapped sim 0x11 ≡ true
is_on sim shows = λ i. shows.bank i == 0 && shows.number i == 0x11

-- on page 11h
pub on_statuses : (sim : SimModule) (page : List ℕ) (address : ℕ) → 128 ≤ address → Shows 0x11 sim →
    shown_byte sim page address ≡ first_shown (status_bytes sim address) (slice_index page (place_in_half address))
unfolding shown_byte
on_statuses sim page address high shows =
    let byte = slice_index page (place_in_half address) in
    let upper : nat_lt address 128 ≡ false = grind (arith, nat_tests) in
    let rest = if is_mapped sim 0x11 then status_bytes sim address else [] in
    ap (λ (low : Bool). first_shown (if low then lower_bytes sim byte address else if is_mapped sim 0x10 then configuration_bytes sim address else rest) byte) upper
    ∙ ap (λ (on : Bool). first_shown (if on then configuration_bytes sim address else rest) byte) (not_mapped sim shows)
    ∙ ap (λ (on : Bool). first_shown (if on then status_bytes sim address else []) byte) (is_on sim shows)

-- the statuses that are read
shown_statuses : (sim : SimModule) (page : List ℕ) → Shows 0x11 sim → map (shown_byte sim page) (range_with_len (first_byte registers.ConfigStatus) (byte_count registers.ConfigStatus)) ≡
    (status_code sim 1 + 16 * status_code sim 2) ∷ (status_code sim 3 + 16 * status_code sim 4) ∷ (status_code sim 5 + 16 * status_code sim 6) ∷ (status_code sim 7 + 16 * status_code sim 8) ∷ []
shown_statuses sim page shows = λ i.
    on_statuses sim page (first_byte registers.ConfigStatus) (omega arith) shows i ∷ on_statuses sim page (first_byte registers.ConfigStatus + 1) (omega arith) shows i ∷ on_statuses sim page (first_byte registers.ConfigStatus + 2) (omega arith) shows i ∷ on_statuses sim page (first_byte registers.ConfigStatus + 3) (omega arith) shows i ∷ []

-- the control bytes that are read
shown_active : (sim : SimModule) (page : List ℕ) → Shows 0x11 sim → map (shown_byte sim page) (range_with_len (first_byte registers.ActiveControl) (byte_count registers.ActiveControl)) ≡ map (λ lane. (lane_at sim lane).active) (range_with_len 1 8)
shown_active sim page shows = λ i.
    on_statuses sim page (first_byte registers.ActiveControl) (omega arith) shows i ∷ on_statuses sim page (first_byte registers.ActiveControl + 1) (omega arith) shows i ∷ on_statuses sim page (first_byte registers.ActiveControl + 2) (omega arith) shows i ∷ on_statuses sim page (first_byte registers.ActiveControl + 3) (omega arith) shows i
    ∷ on_statuses sim page (first_byte registers.ActiveControl + 4) (omega arith) shows i ∷ on_statuses sim page (first_byte registers.ActiveControl + 5) (omega arith) shows i ∷ on_statuses sim page (first_byte registers.ActiveControl + 6) (omega arith) shows i ∷ on_statuses sim page (first_byte registers.ActiveControl + 7) (omega arith) shows i ∷ []

active_by_lane : (sim : SimModule) → length sim.lanes ≡ 8 → active_bytes sim ≡ map (λ lane. (lane_at sim lane).active) (range_with_len 1 8)
active_by_lane sim eight =
    let active = λ (lane : Lane). lane.active in
    let len : length (active_bytes sim) ≡ 8 = length-map sim.lanes active ∙ eight in
    each_lane 0 (λ lane. (lane_at sim lane).active) (active_bytes sim) len
    (λ k below.
    let index : k + 1 - 1 ≡ k = omega arith in
    get_or-map active sim.lanes k no_lane 0 (omega (arith, below, len, eight)) ∙ ap (λ (n : ℕ). (get_or sim.lanes n no_lane).active) (sym index))

-- the active control set is what is read of it
pub read_active : (sim : SimModule) (control : List ℕ) → Shows 0x11 sim → length sim.lanes ≡ 8 → (fetched sim A0 (first_byte registers.ActiveControl) (byte_count registers.ActiveControl)).0 ≡ Some control → active_bytes sim ≡ control
read_active sim control shows eight answered =
    let read = reads sim (first_byte registers.ActiveControl) (byte_count registers.ActiveControl) control answered in
    active_by_lane sim eight ∙ sym (shown_active sim read.page shows) ∙ read.bytes_are

odd_one : (code other : ℕ) → (code % 16 + 16 * (other % 16)) % 16 ≡ 1 → (code == 12) ≡ false
odd_one code other one = let not_it : code ≢ 12 = (λ same. (let four : code % 16 ≡ 12 = ap (λ (n : ℕ). n % 16) same in omega (arith, one, four))) in grind (arith, nat_tests)

even_one : (code other : ℕ) → (code % 16 + 16 * (other % 16)) / 16 ≡ 1 → (other == 12) ≡ false
even_one code other one = let not_it : other ≢ 12 = (λ same. (let four : other % 16 ≡ 12 = ap (λ (n : ℕ). n % 16) same in omega (arith, one, four))) in grind (arith, nat_tests)

pair_byte_fits : (code other : ℕ) → code % 16 + 16 * (other % 16) < 256
pair_byte_fits code other = omega arith

-- a lane of which the status ConfigSuccess is read isn't in progress
read_status : (sim : SimModule) (bytes : List ℕ) → Shows 0x11 sim → (fetched sim A0 (first_byte registers.ConfigStatus) (byte_count registers.ConfigStatus)).0 ≡ Some bytes → (lane : ℕ) → IsLane lane → code_in bytes lane ≡ 1 → is_in_progress (lane_at sim lane) ≡ false
read_status sim bytes shows answered lane within success =
    let answer = reads sim (first_byte registers.ConfigStatus) (byte_count registers.ConfigStatus) bytes answered in
    let code : ℕ → ℕ = status_code sim in
    let whole : ℕ → ℕ = λ lane. status_code_of (lane_at sim lane).status in
    let shown : List ℕ = (code 1 + 16 * code 2) ∷ (code 3 + 16 * code 4) ∷ (code 5 + 16 * code 6) ∷ (code 7 + 16 * code 8) ∷ [] in
    let same : bytes ≡ shown = sym answer.bytes_are ∙ shown_statuses sim answer.page shows in
    each_of_eight (λ lane. code_in shown lane ≡ 1 → is_in_progress (lane_at sim lane) ≡ false)
    (λ one. odd_one (whole 1) (whole 2) (sym (lower_half shown 0 refl) ∙ one))
    (λ one. even_one (whole 1) (whole 2) (sym (upper_half shown 1 refl (pair_byte_fits (whole 1) (whole 2))) ∙ one))
    (λ one. odd_one (whole 3) (whole 4) (sym (lower_half shown 2 refl) ∙ one))
    (λ one. even_one (whole 3) (whole 4) (sym (upper_half shown 3 refl (pair_byte_fits (whole 3) (whole 4))) ∙ one))
    (λ one. odd_one (whole 5) (whole 6) (sym (lower_half shown 4 refl) ∙ one))
    (λ one. even_one (whole 5) (whole 6) (sym (upper_half shown 5 refl (pair_byte_fits (whole 5) (whole 6))) ∙ one))
    (λ one. odd_one (whole 7) (whole 8) (sym (lower_half shown 6 refl) ∙ one))
    (λ one. even_one (whole 7) (whole 8) (sym (upper_half shown 7 refl (pair_byte_fits (whole 7) (whole 8))) ∙ one))
    lane within (ap (λ (bs : List ℕ). code_in bs lane) (sym same) ∙ success)

none_kept : (kept : Option ℕ) (progress : Bool) → progress ≡ false → (IsTrue (is_some kept) → IsTrue progress) → kept ≡ None
none_kept None progress off tells = refl
none_kept (Some byte) progress off tells = let on : progress ≡ true = tells refl in cc

none_held : (sim : SimModule) (lanes : Lanes) (bytes : List ℕ) → IsSound sim → Shows 0x11 sim → HoldsOnly lanes sim → (fetched sim A0 (first_byte registers.ConfigStatus) (byte_count registers.ConfigStatus)).0 ≡ Some bytes → SaySuccess lanes bytes →
    (lane : ℕ) → IsLane lane → (inside : Bool) → set.contains lanes lane ≡ inside → (lane_at sim lane).applying ≡ None
none_held sim lanes bytes sound shows held answered success lane within true is =
    none_kept (lane_at sim lane).applying (is_in_progress (lane_at sim lane)) (read_status sim bytes shows answered lane within (success lane (within, is))) (sound.progress lane)
none_held sim lanes bytes sound shows held answered success lane within false is = held lane within is

-- so the module is idle, with what is active
pub idle_after_success : (sim : SimModule) (lanes : Lanes) (bytes : List ℕ) → IsSound sim → Shows 0x11 sim → HoldsOnly lanes sim → (fetched sim A0 (first_byte registers.ConfigStatus) (byte_count registers.ConfigStatus)).0 ≡ Some bytes → SaySuccess lanes bytes → IsIdle (active_bytes sim) sim
idle_after_success sim lanes bytes sound shows held answered success = record {
  off = not_mapped sim shows;
  rest = record {
    eight = sound.eight;
    none = λ lane within. none_held sim lanes bytes sound shows held answered success lane within (set.contains lanes lane) refl;
    active = refl;
  };
}
