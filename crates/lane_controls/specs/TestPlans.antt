-- What a link test may do by its plan: which bytes it stores, and why it is refused. (docs/lanes.md; this project's own)
use Rattle.std.specs.Prelude.{ℕ, ◌+◌, ◌-◌, ◌*◌, ◌/◌, ◌%◌, ◌==◌, ◌&&◌, nat_lt, not, Bool, List, Option, Some, None, if◌then◌else◌, slice_index, find, count_by}
use Rattle.std.specs.Int.RustNames.{bit_and}
use Rattle.std.specs.List.{list_any}
use Rattle.lane_controls.specs.declared.control.Control.TheVariants.{Loopback}
use Rattle.lane_controls.specs.declared.control.Loopback.TheVariants.{HostSideInput}
use Rattle.lane_controls.specs.declared.link_test.TestFault.{TestFault}
use Rattle.lane_controls.specs.declared.link_test.TestFault.TheVariants as fault
use Rattle.lane_controls.specs.declared.test_plan.Change.{Change}
use Rattle.lane_controls.specs.declared.test_plan.Switch.{Switch}
use Rattle.lane_controls.specs.declared.test_plan.TestPlan.{TestPlan}
use Rattle.lane_controls.specs.Capabilities as capabilities
use Rattle.lane_controls.specs.Controls.{address_of, host_lanes, is_loopback, is_media}
use Rattle.lane_controls.specs.Merging.{merged}

-- no bit of a control
abbrev pub no_bit : Switch
no_bit = record { control = Loopback HostSideInput; mask = 0; bits = 0 }

abbrev pub no_change : Change
no_change = record { switch = no_bit; original = 0 }

abbrev pub address : Switch → ℕ
address switch = address_of switch.control

-- the byte as a test wants it where this one was read, and as it is to be again
abbrev pub switched : Switch → ℕ → ℕ
switched switch byte = merged switch.mask switch.bits byte

abbrev pub restored : Change → ℕ → ℕ
restored change byte = merged change.switch.mask change.original byte

-- ---- no control is switched twice

abbrev pub shares_byte : Switch → Switch → Bool
shares_byte switch other = address switch == address other

abbrev pub repeated : List Switch → Option Switch
repeated switches = find (λ switch. nat_lt 1 (count_by (shares_byte switch) switches)) switches

-- ---- what a module can't do

abbrev pub supports : List ℕ → Switch → Bool
supports advertised switch = capabilities.supports advertised switch.control switch.mask switch.bits

-- a loopback that is switched on: on the media side, or on the host side
abbrev pub loops_media : Switch → Bool
loops_media switch = is_loopback switch.control && (is_media switch.control && nat_lt 0 (bit_and switch.bits switch.mask))

abbrev pub loops_host : Switch → Bool
loops_host switch = is_loopback switch.control && (not (is_media switch.control) && nat_lt 0 (bit_and switch.bits switch.mask))

abbrev pub loops_both : List Switch → Bool
loops_both switches = list_any loops_media switches && list_any loops_host switches

abbrev pub incapability_of_results : List ℕ → TestPlan → Option TestFault
incapability_of_results advertised plan =
    if not (capabilities.reports advertised plan.results) then Some fault.UnsupportedResults
    else (if loops_both plan.switches.items && not (capabilities.supports_both_sides advertised) then Some fault.LoopbacksOnBothSides else None)

abbrev pub incapability_by : Option Switch → List ℕ → TestPlan → Option TestFault
incapability_by (Some switch) advertised plan = Some (fault.Unsupported switch.control)
incapability_by None advertised plan = incapability_of_results advertised plan

-- the first switch that isn't supported, the results, or loopbacks on both sides at once
abbrev pub incapability : List ℕ → TestPlan → Option TestFault
incapability advertised plan = incapability_by (find (λ switch. not (supports advertised switch)) plan.switches.items) advertised plan

-- ---- lanes of paths that are up: any whose state isn't DPDeactivated

abbrev pub up_pair : ℕ → ℕ
up_pair byte = (if byte % 16 == 1 then 0 else 1) + (if byte / 16 == 1 then 0 else 2)

unfoldable pub up_lanes : List ℕ → ℕ
up_lanes states = up_pair (slice_index states 0) + up_pair (slice_index states 1) * 4 + up_pair (slice_index states 2) * 16 + up_pair (slice_index states 3) * 64

-- none of the lanes that the switch concerns is up and not permitted
unfoldable pub allows : TestPlan → ℕ → Switch → Bool
allows plan up switch = bit_and (bit_and (host_lanes plan.media_paths switch.control switch.mask) up) (255 - plan.permitted) == 0

abbrev pub forbidden : TestPlan → ℕ → Option Switch
forbidden plan up = find (λ switch. not (allows plan up switch)) plan.switches.items
