-- The byte of a control stands for it.
use Rattle.std.proofs.Common.{◌≡◌, true, refl}
use Rattle.lane_controls.specs.declared.control.Control.{Control}
use Rattle.lane_controls.specs.declared.control.Control.TheVariants.{Enable, Invert, ByteSwap, SideOfFec, Pattern, Measurement}
use Rattle.lane_controls.specs.declared.control.Control.TheVariants as control
use Rattle.lane_controls.specs.declared.control.LanePair.{LanePair}
use Rattle.lane_controls.specs.declared.control.LanePair.TheVariants.{First, Second, Third, Fourth}
use Rattle.lane_controls.specs.declared.control.Loopback.{Loopback}
use Rattle.lane_controls.specs.declared.control.Loopback.TheVariants.{MediaSideOutput, MediaSideInput, HostSideOutput, HostSideInput}
use Rattle.lane_controls.specs.declared.control.PatternUnit.{PatternUnit}
use Rattle.lane_controls.specs.declared.control.PatternUnit.TheVariants.{HostGenerator, MediaGenerator, HostChecker, MediaChecker}
use Rattle.lane_controls.specs.Controls.{address_of}
use Rattle.saved_tests.specs.SavedControls.{control_in, is_control}

-- it is the byte of a control, and of this one
abbrev StandsFor : Control → Type 0
StandsFor c = (control_in (address_of c) ≡ c) × (is_control (address_of c) ≡ true)

enable : (unit : PatternUnit) → StandsFor (Enable unit)
enable HostGenerator = (refl, refl)
enable MediaGenerator = (refl, refl)
enable HostChecker = (refl, refl)
enable MediaChecker = (refl, refl)

invert : (unit : PatternUnit) → StandsFor (Invert unit)
invert HostGenerator = (refl, refl)
invert MediaGenerator = (refl, refl)
invert HostChecker = (refl, refl)
invert MediaChecker = (refl, refl)

swap : (unit : PatternUnit) → StandsFor (ByteSwap unit)
swap HostGenerator = (refl, refl)
swap MediaGenerator = (refl, refl)
swap HostChecker = (refl, refl)
swap MediaChecker = (refl, refl)

fec : (unit : PatternUnit) → StandsFor (SideOfFec unit)
fec HostGenerator = (refl, refl)
fec MediaGenerator = (refl, refl)
fec HostChecker = (refl, refl)
fec MediaChecker = (refl, refl)

pattern : (unit : PatternUnit) (pair : LanePair) → StandsFor (Pattern unit pair)
pattern HostGenerator First = (refl, refl)
pattern HostGenerator Second = (refl, refl)
pattern HostGenerator Third = (refl, refl)
pattern HostGenerator Fourth = (refl, refl)
pattern MediaGenerator First = (refl, refl)
pattern MediaGenerator Second = (refl, refl)
pattern MediaGenerator Third = (refl, refl)
pattern MediaGenerator Fourth = (refl, refl)
pattern HostChecker First = (refl, refl)
pattern HostChecker Second = (refl, refl)
pattern HostChecker Third = (refl, refl)
pattern HostChecker Fourth = (refl, refl)
pattern MediaChecker First = (refl, refl)
pattern MediaChecker Second = (refl, refl)
pattern MediaChecker Third = (refl, refl)
pattern MediaChecker Fourth = (refl, refl)

loopback : (it : Loopback) → StandsFor (control.Loopback it)
loopback MediaSideOutput = (refl, refl)
loopback MediaSideInput = (refl, refl)
loopback HostSideOutput = (refl, refl)
loopback HostSideInput = (refl, refl)

stands : (c : Control) → StandsFor c
stands (Enable unit) = enable unit
stands (Invert unit) = invert unit
stands (ByteSwap unit) = swap unit
stands (SideOfFec unit) = fec unit
stands (Pattern unit pair) = pattern unit pair
stands (control.Loopback it) = loopback it
stands Measurement = (refl, refl)

pub control_back : (c : Control) → control_in (address_of c) ≡ c
control_back c = (stands c).0

pub control_known : (c : Control) → is_control (address_of c) ≡ true
control_known c = (stands c).1
