use Rattle.std.proofs.Common.{◌≡◌, bit_and, bit_or, subst, sym}
use Rattle.control_sets.specs.declared.procedures.power.Power.{Power}
use Rattle.control_sets.specs.PowerControls.{wanted_controls}
use Rattle.control_sets.proofs.PowerBits.{asleep_bits, awake_bits}
use Rattle.control_sets.proofs.procedures.power.wanted_controls.Goals as goal

pub returns-in-Awake : goal.returns-in-Awake
returns-in-Awake c = subst (λ (power : Power). bit_and c.args.byte 167 ≡ wanted_controls power c.args.byte) (sym c.in-Awake.is) (awake_bits c.args.byte c.ranges.byte.fits)

pub returns-in-Asleep : goal.returns-in-Asleep
returns-in-Asleep c = subst (λ (power : Power). bit_and (bit_or c.args.byte 16) 247 ≡ wanted_controls power c.args.byte) (sym c.in-Asleep.is) (asleep_bits c.args.byte c.ranges.byte.fits)
