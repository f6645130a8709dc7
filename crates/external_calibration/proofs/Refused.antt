-- What follows for each constant if none is refused.
use Rattle.std.proofs.Common.{refl, true, false}
use Rattle.std.specs.Prelude.{ℕ, Bool, not, Option, None, Some, IsTrue, is_none, [], ◌∷◌}
use Rattle.std.specs.Option.{option_or}
use Rattle.std.proofs.lemmas.Bool.{false≢true}
use Rattle.field_tables.specs.FirstFault.{first_fault}
use Rattle.external_calibration.specs.declared.constants.Polynomial.{Polynomial}
use Rattle.external_calibration.specs.declared.fault.CalibrationFault.TheVariants.{NotFinite, OutOfRange}
use Rattle.external_calibration.specs.Floats.{is_finite}
use Rattle.external_calibration.specs.Refusals.{fault_of, is_in_range, refusal_of}

-- none of two is refused
pub neither : {F : Type 0} (found later : Option F) → IsTrue (is_none (option_or found later)) → IsTrue (is_none found) × IsTrue (is_none later)
neither None later none = (refl, none)
neither (Some f) later none = absurd (false≢true none)

both : (power : ℕ) (finite within : Bool) → IsTrue (is_none (first_fault ((not finite, NotFinite power) ∷ (not within, OutOfRange power) ∷ []))) → IsTrue within
both power true true none = refl
both power true false none = absurd (false≢true none)
both power false true none = refl
both power false false none = absurd (false≢true none)

pub in_range_of : (power bits : ℕ) → IsTrue (is_none (fault_of power bits)) → IsTrue (is_in_range power bits)
in_range_of power bits none = both power (is_finite bits) (is_in_range power bits) none

pub each_in_range : (constants : Polynomial) → IsTrue (is_none (refusal_of constants))
    → IsTrue (is_in_range 4 constants.fourth) × IsTrue (is_in_range 3 constants.third) × IsTrue (is_in_range 2 constants.second) × IsTrue (is_in_range 1 constants.first)
    × IsTrue (is_in_range 0 constants.zeroth)
unfolding refusal_of
each_in_range constants none =
    let fault4 = fault_of 4 constants.fourth in
    let fault3 = fault_of 3 constants.third in
    let fault2 = fault_of 2 constants.second in
    let fault1 = fault_of 1 constants.first in
    let fault0 = fault_of 0 constants.zeroth in
    let down_to_0 = neither (option_or (option_or (option_or fault4 fault3) fault2) fault1) fault0 none in
    let down_to_1 = neither (option_or (option_or fault4 fault3) fault2) fault1 down_to_0.0 in
    let down_to_2 = neither (option_or fault4 fault3) fault2 down_to_1.0 in
    let down_to_3 = neither fault4 fault3 down_to_2.0 in (
      in_range_of 4 constants.fourth down_to_3.0,
      in_range_of 3 constants.third down_to_3.1,
      in_range_of 2 constants.second down_to_2.1,
      in_range_of 1 constants.first down_to_1.1,
      in_range_of 0 constants.zeroth down_to_0.1,
    )
