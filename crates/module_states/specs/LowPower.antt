-- What asks a module for low power (OIF-CMIS-05.0, section 6.3.2 Module State Machine, the signal
-- LowPwrS).
use Rattle.std.specs.Prelude.{Bool, ◌&&◌, ◌||◌}

-- software asks, or the pin does and is allowed to
abbrev pub is_low_power : Bool → Bool → Bool → Bool
is_low_power allow_hw request_hw request_sw = request_sw || (allow_hw && request_hw)
