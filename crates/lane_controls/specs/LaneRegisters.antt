-- The controls of page 10h that have one bit for each lane. (docs/lanes.md; OIF-CMIS-05.0, Lane-specific Direct Effect Control
-- Fields)
use Rattle.std.specs.Prelude.{ℕ, Bool, true, false}
use Rattle.lane_controls.specs.declared.lane_register.LaneRegister.{LaneRegister}
use Rattle.lane_controls.specs.declared.lane_register.LaneRegister.TheVariants.{InputPolarityFlipTx, OutputDisableTx, AutoSquelchDisableTx, OutputSquelchForceTx, AdaptiveInputEqFreezeTx, OutputPolarityFlipRx, OutputDisableRx, AutoSquelchDisableRx}

abbrev pub address_of : LaneRegister → ℕ
address_of InputPolarityFlipTx = 129
address_of OutputDisableTx = 130
address_of AutoSquelchDisableTx = 131
address_of OutputSquelchForceTx = 132
address_of AdaptiveInputEqFreezeTx = 134
address_of OutputPolarityFlipRx = 137
address_of OutputDisableRx = 138
address_of AutoSquelchDisableRx = 139

-- what the transmitters' outputs are told is of media lanes, all else of host lanes
abbrev pub is_media : LaneRegister → Bool
is_media InputPolarityFlipTx = false
is_media OutputDisableTx = true
is_media AutoSquelchDisableTx = true
is_media OutputSquelchForceTx = true
is_media AdaptiveInputEqFreezeTx = false
is_media OutputPolarityFlipRx = false
is_media OutputDisableRx = false
is_media AutoSquelchDisableRx = false
