use Rattle.std.proofs.Common.{◌≡◌, ℕ, ◌<◌, get_or, length}
use Rattle.field_tables.specs.declared.field.Register.TheVariants as registers
use Rattle.sim_module.specs.Starts.{byte_of_register}
use Rattle.sim_module.proofs.start.lane_flags.Given as goal

abbrev pub invariant-loop-index : goal.invariant-loop-index
invariant-loop-index l = record {
  len : length l.flag-items ≡ 19;
  each : (k : ℕ) → k < l.index → get_or l.flag-items k 0 ≡ byte_of_register l.image registers.LaneFlags k;
}
