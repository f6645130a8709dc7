use Rattle.std.proofs.Common.{◌≡◌, length, map}
use Rattle.std.specs.List.{range_with_len}
use Rattle.sim_module.specs.ShownBytes.{shown_byte}
use Rattle.sim_module.specs.Record.{bare}
use Rattle.sim_module.proofs.moving.Moving.shown_bytes.Given as goal

abbrev pub invariant-loop-index : goal.invariant-loop-index
invariant-loop-index l = record {
  items : l.bytes.items ≡ map (shown_byte (bare l.self) l.page) (range_with_len l.first l.index);
  len : length l.bytes.items ≡ l.index;
}
