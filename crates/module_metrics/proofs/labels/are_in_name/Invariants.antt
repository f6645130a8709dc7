use Rattle.std.proofs.Common.{◌≡◌, drop}
use Rattle.std.specs.List.{list_all}
use Rattle.module_metrics.specs.Grammar.{is_in_name}
use Rattle.module_metrics.proofs.labels.are_in_name.Given as goal

-- all so far are
abbrev pub invariant-loop-byte : goal.invariant-loop-byte
invariant-loop-byte l = list_all is_in_name l.bytes ≡ list_all is_in_name (drop l.byte-index l.bytes)
