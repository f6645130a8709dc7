use Rattle.std.proofs.Common.{◌≡◌, ◌+◌, ◌≤◌, length, take}
use Rattle.std.specs.List.{suffix_len}
use Rattle.module_decoding.specs.PaddedTexts.{is_padding}
use Rattle.module_decoding.proofs.padded_texts.trimmed.Given as goal

abbrev pub invariant-loop-len : goal.invariant-loop-len
invariant-loop-len l = record {
  within : l.len ≤ length l.bytes;
  trimmed : l.len + suffix_len is_padding l.bytes ≡ length l.bytes + suffix_len is_padding (take l.len l.bytes);
}

abbrev pub decreases-loop-len : goal.decreases-loop-len
decreases-loop-len l = l.len
