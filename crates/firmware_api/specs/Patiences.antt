-- How patient a conversation is that C begins, and whether it doubts the page selection after a refusal. (docs/firmware.md, "Pauses";
-- this project's own)
use Rattle.std.specs.Prelude.{◌==◌, Bool}
use Rattle.conversations.specs.declared.pausing.Patience.{Patience as Given}
use Rattle.firmware_api.specs.declared.patience.Patience.{Patience}

abbrev pub given : Patience → Given
given c = record { pause = c.pause; limit = c.limit }

-- each number but 0 trusts it
abbrev pub doubts : Patience → Bool
doubts c = c.trusts == 0

-- that of C for this one, which doubts
abbrev pub patience_of : Given → Patience
patience_of patience = record { pause = patience.pause; limit = patience.limit; trusts = 0 }
