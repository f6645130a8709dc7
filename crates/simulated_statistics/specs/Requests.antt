-- What a host asks of a module's statistics (VDM), and what the module shows of it. (OIF-CMIS-05.0, "VDM Advertisement and Control", page
-- 2Fh: FreezeRequest in bit 7 of byte 144, FreezeDone and UnfreezeDone in bits 7 and 6 of byte 145)
use Rattle.std.specs.Prelude.{ℕ, ◌+◌, ◌-◌, ◌%◌, ◌==◌, nat_le, Bool, if◌then◌else◌}
use Rattle.simulated_statistics.specs.declared.request.Request.{Request}

-- bit 7 is 1, and not 0, which asks for the end of a freeze
abbrev pub asks_freeze : Request → Bool
asks_freeze request = nat_le 128 request.control

abbrev pub is_done : Request → Bool
is_done request = request.left == 0

abbrev pub ticked : Request → Request
ticked request = record request { left = request.left - 1 }

-- which of the two it has done, if any
abbrev pub done_bits : Request → ℕ
done_bits request = if is_done request then (if asks_freeze request then 128 else 64) else 0

-- the other bits are the image's
abbrev pub done_byte : Request → ℕ → ℕ
done_byte request byte = done_bits request + byte % 64

-- what an address of page 2Fh reads as, if the image has this byte there
abbrev pub shown_at : Request → ℕ → ℕ → ℕ
shown_at request address byte = if address == 144 then request.control else if address == 145 then done_byte request byte else byte
