-- What a module advertises of its command data block. (OIF-CMIS-05.0, "CDB Advertisement", page 01h, bytes 163 to 166)
use Rattle.std.specs.Prelude.{ℕ, ◌*◌, ◌-◌, ◌/◌, ◌%◌, ◌==◌, nat_le, max, min, if◌then◌else◌}
use Rattle.command_block.specs.declared.advertised.Advertised.{Advertised}

-- 5, 6 and 7 stand for 8, 12 and 16 pages, and later codes for nothing
abbrev pub pages_of : ℕ → ℕ
pages_of code = if nat_le code 4 then code else (if code == 5 then 8 else (if code == 6 then 12 else (if code == 7 then 16 else 0)))

-- in milliseconds: bit 7 of byte 166 chooses between bits 4 to 0 of byte 165, in steps of 160, and its own other bits, as what is less
-- than 80
abbrev pub busy_time : ℕ → ℕ → ℕ
busy_time trigger busy = if busy / 128 == 1 then max 1 (trigger % 32) * 160 else 80 - min 80 (busy % 128)

abbrev pub advertised : ℕ → ℕ → ℕ → ℕ → Advertised
advertised features extension trigger busy = record {
  instances = features / 64;
  background_mode = features / 32 % 2 == 1;
  auto_paging = features / 16 % 2 == 1;
  epl_pages = pages_of (features % 16);
  length_extension = extension;
  max_busy_time = busy_time trigger busy;
}
