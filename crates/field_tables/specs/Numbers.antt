-- The number that stands in a place. (docs/fields.md, "Places and layouts"; this project's own)
use Rattle.std.specs.Prelude.{ℕ, ◌*◌, ◌^◌, ◌==◌, if◌then◌else◌, ℤ, pos, ◌-ℤ◌, sum_by}
use Rattle.std.specs.Int.{bit_at}
use Rattle.std.specs.List.{enumerate_from}
use Rattle.field_tables.specs.declared.layout.Sign.{Sign}
use Rattle.field_tables.specs.declared.layout.Sign.TheVariants.{Unsigned, Signed}
use Rattle.field_tables.specs.Layouts.{Place}

-- 1 or 0; byte_at tells the bytes
abbrev pub bit_in : (ℕ → ℕ) → ℕ × ℕ → ℕ
bit_in byte_at bit = bit_at (byte_at bit.0) bit.1

-- each bit of the place that is 1 counts twice as much as one a bit lower would; the lowest counts 1
unfoldable pub number_in : (ℕ → ℕ) → Place → ℕ
number_in byte_at place = sum_by (λ (p : ℕ × (ℕ × ℕ)). bit_in byte_at p.1 * 2 ^ p.0) (enumerate_from 0 place)

-- two's complement of 16 bits: bit 15 counts -32,768 in place of 32,768
abbrev pub signed_by : Sign → ℕ → ℤ
signed_by Unsigned n = pos n
signed_by Signed n = if bit_at n 15 == 1 then pos n -ℤ pos 65536 else pos n
