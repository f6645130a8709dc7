-- Consecutive bytes of a half, as texts and summed bytes are. (docs/fields.md, "Texts" and "Sums"; this project's own)
use Rattle.std.specs.Prelude.{ℕ, suc, ◌+◌, ◌-◌, Bool, ◌&&◌, nat_le, List, slice_range, Option, Some, None}
use Rattle.bus_model.specs.declared.device.Dev.{Dev}
use Rattle.paged_memory.specs.declared.key.Half.{Half}
use Rattle.paged_memory.specs.declared.key.Half.TheVariants.{Lower, Upper}
use Rattle.paged_memory.specs.Images.{place_in_half}
use Rattle.field_tables.specs.declared.spans.Span.{Span}
use Rattle.field_tables.specs.Halves.{address_fits}

-- device, half and page, first and last byte
abbrev pub span : Dev → Half → ℕ → ℕ → ℕ → Span
span dev half page first last = record { dev = dev; half = half; page = page; first = first; last = last }

-- its bytes, in those of its half
abbrev pub bytes_in : List ℕ → Span → List ℕ
bytes_in bytes s = slice_range bytes (place_in_half s.first) (place_in_half s.last + 1)

-- how many bytes it has
abbrev pub span_len : Span → ℕ
span_len s = suc s.last - s.first

-- the page that has to be selected for a half; none for a lower one
abbrev pub page_of_half : Half → ℕ → Option ℕ
page_of_half Lower page = None
page_of_half Upper page = Some page

abbrev pub span_fits : Span → Bool
span_fits s = address_fits s.half s.first && address_fits s.half s.last && nat_le s.first s.last
