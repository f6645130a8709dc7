-- The order of keys: by device, the lower half before the upper, then by bank and page. It is the order of the page lines in
-- an image's text. (docs/formats.md, "Image"; this project's own)
use Rattle.std.specs.Prelude.{ℕ}
use Rattle.std.specs.Ordering.{nat_cmp, ordering_then}
use Rattle.std.specs.declared.cmp.Ordering.{Ordering}
use Rattle.bus_model.specs.declared.device.Dev.{Dev}
use Rattle.bus_model.specs.declared.device.Dev.TheVariants.{A0, A2}
use Rattle.paged_memory.specs.declared.key.Half.{Half}
use Rattle.paged_memory.specs.declared.key.Half.TheVariants.{Lower, Upper}
use Rattle.paged_memory.specs.declared.key.Key.{Key}

abbrev pub device_rank : Dev → ℕ
device_rank A0 = 0
device_rank A2 = 1

abbrev pub half_rank : Half → ℕ
half_rank Lower = 0
half_rank Upper = 1

abbrev pub key_cmp : Key → Key → Ordering
key_cmp a b = ordering_then (nat_cmp (device_rank a.dev) (device_rank b.dev))
    (ordering_then (nat_cmp (half_rank a.half) (half_rank b.half))
    (ordering_then (nat_cmp a.bank b.bank) (nat_cmp a.page b.page)))
