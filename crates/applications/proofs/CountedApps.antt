-- Applications with other lane counts keep their numbers, and so their order.
use Rattle.std.proofs.Common.{◌∙◌, ℕ, List, map, sym, ap}
use Rattle.std.specs.List.{range_with_len}
use Rattle.std.proofs.lemmas.List.{length-map}
use Rattle.std.proofs.lemmas.Simd.{map-map}
use Rattle.applications.specs.declared.app.App.{App}
use Rattle.applications.specs.Advertised.{InOrder}
use Rattle.applications.specs.CountsById.{counted}

pub counted_in_order : (media_type : ℕ) (apps : List App) → InOrder apps → InOrder (map (counted media_type) apps)
counted_in_order media_type apps order =
    map-map (λ (app : App). app.number) (counted media_type) apps ∙ order ∙ ap (range_with_len 1) (sym (length-map apps (counted media_type)))
