-- What stands behind the items of a list that is copied into an array.
use Rattle.std.proofs.Common.{◌≡◌, ℕ, List, [], ◌∷◌, ◌++◌, length, drop, ap}
use Rattle.std.proofs.lemmas.List.{drop-replicate}
use Rattle.plan_certificate.specs.declared.path.Path.{Path}
use Rattle.firmware_api.specs.Plans.{no_path, paths_of}

pub is_no_path : (path : Path) → path.app ≡ 0 → path.host ≡ 0 → path.media ≡ 0 → path ≡ no_path
is_no_path path app host media = λ i. record { app = app i; host = host i; media = media i }

pub no_paths_behind : (paths front : List Path) (n : ℕ) (none : Path) → front ≡ paths → n ≡ length paths → none ≡ no_path →
    front ++ drop n (none ∷ none ∷ none ∷ none ∷ none ∷ none ∷ none ∷ none ∷ []) ≡ paths_of paths
no_paths_behind paths front n none same count is = rw (same, count, is) (ap (λ (rest : List Path). paths ++ rest) (drop-replicate (length paths) 8 no_path))
