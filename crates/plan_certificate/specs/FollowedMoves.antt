-- The moves that are followed from a boundary on. (docs/planning.md, "The checker"; this project's own)
use Rattle.std.specs.Prelude.{◌+◌, List}
use Rattle.applications.specs.Advertised.{Advertised}
use Rattle.applications.specs.AppWeights.{PathWeights}
use Rattle.plan_certificate.specs.declared.path.Path.{Path}
use Rattle.plan_certificate.specs.declared.retained.Moves.{Moves}
use Rattle.plan_certificate.specs.Moves.{AreMoves, moves_at}

abbrev pub IsFollowed : Advertised → PathWeights → List Path → Moves → Type 0
IsFollowed advert weights kept moves =
    AreMoves advert weights kept moves.boundary moves.followed.may_stay_free (moves_at advert weights kept (moves.boundary + 1)) moves.followed.moves.items
