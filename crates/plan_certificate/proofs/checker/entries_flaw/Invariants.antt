use Rattle.std.proofs.Common.{◌≡◌, ◌-◌, ◌<◌, drop, length}
use Rattle.std.specs.List.{flat_map, enumerate_from}
use Rattle.field_tables.specs.FirstFault.{first_fault}
use Rattle.plan_certificate.specs.EntryPlaces.{IsNext}
use Rattle.plan_certificate.specs.FollowedMoves.{IsFollowed}
use Rattle.plan_certificate.specs.Verdicts.{entry_flaws, entries_flaws}
use Rattle.plan_certificate.proofs.checker.entries_flaw.Given as goal

-- the entries so far have no flaw
abbrev pub invariant-loop-entry : goal.invariant-loop-entry
invariant-loop-entry g l = record {
  none :
      first_fault (flat_map (entry_flaws l.advert l.weights l.kept l.entries.entries) (drop l.number (enumerate_from 1 l.entries.entries)))
      ≡ first_fault (entries_flaws l.advert l.weights l.kept l.entries.entries);
  next : IsNext l.entries.entries l.number l.from;
  below : l.moves.boundary < 8;
  moves : IsFollowed l.advert l.weights l.kept l.moves;
}

abbrev pub decreases-loop-entry : goal.decreases-loop-entry
decreases-loop-entry g l = length l.entries.entries - l.number
