use Rattle.std.proofs.Common.{[], refl, arith}
use Rattle.bus_model.specs.declared.device.Dev.TheVariants.{A0}
use Rattle.bus_model.specs.declared.operation.Op.TheVariants.{Fetch}
use Rattle.module_reading.proofs.FetchTold.{begins_told, reading_outcome}
use Rattle.module_reading.proofs.laws.pieces_have_their_outcomes.Goals as goal

pub returns-clause-begun : goal.returns-clause-begun
returns-clause-begun c doubts request piece some = record {
  some = some;
  short = omega arith;
  own = [];
  was_told = (begins_told doubts request, refl, omega arith);
  half = Fetch A0 0 128;
  joins = (refl, refl);
  in_hand = λ op asks. (refl, refl);
  alone = λ e. refl;
}

pub returns-clause-outcomes : goal.returns-clause-outcomes
returns-clause-outcomes c events pieces told limit =
    (told.own, told.half, pieces.part.items, told.joins, reading_outcome told.own pieces.conversation told.was_told.0.1 told.was_told.1 told.was_told.2 limit)
