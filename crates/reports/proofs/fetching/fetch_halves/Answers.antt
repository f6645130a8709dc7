use Rattle.std.proofs.Common.{◌≡◌, ◌<◌, ℕ, Bool, false, length, ap, subst, ◌∙◌}
use Rattle.control_sets.specs.OutcomeAnswers.{most_steps}
use Rattle.conversations.specs.Events.{steps_of}
use Rattle.conversations.proofs.BusRuns.{ran_to_end, ran_to_full}
use Rattle.module_reading.specs.ImageReading.{Reading, begun_reading}
use Rattle.module_reading.specs.declared.request.Request.{Request}
use Rattle.module_reading.specs.ReadImages.{IsGivenUp, IsImageOf, IsReading, IsUnfinished}
use Rattle.module_reading.proofs.FetchTold.{left_going, left_undone, left_whole, reads}
use Rattle.reports.proofs.FewHalves.{image_few}
use Rattle.reports.proofs.fetching.fetch_halves.Goals as goal

abbrev topic_of : Reading → ℕ × (Bool × Request)
topic_of reading = (reading.limit, (reading.conversation.doubts, reading.conversation.conversation.request))

-- a reading that goes on as it began: it doesn't doubt, and reads what is requested
module _ (asked : Request) (old new : Reading) (begun : old ≡ begun_reading asked) (same : topic_of new ≡ topic_of old) where
  limit_is : new.limit ≡ most_steps
  limit_is = ap (λ (topic : ℕ × (Bool × Request)). topic.0) (same ∙ ap topic_of begun)

  by_all : (P : Bool → Request → Type 0) → P new.conversation.doubts new.conversation.conversation.request → P false asked
  by_all P has = subst (λ (topic : ℕ × (Bool × Request)). P topic.1.0 topic.1.1) (same ∙ ap topic_of begun) has

pub returns-in-Some-clause-read : goal.returns-in-Some-clause-read
returns-in-Some-clause-read g c =
    let (last, events, happens, (told, left, carried)) = c.in-Ok.ensures.made in
    let reading = c.run.new.within in
    let begun = c.reading-reading.ensures in
    let limit = limit_is c.args.request c.reading-reading.result reading begun c.in-Ok.ensures.topic in
    let trusting = by_all c.args.request c.reading-reading.result reading begun c.in-Ok.ensures.topic in (
      steps_of events,
      ran_to_end g.B.Bus.rules (λ bus. g.B.Bus.seen bus) c.args.bus.now last c.run.new.bus events happens carried.0,
      record {
        reading = trusting (λ (doubts : Bool) (request : Request). IsReading doubts request (steps_of events)) (reads events reading told.0.1 told.1 told.2 limit);
        answered = trusting (λ (doubts : Bool) (request : Request). IsImageOf doubts request (steps_of events) reading.conversation.conversation.image) (left_whole events reading told.0.1 told.1 told.2 limit c.in-Ok.spent tt left c.in-Some.is);
      },
    )

pub returns-in-None-clause-read : goal.returns-in-None-clause-read
returns-in-None-clause-read g c =
    let (last, events, happens, (told, left, carried)) = c.in-Ok.ensures.made in
    let reading = c.run.new.within in
    let begun = c.reading-reading.ensures in
    let limit = limit_is c.args.request c.reading-reading.result reading begun c.in-Ok.ensures.topic in
    let trusting = by_all c.args.request c.reading-reading.result reading begun c.in-Ok.ensures.topic in (
      steps_of events,
      ran_to_end g.B.Bus.rules (λ bus. g.B.Bus.seen bus) c.args.bus.now last c.run.new.bus events happens carried.0,
      record {
        reading = trusting (λ (doubts : Bool) (request : Request). IsReading doubts request (steps_of events)) (reads events reading told.0.1 told.1 told.2 limit);
        answered = trusting (λ (doubts : Bool) (request : Request). IsGivenUp doubts request (steps_of events)) (left_undone events reading told.0.1 told.1 told.2 limit c.in-Ok.spent left c.in-None.is);
      },
    )

pub returns-in-Err-clause-read : goal.returns-in-Err-clause-read
returns-in-Err-clause-read g c =
    let (last, events, happens, (told, left, out)) = c.in-Err.ensures.made in
    let reading = c.run.new.within in
    let begun = c.reading-reading.ensures in
    let limit = limit_is c.args.request c.reading-reading.result reading begun c.in-Err.ensures.topic in
    let trusting = by_all c.args.request c.reading-reading.result reading begun c.in-Err.ensures.topic in
    let fewer = subst (λ (n : ℕ). length (steps_of events) < n) (ap (λ (r : Reading). r.limit) c.reading-reading.ensures) out.fewer in (
      steps_of events,
      ran_to_full g.B.Bus.rules (λ bus. g.B.Bus.seen bus) c.args.bus.now last c.run.new.bus events c.in-Err.fault happens out.failed,
      record {
        reading = trusting (λ (doubts : Bool) (request : Request). IsReading doubts request (steps_of events)) (reads events reading told.0.1 told.1 told.2 limit);
        answered = (out.failed.0, out.failed.1, fewer, trusting (λ (doubts : Bool) (request : Request). IsUnfinished doubts request (steps_of events)) (left_going events reading told.0.1 told.1 told.2 limit left.0 left.1));
      },
    )

pub returns-in-Some-clause-few : goal.returns-in-Some-clause-few
returns-in-Some-clause-few g c =
    let (last, events, happens, (told, left, carried)) = c.in-Ok.ensures.made in
    let reading = c.run.new.within in
    let limit = limit_is c.args.request c.reading-reading.result reading c.reading-reading.ensures c.in-Ok.ensures.topic in
    let image = reading.conversation.conversation.image in
    let trusting = by_all c.args.request c.reading-reading.result reading c.reading-reading.ensures c.in-Ok.ensures.topic in
    image_few c.args.request (steps_of events) image
    (trusting (λ (doubts : Bool) (request : Request). IsImageOf doubts request (steps_of events) image) (left_whole events reading told.0.1 told.1 told.2 limit c.in-Ok.spent tt left c.in-Some.is))
