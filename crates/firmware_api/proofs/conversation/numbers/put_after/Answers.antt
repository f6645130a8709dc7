use Rattle.std.proofs.Common.{◌∷◌, ℕ, Some, take, ap, sym, subst, ◌∙◌}
use Rattle.conversations.specs.Events.{made}
use Rattle.firmware_api.specs.declared.kept.Kept.{Kept}
use Rattle.firmware_api.specs.KeptConversations.{WasTold, after}
use Rattle.firmware_api.specs.SavedConversations.{HasInFront}
use Rattle.firmware_api.proofs.AfterLaws.{counted, few, is_no_power, is_no_reading, power_limit, reading_later, tasks_limit}
use Rattle.firmware_api.proofs.ReadingRoom.{grown}
use Rattle.firmware_api.proofs.conversation.numbers.put_after.Goals as goal

pub half_by-half-requires-clause-few : goal.half_by-half-requires-clause-few
half_by-half-requires-clause-few c = few c.args.saved.now c.args.halves.now c.args.reply.now c.args.kept.now c.requires.was

pub put_half-count-requires : goal.put_half-count-requires
put_half-count-requires c some =
    counted c.args.saved.now c.args.halves.now c.args.reply.now c.args.kept.now c.in-OfReading.read c.requires.was c.requires.reply (sym c.in-OfReading.is ∙ c.take.ensures.after)

pub put_reading-requires : goal.put_reading-requires
put_reading-requires c =
    (reading_later c.args.saved.now c.args.halves.now c.args.reply.now c.args.kept.now c.in-OfReading.read c.half_by-half.result c.put_half-count.result c.put_half-count.new.halves c.requires.was c.requires.reply
    (sym c.in-OfReading.is ∙ c.take.ensures.after) c.half_by-half.ensures c.put_half-count.ensures).numbers

pub returns-in-OfTasks : goal.returns-in-OfTasks
returns-in-OfTasks c =
    let halves = c.args.halves.now in
    let reply = c.args.reply.now in
    let is = sym c.in-OfTasks.is ∙ c.take.ensures.after in
    record {
      same = λ events op asks told.
          c.put_tasks.ensures (made op reply ∷ events) c.args.halves.now (subst (WasTold (made op reply ∷ events)) c.in-OfTasks.is (c.take.ensures.told events op asks told))
          (tasks_limit c.args.saved.now c.args.halves.now reply c.args.kept.now c.in-OfTasks.procedure c.requires.was is)
          ∙ ap (λ (kept : Kept). Some kept) is;
      of_reading = λ read same. absurd (is_no_reading c.args.saved.now halves reply c.in-OfTasks.procedure read (is ∙ ap (λ (kept : Kept). after kept reply) same));
      halves = λ read same. absurd (is_no_reading c.args.saved.now halves reply c.in-OfTasks.procedure read (is ∙ ap (λ (kept : Kept). after kept reply) same));
      told = λ events op asks told.
          subst (WasTold (made op c.args.reply.now ∷ events)) c.take.ensures.after (c.take.ensures.told events op asks told);
    }

pub returns-in-OfPower : goal.returns-in-OfPower
returns-in-OfPower c =
    let halves = c.args.halves.now in
    let reply = c.args.reply.now in
    let is = sym c.in-OfPower.is ∙ c.take.ensures.after in
    record {
      same = λ events op asks told.
          c.put_power.ensures (made op reply ∷ events) c.args.halves.now (subst (WasTold (made op reply ∷ events)) c.in-OfPower.is (c.take.ensures.told events op asks told))
          (power_limit c.args.saved.now c.args.halves.now reply c.args.kept.now c.in-OfPower.change c.requires.was is)
          ∙ ap (λ (kept : Kept). Some kept) is;
      of_reading = λ read same. absurd (is_no_power c.args.saved.now halves reply c.in-OfPower.change read (is ∙ ap (λ (kept : Kept). after kept reply) same));
      halves = λ read same. absurd (is_no_power c.args.saved.now halves reply c.in-OfPower.change read (is ∙ ap (λ (kept : Kept). after kept reply) same));
      told = λ events op asks told.
          subst (WasTold (made op c.args.reply.now ∷ events)) c.take.ensures.after (c.take.ensures.told events op asks told);
    }

pub returns-in-OfReading : goal.returns-in-OfReading
returns-in-OfReading c =
    let is = sym c.in-OfReading.is ∙ c.take.ensures.after in
    let back =
    c.put_reading.ensures.same c.put_half-count.new.halves
    (reading_later c.args.saved.now c.args.halves.now c.args.reply.now c.args.kept.now c.in-OfReading.read c.half_by-half.result c.put_half-count.result c.put_half-count.new.halves c.requires.was c.requires.reply is
    c.half_by-half.ensures c.put_half-count.ensures).halves
    ∙ ap (λ (kept : Kept). Some kept) is in
    record {
      same = λ events op asks told. back;
      of_reading = λ read same. back;
      halves = λ read same.
          let front = grown c.half_by-half.result c.args.saved.now.halves c.args.halves.now c.put_half-count.result c.put_half-count.new.halves c.put_half-count.ensures in
          subst (λ (n : ℕ). HasInFront (take c.args.saved.now.halves c.args.halves.now) (take n c.put_half-count.new.halves)) (sym c.put_reading.ensures.halves) front;
      told = λ events op asks told.
          subst (WasTold (made op c.args.reply.now ∷ events)) c.take.ensures.after (c.take.ensures.told events op asks told);
    }
