use Rattle.std.proofs.Common.{ℕ, ap, ◌∙◌}
use Rattle.saved_update.specs.SavedDeliveries.{outcome_by}
use Rattle.saved_update.proofs.Back.{succeeded_back}
use Rattle.saved_update.proofs.delivery.with_reply.Goals as goal

pub returns : goal.returns
returns c =
    let bytes = c.padded-bytes.result in
    ap (λ (n : ℕ). outcome_by 1 0 n bytes) c.len.ensures.value ∙ succeeded_back c.args.reply.now bytes c.padded-bytes.ensures.few c.padded-bytes.ensures.value
