use Rattle.std.proofs.Common.{Err, refl}
use Rattle.command_line.specs.StoppingWriter.{writing_failed}
use Rattle.command_line.proofs.RemarkLemmas.{refusal_remarked}
use Rattle.command_line.proofs.program.run_words.Goals as goal

pub returns-in-Err : goal.returns-in-Err
returns-in-Err g c =
    let ended = refusal_remarked (writing_failed c.choice_refused-status.new.writer) c.choice_refused-status.result c.refusal_remark.result c.refusal_remark.ensures in (
      Err c.in-Err.fault,
      (rw c.in-Err.is at c.requested.ensures),
      record {
        unread = refl;
        said = rw ended.0 c.choice_refused-status.ensures.said;
        remarked = ended.1;
        stopped = c.choice_refused-status.ensures.stopped;
      },
    )
