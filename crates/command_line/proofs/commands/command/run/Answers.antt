use Rattle.std.proofs.Common.{rules, ap}
use Rattle.command_line.specs.CountedReader.{remaining_of}
use Rattle.command_line.specs.Runs.{answer_of}
use Rattle.command_line.specs.StoppingWriter.{writing_failed}
use Rattle.command_line.specs.declared.remark.clue.Clue.{Clue}
use Rattle.command_line.specs.CountedReader.{reading_failed}
use Rattle.command_line.proofs.RemarkLemmas.{ending_status, ends_by_failure, if_known_both, remark_after, written_as}
use Rattle.command_line.proofs.commands.command.run.Goals as goal

pub returns : goal.returns
returns g c =
    let answer = answer_of c.read_and_answer-answer.result.answer in
    let failed = writing_failed c.write_answer.new.writer in
    let status = ending_status failed c.write_answer.result c.beside.result in
    record {
      reads = search rules;
      failure = rw status (ends_by_failure (reading_failed c.read_and_answer-answer.new.reader) failed answer c.write_answer.result c.write_answer.ensures.written.0 c.read_and_answer-answer.ensures.reading);
      stopped = search rules;
      answered = if_known_both (remaining_of g.R.Read.remaining c.args.reader.now) _ _ _ (λ input reported clue. record {
        answer = answer;
        is_answer = reported;
        reading = c.read_and_answer-answer.ensures.reading;
        taken =
            let taken = c.read_and_answer-answer.ensures.taken in
            (taken.0, record { consumed = taken.1.consumed; within = taken.1.within; at_once = λ more. ap answer_of (taken.1.at_once more) });
        written = rw status (written_as c.args.request.options.json answer input _ _ _ _ failed c.write_answer.result
            c.read_and_answer-answer.ensures.output (ap (λ (k : Clue). k.opening) clue) c.write_answer.ensures.written);
        remarked = remark_after failed c.write_answer.result input answer _ c.beside.result c.beside.ensures clue;
      }) c.read_and_answer-answer.ensures.answer c.read_and_answer-answer.ensures.clue;
    }
