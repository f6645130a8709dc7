use Rattle.std.proofs.Common.{◌<◌, ◌^◌, ◌++◌, ℕ, Bool, List, map, refl, subst, ap, ◌∙◌, arith}
use Rattle.text_lines.specs.Lines.{text_of}
use Rattle.plan_certificate.specs.declared.line.Line.TheVariants.{StateLine}
use Rattle.plan_certificate.specs.CertificateText.{head_lines, line_text}
use Rattle.plan_certificate.specs.Limits.{most_states}
use Rattle.plan_certificate.proofs.WrittenCertificates.{is_readable, whole_text, written_lines}
use Rattle.lane_planner.specs.Buffers.{Puts}
use Rattle.lane_planner.specs.CertifiedPlans.{claim_of}
use Rattle.lane_planner.specs.Tables.{AreEntries, marked_entries}
use Rattle.lane_planner.proofs.ReachedEntries.{are_marked}
use Rattle.lane_planner.proofs.PutPieces.{both_put, piece_put}
use Rattle.lane_planner.proofs.written.put_at_front.Goals as goal

pub returns-clause-read_back : goal.returns-clause-read_back
returns-clause-read_back c =
    let marks = c.args.solution.now.marks in
    let table = c.args.solution.now.gains in
    let head = c.head_of-head.ensures in
    let small = subst (λ (n : ℕ). n < 2 ^ 64) c.at-weight.ensures.value head.small in
    let are : AreEntries marks table most_states (marked_entries marks table most_states) = are_marked marks table most_states (omega arith) in
    let claim = claim_of c.args.problem.now c.args.solution.now in
    written_lines most_states claim (is_readable most_states claim small head.kept_in_range head.paths_in_range c.put_entries.ensures.each are.states head.few_kept head.few_paths are.few)

pub returns-clause-put : goal.returns-clause-put
returns-clause-put c =
    let problem = c.args.problem.now in
    let plan = c.args.solution.now.plan in
    let claim = claim_of problem c.args.solution.now in
    let head = c.as_slice.result.now in
    let states : List ℕ = text_of (map line_text (map StateLine (marked_entries c.args.solution.now.marks c.args.solution.now.gains most_states))) in
    let first = piece_put head c.args.buffer.now c.put.new.buffer 0 c.put.new.len c.put.ensures.counted c.put.ensures.size c.put.ensures.put in
    let last = piece_put c.end_line.result c.put_entries.new.buffer c.put-2.new.buffer c.put_entries.new.len c.put-2.new.len c.put-2.ensures.counted c.put-2.ensures.size c.put-2.ensures.put in
    let all = both_put (both_put first c.put_entries.ensures.put) last in
    let paired = ap (λ (b : Bool). text_of (map line_text (head_lines b c.at-weight.result problem.kept.now plan))) c.is_paired.ensures in
    let weighs = ap (λ (n : ℕ). text_of (map line_text (head_lines problem.advert.now.paired n problem.kept.now plan))) c.at-weight.ensures.value in
    let head_is = c.as_slice.ensures.value ∙ c.head_of-head.ensures.written ∙ paired ∙ weighs in
    let whole = whole_text claim head (head ++ states) ((head ++ states) ++ c.end_line.result) head_is refl (ap (λ (l : List ℕ). (head ++ states) ++ l) c.end_line.ensures) in
    subst (λ (text : List ℕ). Puts text c.args.buffer.now 0 c.put-2.new.buffer c.put-2.new.len) whole all
