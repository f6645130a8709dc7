use Rattle.std.proofs.Common.{◌++◌, ◌∷◌, [], ℕ, List, map, refl, sym, subst, ap, ◌∙◌, arith}
use Rattle.std.specs.List.{AllByRecursion}
use Rattle.lane_planner.proofs.Words.{Entry}
use Rattle.text_lines.specs.Lines.{text_of}
use Rattle.plan_certificate.specs.declared.line.Line.TheVariants.{StateLine}
use Rattle.plan_certificate.specs.CertificateText.{IsEntryInRange, line_text}
use Rattle.plan_certificate.proofs.Lists.{all_of_append}
use Rattle.plan_certificate.proofs.WrittenCertificates.{entry_text}
use Rattle.lane_planner.specs.Buffers.{Puts}
use Rattle.lane_planner.specs.Tables.{marked_entries}
use Rattle.lane_planner.proofs.ReachedEntries.{no_more, one_more}
use Rattle.lane_planner.proofs.PutPieces.{both_put, nothing_put, piece_put}
use Rattle.lane_planner.proofs.written.put_entries.Goals as goal

abbrev lines_of_entries : List Entry → List ℕ
lines_of_entries entries = text_of (map line_text (map StateLine entries))

pub loop-place-init : goal.loop-place-init
unfolding marked_entries
loop-place-init c = record { put = nothing_put c.args.buffer.now c.args.len.now; each = tt; small = omega arith; within = omega arith }

pub loop-place-preserved : goal.loop-place-preserved
loop-place-preserved c =
    let from : ℕ = c.loop-place.from in
    let found = c.in-Some.ensures in
    let so_far = marked_entries c.args.marks.now c.args.table.now from in
    let more = ap (λ (e : Entry). so_far ++ e ∷ []) c.entry_at.ensures.entry ∙ sym (one_more c.args.marks.now c.args.table.now from 2304 c.in-Some.place found) in
    let line = c.as_slice.ensures.value ∙ c.entry_line-line.ensures.written in
    let written : List ℕ = lines_of_entries so_far in
    let text = entry_text [] written (written ++ c.as_slice.result.now) so_far c.entry_at.result refl (ap (λ (l : List ℕ). written ++ l) line) ∙ ap lines_of_entries more in
    let put = piece_put c.as_slice.result.now c.loop-place.buffer c.put.new.buffer c.loop-place.len c.put.new.len c.put.ensures.counted c.put.ensures.size c.put.ensures.put in
    record {
      put = subst (λ (t : List ℕ). Puts t c.args.buffer.now c.args.len.now c.put.new.buffer c.put.new.len) text (both_put c.loop-place.invariant.put put);
      each = subst (AllByRecursion IsEntryInRange) more (all_of_append IsEntryInRange so_far (c.entry_at.result ∷ []) c.loop-place.invariant.each (c.entry_line-line.ensures.fits, tt));
      small = omega (arith, c.put.ensures.counted, c.as_slice.ensures.fits, c.loop-place.invariant.small, found.after);
      within = omega (arith, found.before);
    }

pub returns-clause-put : goal.returns-clause-put
returns-clause-put c = rw (no_more c.args.marks.now c.args.table.now c.loop-place.from 2304 c.loop-place.invariant.within c.in_default.ensures) c.loop-place.invariant.put

pub returns-clause-each : goal.returns-clause-each
returns-clause-each c = rw (no_more c.args.marks.now c.args.table.now c.loop-place.from 2304 c.loop-place.invariant.within c.in_default.ensures) c.loop-place.invariant.each
