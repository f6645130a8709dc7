use Rattle.std.proofs.Common.{◌≡◌, ◌≢◌, ◌+◌, ◌*◌, ◌≤◌, ◌∷◌, ◌++◌, [], ℕ, List, append_assoc, length, map, refl, sym, subst, ap, ◌∙◌, arith, rules}
use Rattle.std.proofs.lemmas.List.{append-nil, length-append, length-map}
use Rattle.text_lines.specs.Lines.{lines_of}
use Rattle.plan_certificate.specs.declared.stage.Stage.TheVariants.{Ended}
use Rattle.plan_certificate.specs.CertificateText.{line_text}
use Rattle.plan_certificate.specs.CertificateDrafts.{lines_so_far}
use Rattle.plan_certificate.specs.ReadLines.{IsLineAt, claim_of}
use Rattle.plan_certificate.proofs.Drafts.{fault_after, readable_begins}
use Rattle.plan_certificate.proofs.ReadLines.{after_is, at_within, first_there, line_within, rest_len}
use Rattle.plan_certificate.proofs.WholeTexts.{is_no_text}
use Rattle.plan_certificate.proofs.certificate.reading.read_lines.Goals as goal

pub returns-in-Err-clause-err : goal.returns-in-Err-clause-err
returns-in-Err-clause-err g c =
    let l = c.loop-line in
    let claim = claim_of l.head l.entries.entries in
    let before = map line_text (lines_so_far l.stage claim) in
    fault_after g.row.STATES (lines_of c.args.text.now) before c.in-Some.line.now (lines_of c.in-Some.after.now) c.in-Err.fault (rw c.in-Some.ensures.lines at l.invariant.lines_are)
    (readable_begins g.row.STATES l.stage claim l.invariant.drafted.readable) c.in-Err.ensures.fault

pub returns-then-ne-clause-err : goal.returns-then-ne-clause-err
returns-then-ne-clause-err g c =
    let l = c.loop-line in
    let claim = claim_of l.head l.entries.entries in
    let so_far = map line_text (lines_so_far l.stage claim) in
    let nothing : lines_of l.rest.now ≡ [] = rw c.in_default.ensures.lines refl in
    let lines : lines_of c.args.text.now ≡ so_far = (rw nothing at l.invariant.lines_are) ∙ append-nil so_far in
    let short : l.stage ≢ Ended = search rules in
    let readable = l.invariant.drafted.readable in (
      rw lines (readable_begins g.row.STATES l.stage claim readable),
      λ other text. is_no_text l.stage claim other short readable.ordered.in_range text.readable.ordered.in_range (sym lines ∙ text.lines_are),
    )

pub take_line-requires : goal.take_line-requires
take_line-requires g c =
    let l = c.loop-line in
    let text = c.args.text.now in
    let lines = c.in-Some.ensures.lines in
    let some : l.rest.now ≢ [] = λ e. (let none = rw e at lines in cc) in
    let here = first_there text l.rest.now c.in-Some.line.now c.in-Some.after.now l.at some l.invariant.left lines c.in-Some.ensures.behind in
    let within = at_within text l.rest.now c.in-Some.line.now c.in-Some.after.now l.at some l.invariant.left lines c.in-Some.ensures.behind in
    let there : IsLineAt text l.at c.in-Some.line.now (l.number + 1) = record { here = here; within = within; near = omega (arith, l.invariant.near) } in (
      omega arith,
      (l.invariant.drafted, (ap (λ (n : ℕ). n + 1) l.invariant.counted, subst (λ (t : List ℕ). IsLineAt t l.at c.in-Some.line.now (l.number + 1)) (sym l.invariant.text) there)),
    )

pub loop-line-preserved : goal.loop-line-preserved
loop-line-preserved g c =
    let l = c.loop-line in
    let text = c.args.text.now in
    let line = c.in-Some.line.now in
    let after = c.in-Some.after.now in
    let lines = c.in-Some.ensures.lines in
    let some : l.rest.now ≢ [] = λ e. (let none = rw e at lines in cc) in
    let old = lines_so_far l.stage (claim_of l.head l.entries.entries) in
    let new = lines_so_far c.in-Ok.next (claim_of c.take_line.new.head c.take_line.new.entries.entries) in
    let added : map line_text new ≡ map line_text old ++ line ∷ [] = c.in-Ok.ensures.added in
    record {
      drafted = c.in-Ok.ensures.drafted;
      counted = omega (arith, l.invariant.counted, ap (λ (ls : List (List ℕ)). length ls) added, length-map old line_text, length-map new line_text, length-append (map line_text old) (line ∷ []));
      bounded = omega (arith, l.invariant.bounded, c.in-Some.ensures.shorter);
      lines_are =
          l.invariant.lines_are ∙ ap (λ (ls : List (List ℕ)). map line_text old ++ ls) lines
          ∙ sym (append_assoc (map line_text old) (line ∷ []) (lines_of after)) ∙ ap (λ (ls : List (List ℕ)). ls ++ lines_of after) (sym added);
      text = c.in-Ok.ensures.text ∙ l.invariant.text;
      left = after_is text l.rest.now line after l.at some l.invariant.left lines c.in-Some.ensures.behind;
      near = omega (arith, l.invariant.near, c.in-Ok.ensures.short);
      within = omega (
        arith,
        line_within text l.rest.now line after l.at some l.invariant.left lines c.in-Some.ensures.behind,
        rest_len text l.rest.now line after l.at some l.invariant.left lines c.in-Some.ensures.behind,
        at_within text l.rest.now line after l.at some l.invariant.left lines c.in-Some.ensures.behind,
      );
    }
