use Rattle.std.proofs.Common.{◌≡◌, ◌∙◌, refl, List, Err, Option, Result, [], ap, subst, sym, drop_of_length-le}
use Rattle.std.specs.Prelude.{unwrap_or}
use Rattle.std.proofs.lemmas.Result.{err_from_is_err_and}
use Rattle.clap.specs.Words.{Text}
use Rattle.module_metrics.specs.Exposition.{Label}
use Rattle.module_metrics.specs.declared.label_fault.LabelFault.{LabelFault}
use Rattle.command_line.specs.ChoiceFault.{Gives, fault_of_label}
use Rattle.command_line.specs.Options.{labels_with}
use Rattle.command_line.specs.declared.choice.word_fault.WordFault.{WordFault}
use Rattle.command_line.proofs.GivenWords.{labels_of, word_added, word_refused}
use Rattle.command_line.proofs.choice.options.labels_in.Goals as goal

abbrev failed : LabelFault → Result (Unit {0}) LabelFault
failed error = Err error

pub loop-word-preserved : goal.loop-word-preserved
loop-word-preserved c = c.loop-word.invariant
    ∙ word_added c.loop-word.labels c.add.new.self c.in-Some.words.now c.loop-word.word-index record { ref_ptr = (0, 0); now = [] } c.loop-word-test.true {T = Unit {0}} c.in_ok-add.field-0 c.in_ok-add.ensures

pub returns-in_err-add : goal.returns-in_err-add
returns-in_err-add c =
    let error = c.in_err-add.field-0.0 in
    let same : failed error ≡ Err error = refl in
    let refused = word_refused c.loop-word.labels c.add.new.self c.in-Some.words.now c.loop-word.word-index record { ref_ptr = (0, 0); now = [] } c.loop-word-test.true
    {T = Unit {0}} (failed error) error same c.in_err-add.ensures in
    let asked = ap (λ (o : Option (List Text)). labels_with [] (unwrap_or o [])) (sym c.in-Some.ensures) in
    let p = err_from_is_err_and c.from_residual.result c.from_residual.ensures.1 in
    rw (p.1, p.2) (subst (λ (reported : Result (List Label) WordFault). Gives reported (Err (fault_of_label error))) (sym (asked ∙ c.loop-word.invariant)) refused)

pub returns : goal.returns
returns c =
    let asked = ap (λ (o : Option (List Text)). labels_with [] (unwrap_or o [])) (sym c.in-Some.ensures) in
    asked ∙ (c.loop-word.invariant ∙ ap (labels_of c.loop-word.labels) (drop_of_length-le c.in-Some.words.now c.loop-word-test.false))
