use Rattle.std.proofs.Common.{◌≡◌, ◌∙◌, List, ℕ, ap, map, length, arith}
use Rattle.std.proofs.lemmas.List.{length-map}
use Rattle.command_line.specs.Commands.{IsAnswerToInputs}
use Rattle.command_line.specs.Parts.{parts_of}
use Rattle.command_line.specs.Inputs.{parts_read}
use Rattle.command_line.specs.declared.choice.part.Part.{Part}
use Rattle.command_line.proofs.OwnAnswers.{few_parts, own_answer}
use Rattle.command_line.proofs.commands.command.answer.Goals as goal

pub parts-requires-clause-room : goal.parts-requires-clause-room
parts-requires-clause-room c = rw c.parts-read.ensures (few_parts c.args.request.now.command c.args.request.now.options.keep)

pub returns-clause-answer : goal.returns-clause-answer
returns-clause-answer c =
    let options = c.args.request.now.options in
    let parts = parts_read c.args.request.now.command options.keep in
    let input = c.args.input.now in
    let given = c.as_slice.result.now in
    let are : map (λ part. part.now) given ≡ parts_of input =
    ap (map (λ part. part.now)) c.as_slice.ensures.value ∙ c.in_ok-texts.ensures.0 in
    let counted = ap (λ (parts : List (List ℕ)). length parts) are in
    let read = ap (λ (parts : List Part). length parts) c.parts-read.ensures in
    let cut : length (parts_of input) ≡ length parts =
    omega (arith, simp length-map at counted, ap length c.as_slice.ensures.value, c.in_ok-texts.ensures.1, read) in
    own_answer parts (IsAnswerToInputs c.args.request.now.command options) input _ c.requires.limit cut (rw (c.of-inputs.ensures, are, c.parts-read.ensures) at c.answer_to.ensures.answer)
