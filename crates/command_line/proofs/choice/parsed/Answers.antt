use Rattle.std.proofs.Common.{◌∙◌, ap, inl, map, sym, string_bytes}
use Rattle.clap.specs.Words.{App, app_of, fault_of, is_simple, is_simple_and_free, subcommand_of, takes}
use Rattle.clap.proofs.CallerLemmas.{subcommand_required}
use Rattle.command_line.specs.Choice.{request_in}
use Rattle.command_line.specs.ChoiceFault.{fault_by_kind}
use Rattle.command_line.proofs.CommandLineLemmas.{request_known, fault_among, from_error, is_some-option_map, needs_command, simple, simple_and_free}
use Rattle.command_line.proofs.GivenWords.{answered}
use Rattle.command_line.proofs.choice.parsed.Goals as goal

pub returns-in_err-matches : goal.returns-in_err-matches
returns-in_err-matches c =
    let words = map string_bytes c.args.words.now in
    let is_program = c.in_ok-program.ensures.app in
    let has = c.in_err-matches.ensures.kinds (ap is_simple_and_free is_program ∙ simple_and_free) in
    from_error c.from_residual-in_err-matches.result _ _ _ c.from_residual-in_err-matches.ensures.1 (inl (
      rw (ap (λ a. fault_of a words) is_program) at (fault_among (fault_of (app_of c.in_ok-program.field-0) words) c.in_err-matches.field-0.0 has),
      λ taken. ap (λ k. fault_by_kind k c.in_err-matches.field-0.0) (c.in_err-matches.ensures.passes (ap (λ a. takes a words) is_program ∙ taken)),
    ))

pub requested-requires : goal.requested-requires
requested-requires c =
    let words = map string_bytes c.args.words.now in
    let is_program = c.in_ok-program.ensures.app in
    let met = c.in_ok-matches.ensures.matches (ap is_simple is_program ∙ simple) in
    let has = subcommand_required c.in_ok-program.field-0 c.in_ok-matches.matches c.in_ok-matches.ensures.parsed
    c.in_ok-program.ensures.local (ap (λ (a : App). a.top.subcommand_required) is_program ∙ needs_command) in
    request_known words _ (sym (met.1 ∙ ap (λ a. subcommand_of a words) is_program)) (is_some-option_map _ _ ∙ has)

pub returns : goal.returns
returns c =
    let words = map string_bytes c.args.words.now in
    let is_program = c.in_ok-program.ensures.app in
    let met = c.in_ok-matches.ensures.matches (ap is_simple is_program ∙ simple) in
    let none = ap (λ a. fault_of a words) (sym is_program) ∙ c.in_ok-matches.ensures.kinds (ap is_simple_and_free is_program ∙ simple_and_free) in
    answered words c.requested.ensures.0 c.requested.result (ap request_in (sym (met.1 ∙ ap (λ a. subcommand_of a words) is_program)) ∙ c.requested.ensures.1) none c.requested.ensures.2
