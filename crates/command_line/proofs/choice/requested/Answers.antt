use Rattle.std.proofs.Common.{◌≡◌, ◌∙◌, ap, sym, Some, is_some, option_map, option_copied}
use Rattle.clap.specs.Words.{found_of, rows_of, subcommand_rows_of}
use Rattle.command_line.specs.Choice.{Entry, entry_named, entry_of, request_in, request_with}
use Rattle.command_line.proofs.CommandLineLemmas.{is_some-option_map, met_before, met_from_parts}
use Rattle.command_line.proofs.choice.requested.Goals as goal

pub unwrap-requires : goal.unwrap-requires
unwrap-requires c = c.subcommand.ensures.variant ∙ (sym (is_some-option_map _ _) ∙ met_before (subcommand_rows_of c.args.matches.now) c.requires)

pub unwrap-entry-requires : goal.unwrap-entry-requires
unwrap-entry-requires c =
    let met = met_from_parts _ _ c.unwrap.result.0.now (rows_of (found_of c.unwrap.result.1.now))
    (ap (option_map _) (sym c.unwrap.ensures) ∙ c.subcommand.ensures.name) (ap (option_map _) (sym c.unwrap.ensures) ∙ c.subcommand.ensures.rows) in
    sym (is_some-option_map _ _) ∙ (sym (is_some-option_map _ _) ∙ (ap is_some c.command_named.ensures
    ∙ (sym (is_some-option_map _ _) ∙ (ap (λ m. is_some (request_in m)) (sym met) ∙ c.requires))))

pub returns : goal.returns
returns c =
    let met = met_from_parts _ _ c.unwrap.result.0.now (rows_of (found_of c.unwrap.result.1.now))
    (ap (option_map _) (sym c.unwrap.ensures) ∙ c.subcommand.ensures.name) (ap (option_map _) (sym c.unwrap.ensures) ∙ c.subcommand.ensures.rows) in
    let entry : entry_named c.unwrap.result.0.now ≡ Some (entry_of c.unwrap-entry.result.now) =
    sym c.command_named.ensures ∙ ap (λ o. option_map entry_of (option_copied o)) c.unwrap-entry.ensures in
    let rows = rows_of (found_of c.unwrap.result.1.now) in
    (request_with c.unwrap-entry.result.now.command rows, ap request_in met ∙ ap (option_map (λ (e : Entry). request_with e.command rows)) entry, c.request_with.ensures)
