use Rattle.std.proofs.Common.{◌≡◌, ◌∙◌, true, rules, sym, map, string_bytes}
use Rattle.command_line.specs.Choice.{entry_of}
use Rattle.command_line.specs.PlainFlags.{are_switches}
use Rattle.command_line.proofs.PlainChoices.{chosen}
use Rattle.command_line.proofs.choice.plain.named.Goals as goal

pub returns : goal.returns
returns c =
    let are : are_switches (entry_of c.in_ok-entry.entry.now).flags (map string_bytes c.args.flags.now) ≡ true = sym c.are_switches.ensures ∙ search rules in
    λ program_name. rw (c.with.ensures, c.new.ensures) (chosen program_name _ _ (sym c.in_ok-entry.ensures) _ are)
