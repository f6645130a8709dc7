use Rattle.std.proofs.Common.{rules, ◌∙◌, ap₂, sym}
use Rattle.clap.specs.Words.{with_rule, new_app}
use Rattle.command_line.specs.GivenFlags.{FlagEntry, flag_of, flag_rule}
use Rattle.command_line.proofs.FoldLemmas.{fold_map_more}
use Rattle.command_line.proofs.choice.command.Goals as goal

pub loop-given-preserved : goal.loop-given-preserved
loop-given-preserved c =
    let more = fold_map_more (λ app (flag : FlagEntry). with_rule app (flag_rule flag)) flag_of (new_app c.args.entry.now.name.now)
    c.args.entry.now.flags.now c.loop-given.given-index _ c.loop-given-test.true in (
      c.in_ok-command.ensures.shape c.flag.ensures.local
          ∙ (ap₂ with_rule c.loop-given.invariant.0 c.flag.ensures.rule ∙ sym more),
      search rules,
    )
