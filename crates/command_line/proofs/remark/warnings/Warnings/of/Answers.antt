use Rattle.std.proofs.Common.{Bool, List, not}
use Rattle.command_line.specs.declared.remark.warnings.Warnings.{Warnings}
use Rattle.command_line.proofs.remark.warnings.Warnings.of.Goals as goal

abbrev made : Bool → Bool → List Bool → List Bool → List Bool → Warnings
made has_paths unused hosts media apps = record { unknown_hosts = hosts; unknown_media = media; unknown_apps = apps; stays_unused = unused; has_no_paths = not has_paths }

pub returns : goal.returns
returns c = (λ i. made c.args.has_paths (c.stays_unused.ensures i) (c.unknown_in-unknown_hosts.ensures i) (c.unknown_in-unknown_media.ensures i) (c.unknown_in-unknown_apps.ensures i))
