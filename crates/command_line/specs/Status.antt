-- The exit statuses of the program (docs/formats.md; this project's own).
use Rattle.std.specs.Prelude.{ℕ}
use Rattle.command_line.specs.declared.status.Status.{Status}
use Rattle.command_line.specs.declared.status.Status.TheVariants.{Done, Refused, CommandLine}
use Rattle.command_line.specs.declared.status.Status.TheVariants.{NotProvisioned, BadCertificate, Memory}
use Rattle.command_line.specs.declared.status.Status.TheVariants.{ReadOrWrite}

-- the number that the process ends with
abbrev pub code_of : Status → ℕ
code_of Done = 0
code_of Refused = 1
code_of CommandLine = 2
code_of NotProvisioned = 3
code_of BadCertificate = 4
code_of Memory = 5
code_of ReadOrWrite = 6
