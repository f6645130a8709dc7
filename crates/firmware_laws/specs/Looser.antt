-- A looser rule than the one that an update keeps: a download begins without a look at which image runs and which is
-- committed, as the order of Linux 6.12 has it. (this project's own)
use Rattle.std.specs.Prelude.{ℕ}
use Rattle.firmware_update.specs.declared.command.Command.{Command}
use Rattle.firmware_update.specs.declared.command.Command.TheVariants.{Start}
use Rattle.firmware_update.specs.Exchanges.{EachExchange, History, Stands}
use Rattle.firmware_update.specs.Safety.{MaySend, OnlyQueries, ReportsStartSize}

-- as what may be sent, but for what a Start demands of the newest answer
abbrev pub MaySendUnseen : ℕ → Command → History → Type 0
MaySendUnseen size (Start header) before = OnlyQueries before × Stands (ReportsStartSize size header) before
MaySendUnseen size command before = MaySend size command before

abbrev pub IsUnseen : ℕ → History → Type 0
IsUnseen size history = EachExchange (λ x before. MaySendUnseen size x.command before) history
