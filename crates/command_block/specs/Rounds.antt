-- How many operations on page 9Fh an attempt makes, and how many were refused, by its own steps. (this project's own)
use Rattle.std.specs.Prelude.{ℕ, ◌+◌, nat_le, Bool, [], ◌∷◌, if◌then◌else◌}
use Rattle.bus_model.specs.declared.operation.Op.{Op}
use Rattle.bus_model.specs.declared.operation.Op.TheVariants.{Fetch, Store}
use Rattle.conversations.specs.Pauses.{is_refused}
use Rattle.command_block.specs.Attempts.{History}

abbrev pub is_on_page : Op → Bool
is_on_page (Fetch dev offset count) = nat_le 128 offset
is_on_page (Store dev offset bytes) = nat_le 128 offset

abbrev pub one_if : Bool → ℕ
one_if holds = if holds then 1 else 0

abbrev pub count_on_page : History → ℕ
count_on_page [] = 0
count_on_page (step ∷ before) = one_if (is_on_page step.op) + count_on_page before

abbrev pub count_refused : History → ℕ
count_refused [] = 0
count_refused (step ∷ before) = one_if (is_refused step.reply) + count_refused before
