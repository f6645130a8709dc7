-- What C is told of a port, and tells of what is wanted. (docs/manager.md, "From C"; this project's own)
use Rattle.std.specs.Prelude.{◌==◌, ℕ, false, not, Option, Some, None, replicate}
use Rattle.std.specs.FinSet as set
use Rattle.conversations.specs.declared.next.Next.{Next}
use Rattle.conversations.specs.declared.next.Next.TheVariants.{Do, Wait, End}
use Rattle.field_tables.specs.LaneSets.{lanes_in}
use Rattle.paged_memory.specs.declared.key.Half.{Half}
use Rattle.paged_memory.specs.declared.key.Half.TheVariants.{Lower, Upper}
use Rattle.paged_memory.specs.declared.key.Key.{Key}
use Rattle.port_manager.specs.declared.deciding.Wanted.{Wanted}
use Rattle.port_manager.specs.declared.port.Port.{Port}
use Rattle.port_manager.specs.declared.port.Rest.{Rest}
use Rattle.port_manager.specs.declared.port.Rest.TheVariants.{Busy, Idle}
use Rattle.port_manager.specs.declared.silence.Presence.{Presence}
use Rattle.port_manager.specs.declared.silence.Presence.TheVariants.{Same, Plugged, Pulled}
use Rattle.port_manager.specs.Ports.{until}
use Rattle.saved_port.specs.Places.{place_of}
use Rattle.firmware_api.specs.declared.operation.Operation.{Operation}
use Rattle.firmware_api.specs.declared.port.next.NextOfPort.{NextOfPort}
use Rattle.firmware_api.specs.declared.port.wanted.PortWanted.{PortWanted}
use Rattle.firmware_api.specs.Operations.{most_stored, operation_of}

-- each number but 0 says yes
abbrev pub wanted_in : PortWanted → Wanted
wanted_in wanted = record {
  hosts = wanted.weights;
  stay = wanted.stay;
  paired = not (wanted.paired == 0);
  counts_by_id = not (wanted.counts_by_id == 0);
  max_power = wanted.most_power;
  may_take_down = lanes_in wanted.may_take_down;
  asleep = false;
  down = set.empty;
}

abbrev pub number_of_presence : Presence → ℕ
number_of_presence Same = 0
number_of_presence Plugged = 1
number_of_presence Pulled = 2

abbrev pub no_operation : Operation
no_operation = record { milliseconds = 0; kind = 0; device = 0; offset = 0; count = 0; bytes = replicate most_stored 0 }

abbrev pub nothing : NextOfPort
nothing = record { moment = 0; kind = 0; whole = 0; upper = 0; bank = 0; page = 0; operation = no_operation }

abbrev pub number_of_half : Half → ℕ
number_of_half Lower = 0
number_of_half Upper = 1

-- of an operation that fetches a whole half, or doesn't
abbrev pub with_place : Option Key → NextOfPort → NextOfPort
with_place None next = next
with_place (Some key) next =
    record { moment = next.moment; kind = next.kind; whole = 1; upper = number_of_half key.half; bank = key.bank; page = key.page; operation = next.operation }

abbrev pub with_operation : Operation → NextOfPort → NextOfPort
with_operation operation next = record next { operation = operation }

-- what this port wants; what it doesn't have is 0
abbrev pub next_told : Port → Next Rest → NextOfPort
next_told port (Do op) = with_operation (operation_of op) (with_place (place_of port) nothing)
next_told port (Wait time) = record nothing { kind = 1; moment = until port }
next_told port (End Busy) = record nothing { kind = 2 }
next_told port (End Idle) = record nothing { kind = 3 }
