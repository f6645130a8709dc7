-- The executable module, as the definitions of it see it. (this project's own)
use Rattle.std.specs.Prelude.{◌≡◌, ℕ, true, false, Option, Some, None, option_map}
use Rattle.command_block.specs.declared.message.Message.{Message}
use Rattle.simulated_updates.specs.declared.banks.Banks.{Banks}
use Rattle.simulated_updates.specs.declared.banks.Receiving.{Receiving}
use Rattle.simulated_updates.specs.declared.banks.Slot.{Slot}
use Rattle.simulated_updates.specs.declared.module.SimulatedModule.{SimulatedModule}
use Rattle.firmware_laws.specs.Modules.{Download, Firmware, Held}
use Rattle.simulated_updates.specs.Modules.{Module, count_in, is_whole, message_in}

abbrev pub held_of : Slot → Held
held_of slot = record { valid = slot.valid; committed = slot.committed; image = slot.image.items }

abbrev pub download_of : Receiving → Download
download_of receiving = record { size = receiving.size; first = receiving.first.items; rest = receiving.rest.items }

abbrev pub firmware_of : Banks → Firmware
firmware_of banks = record {
  a = held_of banks.a;
  b = held_of banks.b;
  running = banks.running;
  download = option_map download_of banks.download;
  reset = banks.reset;
}

abbrev pub module_of : SimulatedModule → Module
module_of m = record {
  firmware = firmware_of m.firmware;
  page = m.page;
  head = m.head.items;
  body = m.body.items;
  status = m.status;
  reply = m.reply.items;
  busy = m.busy;
  background = m.background;
}

-- the message whose id was stored, if it is whole
abbrev pub IsMessage : ℕ → Module → Option Message → Type 0
IsMessage id m (Some message) = (is_whole id m.head m ≡ true) × (message ≡ message_in id (count_in m.head) m)
IsMessage id m None = is_whole id m.head m ≡ false
