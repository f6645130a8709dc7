-- A bus that does as a script says: one reply may come. (docs/formats.md, "Script"; docs/bus.md, "Scripted bus"; this
-- project's own)
use Rattle.std.specs.Prelude.{◌≡◌, ℕ, zero, suc, List, [], ◌∷◌, take, option_map, if◌then◌else◌}
use Rattle.bus_model.specs.declared.operation.Op.{Op}
use Rattle.bus_model.specs.declared.operation.Op.TheVariants.{Fetch, Store}
use Rattle.bus_model.specs.declared.operation.Reply.{Reply}
use Rattle.bus_model.specs.declared.operation.Reply.TheVariants.{Done, Refused}
use Rattle.bus_model.specs.declared.script.Directive.{Directive}
use Rattle.bus_model.specs.declared.script.Directive.TheVariants.{Pass, Nack, Cut, Tick, LowPower}
use Rattle.bus_model.specs.Conduct.{Conduct}
use Rattle.bus_model.specs.Operations.{fetch_reply}
use Rattle.bus_model.specs.Runs.{Rules}
use Rattle.bus_model.specs.Scripts.{spent}

-- so many units of time
abbrev pub ticked_times : {S : Type 0} → Conduct S → ℕ → S → S
ticked_times conduct zero state = state
ticked_times conduct (suc count) state = conduct.tick (ticked_times conduct count state)

-- the script and the device when the directives that stand before the next transaction have come
abbrev pub settled : {S : Type 0} → Conduct S → List Directive → S → List Directive × S
settled conduct [] state = ([], state)
settled conduct (Pass count ∷ script) state = (Pass count ∷ script, state)
settled conduct (Nack count ∷ script) state = (Nack count ∷ script, state)
settled conduct (Cut count ∷ script) state = (Cut count ∷ script, state)
settled conduct (Tick count ∷ script) state = settled conduct script (ticked_times conduct count state)
settled conduct (LowPower on ∷ script) state = settled conduct script (conduct.low_power_pin state on)

-- the device's own reply
abbrev pub passed_on : {S : Type 0} → Conduct S → Op → S → Reply × S
passed_on conduct (Fetch dev offset count) state =
    let gives = conduct.fetch state dev offset count in
    (fetch_reply (option_map (λ bytes. record { items = bytes }) gives.0), gives.1)
passed_on conduct (Store dev offset bytes) state =
    let gives = conduct.store state dev offset bytes.items in
    (if gives.0 then Done else Refused, gives.1)

-- the device is given the first bytes of a store, if any
abbrev pub given : {S : Type 0} → Conduct S → Op → ℕ → S → S
given conduct (Fetch dev offset count) kept state = state
given conduct (Store dev offset bytes) zero state = state
given conduct (Store dev offset bytes) (suc kept) state =
    (conduct.store state dev offset (take (suc kept) bytes.items)).1

-- what comes of a transaction under the next directive
abbrev pub obeyed : {S : Type 0} → Conduct S → Op → List Directive → S → Reply × S
obeyed conduct op [] state = passed_on conduct op state
obeyed conduct op (Pass count ∷ script) state = passed_on conduct op state
obeyed conduct op (Nack count ∷ script) state = (Refused, state)
obeyed conduct op (Cut kept ∷ script) state = (Refused, given conduct op kept state)
obeyed conduct op (Tick count ∷ script) state = passed_on conduct op state
obeyed conduct op (LowPower on ∷ script) state = passed_on conduct op state

-- the reply to a transaction, and the script and the device after it
abbrev pub transacted : {S : Type 0} → Conduct S → Op → List Directive × S → Reply × (List Directive × S)
transacted conduct op (script, state) =
    let next = settled conduct script state in
    let made = obeyed conduct op next.0 next.1 in
    (made.0, (spent next.0, conduct.tick made.1))

abbrev pub script_rules : {S : Type 0} → Conduct S → Rules (List Directive × S)
script_rules conduct = record {
  may = λ state step. step.reply ≡ (transacted conduct step.op state).0;
  after = λ state step. (transacted conduct step.op state).1;
}
