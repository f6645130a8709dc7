-- What is heard of a module is an event, and pulls it if it is silent.
use Rattle.std.proofs.Common.{◌≡◌, ◌-◌, ◌<◌, ◌∷◌, ℕ, Bool, true, false, not, ◌&&◌, refl, sym, ap, ◌∙◌, nat_lt}
use Rattle.std.specs.Prelude.{if◌then◌else◌}
use Rattle.std.proofs.lemmas.Bool.{lt-ltb, ltb-true}
use Rattle.port_manager.specs.declared.port.Port.{Port}
use Rattle.port_manager.specs.declared.silence.Presence.{Presence}
use Rattle.port_manager.specs.declared.silence.Presence.TheVariants.{Same, Plugged, Pulled}
use Rattle.port_manager.specs.declared.silence.Silence.{Silence}
use Rattle.port_manager.specs.Ports.{heard_as, is_there, presence_by}
use Rattle.port_manager.specs.Presences.{IsPulledBySilence, event_of}
use Rattle.port_manager.specs.Runs.{Becomes, Reaches}
use Rattle.port_manager.specs.Silences.{after, is_gone}
use Rattle.port_manager.specs.Stories.{Story, hear, silence_in}
use Rattle.port_manager.proofs.StoryLaws.{reaches_at}

event_by : (presence : Presence) (port : Port) (alive : Bool) (began now : ℕ) → Becomes port (event_of presence alive began now) (heard_as presence port alive began now)
event_by Same port alive began now = refl
event_by Plugged port alive began now = refl
event_by Pulled port alive began now = refl

-- by whether it is there, and is gone
abbrev judged : Bool → Bool → Bool → Presence
judged alive there gone = if alive && not there then Plugged else if there && gone then Pulled else Same

gone_if : (alive there gone : Bool) → judged alive there gone ≡ Pulled → gone ≡ true
gone_if true true true e = refl
gone_if true true false e = absurd (let same : Same ≡ Pulled = e in cc)
gone_if true false gone e = absurd (let same : Plugged ≡ Pulled = e in cc)
gone_if false true true e = refl
gone_if false true false e = absurd (let same : Same ≡ Pulled = e in cc)
gone_if false false gone e = absurd (let same : Same ≡ Pulled = e in cc)

both_true : (one other : Bool) → (one && other) ≡ true → (one ≡ true) × (other ≡ true)
both_true true other e = (refl, e)
both_true false other e = absurd (let same : false ≡ true = e in cc)

silent_by : (silence : Silence) (now : ℕ) → is_gone silence now ≡ true → (3 < silence.refusals) × (1000 < now - silence.since)
silent_by silence now e =
    let (many, long) = both_true (nat_lt 3 silence.refusals) (nat_lt 1000 (now - silence.since)) e in
    (ltb-true 3 silence.refusals many, ltb-true 1000 (now - silence.since) long)

gone_by : (silence : Silence) (now : ℕ) → (3 < silence.refusals) × (1000 < now - silence.since) → is_gone silence now ≡ true
gone_by silence now (many, long) =
    ap (λ (one : Bool). one && nat_lt 1000 (now - silence.since)) (lt-ltb 3 silence.refusals many) ∙ lt-ltb 1000 (now - silence.since) long

silence_after : (story : Story) (port : Port) (alive : Bool) (began : ℕ) → Reaches story port → after port.silence alive began ≡ silence_in (hear alive began ∷ story)
silence_after story port alive began reaches = ap (λ (silence : Silence). after silence alive began) (reaches_at story port reaches).silence

pub pulled_by_silence : IsPulledBySilence
pulled_by_silence = record {
  event = λ port alive began now. event_by (presence_by port alive began now) port alive began now;
  plugged = λ port began now there. ap (λ (there : Bool). judged true there (is_gone (after port.silence true began) now)) there;
  pulled = λ story port began now reaches there silent.
      ap (λ (there : Bool). judged false there (is_gone (after port.silence false began) now)) there
      ∙ ap (λ (gone : Bool). judged false true gone)
      (ap (λ (silence : Silence). is_gone silence now) (silence_after story port false began reaches) ∙ gone_by (silence_in (hear false began ∷ story)) now silent);
  silent = λ story port alive began now reaches pulls.
      let gone = gone_if alive (is_there port.stage) (is_gone (after port.silence alive began) now) pulls in
      silent_by (silence_in (hear alive began ∷ story)) now (ap (λ (silence : Silence). is_gone silence now) (sym (silence_after story port alive began reaches)) ∙ gone);
}
