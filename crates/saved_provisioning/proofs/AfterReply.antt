-- What a reply leaves as it was in provisioning with settings, and where it leaves the tasks.
use Rattle.std.proofs.Common.{◌≡◌, inl, inr, ◌<◌, ◌≤◌, ℕ, Bool, true, false, not, ◌&&◌, Option, Some, None, refl, sym, ap, subst, ◌∙◌, arith, if◌then◌else◌}
use Rattle.bus_model.specs.declared.operation.Op.{Op}
use Rattle.bus_model.specs.declared.operation.Reply.{Reply}
use Rattle.bus_model.specs.declared.operation.Reply.TheVariants.{Bytes, Done, Refused}
use Rattle.bus_model.specs.declared.operation.Op.TheVariants.{Fetch, Store}
use Rattle.bus_model.specs.Operations.{Answers}
use Rattle.conversations.specs.declared.next.Next.{Next}
use Rattle.conversations.specs.declared.next.Next.TheVariants.{Do, Wait, End}
use Rattle.conversations.specs.declared.on_page.OnPage.{OnPage}
use Rattle.conversations.specs.declared.pausing.Timed.{Timed}
use Rattle.conversations.specs.declared.watching.Look.{Look}
use Rattle.conversations.specs.declared.watching.Look.TheVariants.{Seen, Due, Left}
use Rattle.conversations.specs.declared.watching.Watched.{Watched}
use Rattle.conversations.specs.declared.within.Spent.{Spent}
use Rattle.conversations.specs.Patiently.{after_patiently, wants_patiently}
use Rattle.conversations.specs.Pauses.{is_refused}
use Rattle.conversations.specs.Selecting.{after_missing, after_trusting, lacked, taken_after, taken_by, told_lacked}
use Rattle.conversations.specs.Wanted.{IsReplyTo}
use Rattle.conversations.specs.Watching.{is_look, is_looking, looked, next_watching, read_state, shown}
use Rattle.conversations.proofs.PatientLaws.{made}
use Rattle.conversations.proofs.WatchingLaws.{looking_at}
use Rattle.paged_memory.specs.declared.page_addressing.KnownPage.TheVariants.{Unknown}
use Rattle.paged_memory.specs.declared.page_addressing.PageAddressing.TheVariants.{BankAndPage}
use Rattle.paged_memory.specs.KnownPages.{is_awaited, missing_page, selection_told}
use Rattle.control_sets.specs.OutcomeAnswers.{most_steps}
use Rattle.control_sets.specs.Progress as tasks
use Rattle.explicit_provisioning.specs.ExplicitProcedures.{ExplicitEnd, ExplicitTasks, WatchfulTasks}
use Rattle.explicit_provisioning.specs.Following.{after_then, lacking_then}
use Rattle.conversations.specs.declared.pausing.Patience.{Patience}
use Rattle.control_sets.specs.declared.procedures.procedure.Work.{Work}
use Rattle.lane_controls.specs.declared.settings_change.SettingsChange.{SettingsChange}
use Rattle.saved_provisioning.specs.Standings.{CameFrom, IsUsual, list_of}
use Rattle.saved_provisioning.specs.Turns.{Rest, after, after_on, are_met, as_was, comparing_after, is_staged, own_after, own_lacking, own_page, rest_after, rest_lacking, staging_after, wants, wants_on}

-- ---- of the three conversations

came_rest : (it : Rest) (reply : Reply) (met : Bool) → CameFrom it.first (after_then met tasks.after_reply comparing_after it reply).first
came_rest it reply true = inl refl
came_rest it reply false = inr (reply, refl)

came_own : (it : ExplicitTasks) (reply : Reply) (staged : Bool) → CameFrom it.second.first (after_then staged staging_after rest_after it reply).second.first
came_own it reply true = came_rest it.second reply (are_met it.second)
came_own it reply false = inl refl

lacks_rest : (it : Rest) (number : ℕ) (met : Bool) → (lacking_then met as_was as_was it number).first ≡ it.first
lacks_rest it number true = refl
lacks_rest it number false = refl

lacks_own : (it : ExplicitTasks) (number : ℕ) (staged : Bool) → (lacking_then staged as_was rest_lacking it number).second.first ≡ it.second.first
lacks_own it number true = lacks_rest it.second number (are_met it.second)
lacks_own it number false = refl

lacked_own : (it : ExplicitTasks) (page : Option ℕ) → CameFrom it.second.first (told_lacked own_lacking page it).second.first
lacked_own it None = inl refl
lacked_own it (Some number) = inl (lacks_own it number (is_staged it))

-- ---- on confirmed pages, of which none is lacked

abbrev Leaves : OnPage ExplicitTasks → OnPage ExplicitTasks → Type 0
Leaves on later = CameFrom on.conversation.second.first later.conversation.second.first × (later.taken ≡ None)

none_taken : (page : ℕ) (reply : Reply) → taken_by false page reply ≡ None
none_taken page (Bytes bytes) = refl
none_taken page Done = refl
none_taken page Refused = refl

still_none : (taken : Option ℕ) (reply : Reply) → taken ≡ None → taken_after taken reply ≡ None
still_none taken (Bytes bytes) none = refl
still_none taken Done none = none
still_none taken Refused none = none

module _ (on : OnPage ExplicitTasks) (reply : Reply) (none : on.taken ≡ None) where
  leaves_missing : (page : Option ℕ) → Leaves on (after_missing own_after false page on reply)
  leaves_missing None = (came_own on.conversation reply (is_staged on.conversation), refl)
  leaves_missing (Some page) = (inl refl, none_taken page reply)

  leaves_trusting : (awaited : Bool) → Leaves on (if awaited then record {
    conversation = told_lacked own_lacking (lacked BankAndPage (own_page on.conversation) on.taken reply) on.conversation;
    selection = selection_told BankAndPage on.selection reply;
    taken = taken_after on.taken reply;
    doubts = on.doubts;
  } else after_missing own_after false (missing_page on.selection (own_page on.conversation)) on reply)
  leaves_trusting true = (lacked_own on.conversation (lacked BankAndPage (own_page on.conversation) on.taken reply), still_none on.taken reply none)
  leaves_trusting false = leaves_missing (missing_page on.selection (own_page on.conversation))

  leaves_doubting : (later : OnPage ExplicitTasks) → Leaves on later → (doubts : Bool) →
      Leaves on (if doubts then record { conversation = later.conversation; selection = Unknown; taken = None; doubts = later.doubts } else later)
  leaves_doubting later leaves true = (leaves.0, refl)
  leaves_doubting later leaves false = leaves

  leaves_on : Leaves on (after_on on reply)
  leaves_on =
      let later = after_trusting own_after own_lacking false BankAndPage (own_page on.conversation) on reply in
      leaves_doubting later (leaves_trusting (is_awaited on.selection)) (later.doubts && is_refused reply)

-- ---- with looks

refusable : (op : Op) → Answers op Refused
refusable (Fetch dev offset count) = tt
refusable (Store dev offset bytes) = tt

module _ (it : WatchfulTasks) (reply : Reply) where
  abbrev on : OnPage ExplicitTasks
  on = it.conversation.conversation.conversation

  abbrev wanted : Next (Spent (Timed ExplicitEnd))
  wanted = wants_patiently wants_on it.conversation

  abbrev later_by : Bool → WatchfulTasks
  later_by looking =
      if looking then looked (after_patiently wants_on after_on) it (shown reply)
      else record { conversation = after_patiently wants_on after_on it.conversation reply; watches = it.watches; look = Seen }

  module _ (none : on.taken ≡ None) where
    leaves_looked : (code : Option ℕ) → Leaves on (looked (after_patiently wants_on after_on) it code).conversation.conversation.conversation
    leaves_looked (Some code) = (inl refl, none)
    leaves_looked None = leaves_on on Refused none

    leaves_by : (looking : Bool) → Leaves on (later_by looking).conversation.conversation.conversation
    leaves_by true = leaves_looked (shown reply)
    leaves_by false = leaves_on on reply none

    leaves : Leaves on (after it reply).conversation.conversation.conversation
    leaves = leaves_by (is_looking it.look wanted)

    pub still_taken : (after it reply).conversation.conversation.conversation.taken ≡ None
    still_taken = leaves.1

    pub came : CameFrom (list_of it) (list_of (after it reply))
    came = leaves.0

  -- ---- no more steps are made than may be

  looked_few : (code : Option ℕ) → it.conversation.steps < it.conversation.limit → (looked (after_patiently wants_on after_on) it code).conversation.steps ≤ it.conversation.limit
  looked_few (Some code) fewer = omega (arith, fewer)
  looked_few None fewer = omega (arith, fewer)

  due_reply : (op : Op) (is : Bool) → not is ≡ false → IsReplyTo {E = Watched (Spent (Timed ExplicitEnd))} (if is then Do op else Do read_state) reply → Answers op reply
  due_reply op true own answers = answers
  due_reply op false own answers = absurd cc

  own_reply : (look : Look) (next : Next (Spent (Timed ExplicitEnd))) → is_looking look next ≡ false → IsReplyTo (next_watching look next) reply → IsReplyTo next reply
  own_reply Seen (Do op) own answers = answers
  own_reply Due (Do op) own answers = due_reply op (is_look op) own answers
  own_reply (Left code) (Do op) own answers = absurd answers
  own_reply look (Wait time) own answers = absurd answers
  own_reply look (End end) own answers = absurd answers

  few_by : (looking : Bool) → is_looking it.look wanted ≡ looking → IsReplyTo (wants it) reply → (later_by looking).conversation.steps ≤ it.conversation.limit
  few_by true is answers =
      let (op, due, asks, other) = looking_at it.look wanted is in
      let refused : IsReplyTo wanted Refused = subst (λ (next : Next (Spent (Timed ExplicitEnd))). IsReplyTo next Refused) (sym asks) (refusable op) in
      looked_few (shown reply) (made wants_on it.conversation Refused refused).0
  few_by false is answers =
      let fewer = (made wants_on it.conversation reply (own_reply it.look wanted is answers)).0 in
      omega (arith, fewer)

  pub still_few : IsReplyTo (wants it) reply → (after it reply).conversation.steps ≤ it.conversation.limit
  still_few answers = few_by (is_looking it.look wanted) refl answers

-- ---- all of that after a reply

abbrev pub Topic : Type 0
Topic = Bool × (ℕ × (Patience × (Bool × (SettingsChange × (Work × SettingsChange)))))

abbrev pub topic_of : WatchfulTasks → Topic
topic_of it =
    let pausing = it.conversation.conversation in
    let on = pausing.conversation in
    let own = on.conversation in
    (it.watches, (it.conversation.limit, (pausing.patience, (on.doubts, (own.first.change, (own.second.first.work, own.second.second.change))))))

pub usual_after : (it new : WatchfulTasks) (reply : Reply) → new ≡ after it reply → topic_of new ≡ topic_of it → IsUsual it → IsReplyTo (wants it) reply → IsUsual new
usual_after it new reply is same usual answers =
    let few : (after it reply).conversation.steps ≤ most_steps = subst (λ (n : ℕ). (after it reply).conversation.steps ≤ n) usual.limit (still_few it reply answers) in
    record {
      watches = ap (λ (t : Topic). t.0) same ∙ usual.watches;
      limit = ap (λ (t : Topic). t.1.0) same ∙ usual.limit;
      few = subst (λ (w : WatchfulTasks). w.conversation.steps ≤ most_steps) (sym is) few;
      doubts = ap (λ (t : Topic). t.1.1.1.0) same ∙ usual.doubts;
      taken = ap (λ (w : WatchfulTasks). w.conversation.conversation.conversation.taken) is ∙ still_taken it reply usual.taken;
      change = ap (λ (t : Topic). t.1.1.1.1.1.1) same ∙ usual.change ∙ sym (ap (λ (t : Topic). t.1.1.1.1.0) same);
    }
