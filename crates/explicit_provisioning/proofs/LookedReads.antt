-- What was read last, where looks at the module's state came in between: a look reads something else, and changes nothing.
use Rattle.std.proofs.Common.{◌≡◌, ℕ, ◌&&◌, ◌||◌, not, Bool, true, false, List, [], ◌∷◌, Option, Some, None, refl, sym, ap, subst, ◌∙◌, inl, inr, if◌then◌else◌}
use Rattle.bus_model.specs.declared.operation.Op.{Op}
use Rattle.bus_model.specs.declared.operation.Reply.{Reply}
use Rattle.bus_model.specs.declared.operation.Reply.TheVariants.{Bytes, Done, Refused}
use Rattle.bus_model.specs.declared.operation.Step.{Step}
use Rattle.bus_model.specs.SameOperation.{same_op}
use Rattle.conversations.specs.declared.event.Event.TheVariants.{Made, Waited, Lacked, Asked}
use Rattle.conversations.specs.declared.watching.Look.{Look}
use Rattle.conversations.specs.declared.watching.Look.TheVariants.{Seen, Due, Left}
use Rattle.conversations.specs.Events.{Events, steps_of}
use Rattle.conversations.specs.Watching.{AddsLooks, IsLooked, read_state, shown}
use Rattle.paged_memory.specs.declared.page_addressing.PageAddressing.TheVariants.{BankAndPage}
use Rattle.paged_memory.specs.PageAddressing.{is_page, reads_back}
use Rattle.control_sets.specs.Pages.{History, is_page_confirmed, may_select, read_selection}
use Rattle.explicit_provisioning.specs.LastReads.{bytes_or, is_change, last_read}
use Rattle.explicit_provisioning.proofs.LastReadLaws.{EachOn}

module _ (page : ℕ) where
  -- ---- the page stays confirmed

  look_confirmed : (step : Step) (before : History) → step.op ≡ read_state → is_page_confirmed page (step ∷ before) ≡ is_page_confirmed page before
  look_confirmed step before is = ap (λ (o : Op). (same_op read_selection o && is_page BankAndPage page step.reply) || (not (may_select o) && is_page_confirmed page before)) is

  refused_by : (reads selects before : Bool) → ((reads && false) || (not selects && before)) ≡ true → before ≡ true
  refused_by true true before is = absurd cc
  refused_by true false before is = is
  refused_by false true before is = absurd cc
  refused_by false false before is = is

  refused_confirmed : (op : Op) (before : History) → is_page_confirmed page (record { op = op; reply = Refused } ∷ before) ≡ true → is_page_confirmed page before ≡ true
  refused_confirmed op before is = refused_by (same_op read_selection op) (may_select op) (is_page_confirmed page before) is

  kept_by : (reads keeps one other : Bool) → (one ≡ true → other ≡ true) → (reads || (keeps && one)) ≡ true → (reads || (keeps && other)) ≡ true
  kept_by true keeps one other so is = refl
  kept_by false true one other so is = so is
  kept_by false false one other so is = absurd cc

  looked_confirmed : (found : Option ℕ) (op : Op) (earlier own : Events) (look : Look) (wanted : Option Op) → IsLooked found op earlier own look wanted →
      is_page_confirmed page (steps_of own) ≡ true → is_page_confirmed page (steps_of earlier) ≡ true
  looked_confirmed (Some code) op earlier own look wanted (same, at, wants) is = sym (ap (λ (e : Events). is_page_confirmed page (steps_of e)) same) ∙ is
  looked_confirmed None op earlier own look wanted (same, seen) is =
      refused_confirmed op (steps_of earlier) (sym (ap (λ (e : Events). is_page_confirmed page (steps_of e)) same) ∙ is)

  still_confirmed : (own events : Events) (look : Look) (wanted : Option Op) → AddsLooks true own events look wanted →
      is_page_confirmed page (steps_of own) ≡ true → is_page_confirmed page (steps_of events) ≡ true
  still_confirmed own [] look wanted (same, seen) is = sym (ap (λ (e : Events). is_page_confirmed page (steps_of e)) same) ∙ is
  still_confirmed own (Made step ∷ before) look wanted (inl (earlier, was, same, adds, may, seen)) is =
      kept_by (reads_back BankAndPage page step) (not (may_select step.op)) (is_page_confirmed page (steps_of earlier)) (is_page_confirmed page (steps_of before))
      (still_confirmed earlier before was (Some step.op) adds) (sym (ap (λ (e : Events). is_page_confirmed page (steps_of e)) same) ∙ is)
  still_confirmed own (Made step ∷ before) look wanted (inr (op, earlier, reads, apart, adds, at)) is =
      look_confirmed step (steps_of before) reads ∙ still_confirmed earlier before Due (Some op) adds (looked_confirmed (shown step.reply) op earlier own look wanted at is)
  still_confirmed own (Waited time ∷ before) look wanted (earlier, was, same, adds, next) is =
      still_confirmed earlier before was None adds (sym (ap (λ (e : Events). is_page_confirmed page (steps_of e)) same) ∙ is)
  still_confirmed own (Lacked number ∷ before) look wanted adds is = absurd adds
  still_confirmed own (Asked number ∷ before) look wanted (earlier, asked, same, adds) is =
      still_confirmed earlier before look asked adds (sym (ap (λ (e : Events). is_page_confirmed page (steps_of e)) same) ∙ is)

  -- ---- and what was read last stays so

  module _ (op : Op) (no_look : same_op op read_state ≡ false) (bytes : List ℕ) where
    look_read : (step : Step) (before : History) → step.op ≡ read_state → last_read page op (step ∷ before) ≡ last_read page op before
    look_read step before is =
        ap (λ (o : Op). if same_op op o && is_page_confirmed page before then bytes_or (last_read page op before) step.reply else (if is_change o then None else last_read page op before)) is
        ∙ ap (λ (b : Bool). if b && is_page_confirmed page before then bytes_or (last_read page op before) step.reply else last_read page op before) no_look

    unread_by : (reads changes : Bool) (last : Option (List ℕ)) → (if reads then last else (if changes then None else last)) ≡ Some bytes → last ≡ Some bytes
    unread_by true changes last is = is
    unread_by false true last is = absurd cc
    unread_by false false last is = is

    looked_read : (found : Option ℕ) (other : Op) (earlier own : Events) (look : Look) (wanted : Option Op) → IsLooked found other earlier own look wanted →
        last_read page op (steps_of own) ≡ Some bytes → last_read page op (steps_of earlier) ≡ Some bytes
    looked_read (Some code) other earlier own look wanted (same, at, wants) is = sym (ap (λ (e : Events). last_read page op (steps_of e)) same) ∙ is
    looked_read None other earlier own look wanted (same, seen) is =
        unread_by (same_op op other && is_page_confirmed page (steps_of earlier)) (is_change other) (last_read page op (steps_of earlier))
        (sym (ap (λ (e : Events). last_read page op (steps_of e)) same) ∙ is)

    given_by : (reply : Reply) (one last : Option (List ℕ)) → (one ≡ Some bytes → last ≡ Some bytes) → bytes_or one reply ≡ Some bytes → bytes_or last reply ≡ Some bytes
    given_by (Bytes found) one last so is = is
    given_by Done one last so is = so is
    given_by Refused one last so is = so is

    unchanged_by : (changes : Bool) (one last : Option (List ℕ)) → (one ≡ Some bytes → last ≡ Some bytes) → (if changes then None else one) ≡ Some bytes → (if changes then None else last) ≡ Some bytes
    unchanged_by true one last so is = absurd cc
    unchanged_by false one last so is = so is

    module _ (step : Step) (one other : History) (on : same_op op step.op ≡ true → is_page_confirmed page one ≡ true) (still : is_page_confirmed page one ≡ true → is_page_confirmed page other ≡ true)
        (so : last_read page op one ≡ Some bytes → last_read page op other ≡ Some bytes) where
      step_by : (same : Bool) → same_op op step.op ≡ same
          → (if same && is_page_confirmed page one then bytes_or (last_read page op one) step.reply else (if is_change step.op then None else last_read page op one)) ≡ Some bytes
          → (if same && is_page_confirmed page other then bytes_or (last_read page op other) step.reply else (if is_change step.op then None else last_read page op other)) ≡ Some bytes
      step_by true e is =
          ap (λ (c : Bool). if c then bytes_or (last_read page op other) step.reply else (if is_change step.op then None else last_read page op other)) (still (on e))
          ∙ given_by step.reply (last_read page op one) (last_read page op other) so
          (sym (ap (λ (c : Bool). if c then bytes_or (last_read page op one) step.reply else (if is_change step.op then None else last_read page op one)) (on e)) ∙ is)
      step_by false e is = unchanged_by (is_change step.op) (last_read page op one) (last_read page op other) so is

      step_read : last_read page op (step ∷ one) ≡ Some bytes → last_read page op (step ∷ other) ≡ Some bytes
      step_read is = step_by (same_op op step.op) refl is

    each_looked : (found : Option ℕ) (other : Op) (earlier own : Events) (look : Look) (wanted : Option Op) → IsLooked found other earlier own look wanted →
        EachOn page op (steps_of own) → EachOn page op (steps_of earlier)
    each_looked (Some code) other earlier own look wanted (same, at, wants) each = subst (λ (e : Events). EachOn page op (steps_of e)) same each
    each_looked None other earlier own look wanted (same, seen) each = (subst (λ (e : Events). EachOn page op (steps_of e)) same each).1

    pub still_read : (own events : Events) (look : Look) (wanted : Option Op) → AddsLooks true own events look wanted → EachOn page op (steps_of own) →
        last_read page op (steps_of own) ≡ Some bytes → last_read page op (steps_of events) ≡ Some bytes
    still_read own [] look wanted (same, seen) each is = sym (ap (λ (e : Events). last_read page op (steps_of e)) same) ∙ is
    still_read own (Made step ∷ before) look wanted (inl (earlier, was, same, adds, may, seen)) each is =
        let on = subst (λ (e : Events). EachOn page op (steps_of e)) same each in
        step_read step (steps_of earlier) (steps_of before) on.0 (still_confirmed earlier before was (Some step.op) adds) (still_read earlier before was (Some step.op) adds on.1)
        (sym (ap (λ (e : Events). last_read page op (steps_of e)) same) ∙ is)
    still_read own (Made step ∷ before) look wanted (inr (other, earlier, reads, apart, adds, at)) each is =
        look_read step (steps_of before) reads
        ∙ still_read earlier before Due (Some other) adds (each_looked (shown step.reply) other earlier own look wanted at each) (looked_read (shown step.reply) other earlier own look wanted at is)
    still_read own (Waited time ∷ before) look wanted (earlier, was, same, adds, next) each is =
        still_read earlier before was None adds (subst (λ (e : Events). EachOn page op (steps_of e)) same each) (sym (ap (λ (e : Events). last_read page op (steps_of e)) same) ∙ is)
    still_read own (Lacked number ∷ before) look wanted adds each is = absurd adds
    still_read own (Asked number ∷ before) look wanted (earlier, asked, same, adds) each is =
        still_read earlier before look asked adds (subst (λ (e : Events). EachOn page op (steps_of e)) same each) (sym (ap (λ (e : Events). last_read page op (steps_of e)) same) ∙ is)
