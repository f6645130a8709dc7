-- What a reading was told is what happened, and how it ends.
use Rattle.std.proofs.Common.{◌≡◌, ℕ, Bool, true, false, List, [], ◌∷◌, Option, Some, None, refl, sym, ap, subst, ◌∙◌, if◌then◌else◌, nat_lt}
use Rattle.bus_model.specs.declared.operation.Op.{Op}
use Rattle.bus_model.specs.declared.operation.Reply.{Reply}
use Rattle.bus_model.specs.declared.operation.Reply.TheVariants.{Bytes, Done, Refused}
use Rattle.bus_model.specs.Operations.{Answers}
use Rattle.conversations.specs.declared.event.Event.TheVariants.{Made, Waited, Lacked, Asked}
use Rattle.conversations.specs.declared.next.Next.{Next}
use Rattle.conversations.specs.declared.next.Next.TheVariants.{Do, Wait, End}
use Rattle.conversations.specs.Events.{Events, made}
use Rattle.conversations.specs.Wanted.{IfDo, IfEnd, IsReplyTo, IsWait}
use Rattle.observables.specs.Pages.{has_observables}
use Rattle.paged_memory.specs.declared.page_addressing.PageAddressing.TheVariants.{BankAndPage}
use Rattle.paged_memory.specs.declared.page_addressing.KnownPage.TheVariants as selected_page
use Rattle.paged_memory.specs.Images.{Memory}
use Rattle.paged_memory.specs.KnownPages.{is_awaited, is_known, missing_page, selecting_first, selection_read, wanted}
use Rattle.paged_memory.specs.PageAddressing.{read_selection}
use Rattle.vdm_reading.specs.declared.end.Statistics.TheVariants as statistics
use Rattle.vdm_reading.specs.declared.end.VdmEnd.{VdmEnd}
use Rattle.vdm_reading.specs.declared.reading.VdmReading.{VdmReading}
use Rattle.vdm_reading.specs.declared.reading.VdmRequest.{VdmRequest}
use Rattle.vdm_reading.specs.declared.reading.VdmStage.{VdmStage}
use Rattle.vdm_reading.specs.declared.reading.VdmStage.TheVariants as stage
use Rattle.vdm_reading.specs.FrozenSteps.{freezing, is_freeze_done, is_unfreeze_done, read_done, read_half, releasing, store_control}
use Rattle.vdm_reading.specs.VdmAccounts.{EachIsWanted, HasEnded, IsTold, reading_after}
use Rattle.vdm_reading.specs.VdmStages.{accepted_at, after, after_missing, after_pause, after_read_back, after_selection, after_work, asked, confirmed, end_of, enter, failed, frozen_by, fruitless_by, kept, lost_at, may_be_frozen, next_by, over, page_now, read_at, refused_at, released_by, rested, turn_by, wants, work_at}

-- what comes next leaves these as they are
pub record IsSame (old new : VdmReading) : Type 0 where
  pub request : new.request ≡ old.request
  pub image : new.image ≡ old.image
  pub pages : new.pages ≡ old.pages
  pub control : new.control ≡ old.control
  pub release : new.release ≡ old.release
  pub selection : new.selection ≡ old.selection

pub finish_same : (frozen : Bool) (reading : VdmReading) → IsSame reading (if frozen then enter stage.Release reading else over reading)
finish_same true reading = record { request = refl; image = refl; pages = refl; control = refl; release = refl; selection = refl }
finish_same false reading = record { request = refl; image = refl; pages = refl; control = refl; release = refl; selection = refl }

pub next_same : (todo : List ℕ) (reading : VdmReading) → IsSame reading (next_by todo reading)
next_same [] reading = finish_same (may_be_frozen reading.release) reading
next_same (page ∷ rest) reading = record { request = refl; image = refl; pages = refl; control = refl; release = refl; selection = refl }

over_same : (reading : VdmReading) → IsSame reading (over reading)
over_same reading = record { request = refl; image = refl; pages = refl; control = refl; release = refl; selection = refl }

counts_same : (reading new : VdmReading) → IsSame (record reading { statistics = statistics.Refused }) new → IsSame reading new
counts_same reading new same = record { request = same.request; image = same.image; pages = same.pages; control = same.control; release = same.release; selection = same.selection }

waits_same : (reading new : VdmReading) → IsSame (record reading { statistics = statistics.Pending }) new → IsSame reading new
waits_same reading new same = record { request = same.request; image = same.image; pages = same.pages; control = same.control; release = same.release; selection = same.selection }

pub lost_same : (now : VdmStage) (reading : VdmReading) → IsSame reading (lost_at now reading)
lost_same stage.Advertised reading = over_same reading
lost_same stage.Groups reading = over_same reading
lost_same stage.Freeze reading = counts_same reading _ (next_same reading.todo.items (record reading { statistics = statistics.Refused }))
lost_same stage.Freezing reading = waits_same reading _ (next_same reading.todo.items (record reading { statistics = statistics.Pending }))
lost_same (stage.Page page) reading = next_same reading.todo.items reading
lost_same stage.Release reading = over_same reading
lost_same stage.Releasing reading = over_same reading
lost_same stage.Over reading = over_same reading

due_same : (reading new : VdmReading) → IsSame (record reading { due = true }) new → IsSame reading new
due_same reading new same = record { request = same.request; image = same.image; pages = same.pages; control = same.control; release = same.release; selection = same.selection }

pub fruitless_same : (more : Bool) (reading : VdmReading) → IsSame reading (fruitless_by more reading)
fruitless_same true reading = record { request = refl; image = refl; pages = refl; control = refl; release = refl; selection = refl }
fruitless_same false reading = due_same reading _ (lost_same reading.stage (record reading { due = true }))

pub failed_same : (reading : VdmReading) → IsSame (record reading { selection = selected_page.Unknown }) (failed reading)
failed_same reading = fruitless_same (nat_lt 0 reading.left) (record reading { selection = selected_page.Unknown })

-- ---- what is requested never changes

module _ (reading : VdmReading) where
  confirmed_request : (shows : Bool) → (confirmed shows reading).request ≡ reading.request
  confirmed_request true = refl
  confirmed_request false = (failed_same reading).request

  back_request : (reply : Reply) → (after_read_back reading reply).request ≡ reading.request
  back_request (Bytes bytes) = confirmed_request (is_known (selection_read BankAndPage bytes.items) (page_now reading))
  back_request Done = (failed_same reading).request
  back_request Refused = (failed_same reading).request

  selected_request : (reply : Reply) → (after_selection reading reply).request ≡ reading.request
  selected_request (Bytes bytes) = (failed_same reading).request
  selected_request Done = refl
  selected_request Refused = (failed_same reading).request

  advertised_request : (has : Bool) (image : Memory) → let new = record reading { image = image } in
      (if has then enter stage.Groups new else over (record new { statistics = statistics.Unsupported })).request ≡ reading.request
  advertised_request true image = refl
  advertised_request false image = refl

  frozen_request : (done : Bool) → (frozen_by done reading).request ≡ reading.request
  frozen_request true = (next_same reading.todo.items (record reading { statistics = statistics.Frozen })).request
  frozen_request false = (fruitless_same (nat_lt 0 reading.left) reading).request

  released_request : (done : Bool) → (released_by done reading).request ≡ reading.request
  released_request true = refl
  released_request false = (fruitless_same (nat_lt 0 reading.left) reading).request

  read_request : (now : VdmStage) (bytes : List ℕ) → (read_at now bytes reading).request ≡ reading.request
  read_request stage.Advertised bytes = advertised_request (has_observables (kept 0x01 bytes reading).image) (kept 0x01 bytes reading).image
  read_request stage.Groups bytes = refl
  read_request stage.Freeze bytes = (failed_same reading).request
  read_request stage.Freezing bytes = frozen_request (is_freeze_done bytes)
  read_request (stage.Page page) bytes = (next_same reading.todo.items (kept page bytes reading)).request
  read_request stage.Release bytes = (failed_same reading).request
  read_request stage.Releasing bytes = released_request (is_unfreeze_done bytes)
  read_request stage.Over bytes = refl

  accepted_request : (now : VdmStage) → (accepted_at now reading).request ≡ reading.request
  accepted_request stage.Advertised = (failed_same reading).request
  accepted_request stage.Groups = (failed_same reading).request
  accepted_request stage.Freeze = refl
  accepted_request stage.Freezing = (failed_same reading).request
  accepted_request (stage.Page page) = (failed_same reading).request
  accepted_request stage.Release = refl
  accepted_request stage.Releasing = (failed_same reading).request
  accepted_request stage.Over = refl

  refused_request : (now : VdmStage) → (refused_at now reading).request ≡ reading.request
  refused_request stage.Advertised = (failed_same reading).request
  refused_request stage.Groups = (failed_same reading).request
  refused_request stage.Freeze = (failed_same (asked reading)).request
  refused_request stage.Freezing = (failed_same reading).request
  refused_request (stage.Page page) = (failed_same reading).request
  refused_request stage.Release = (failed_same reading).request
  refused_request stage.Releasing = (failed_same reading).request
  refused_request stage.Over = refl

  work_request : (reply : Reply) → (after_work reading reply).request ≡ reading.request
  work_request (Bytes bytes) = read_request reading.stage bytes.items
  work_request Done = accepted_request reading.stage
  work_request Refused = refused_request reading.stage

  missing_request : (missing : Option ℕ) (reply : Reply) → (after_missing missing reading reply).request ≡ reading.request
  missing_request None reply = work_request reply
  missing_request (Some page) reply = selected_request reply

  by_awaited : (awaited : Bool) (missing : Option ℕ) (reply : Reply) → (if awaited then after_read_back reading reply else after_missing missing reading reply).request ≡ reading.request
  by_awaited true missing reply = back_request reply
  by_awaited false missing reply = missing_request missing reply

  pub request_kept : (reply : Reply) → (after reading reply).request ≡ reading.request
  request_kept reply = by_awaited (is_awaited reading.selection) (missing_page reading.selection (Some (page_now reading))) reply

-- ---- a reading from its beginning

pub request_is : (request : VdmRequest) (events : Events) → (reading_after request events).request ≡ request
request_is request [] = refl
request_is request (Made step ∷ before) = request_kept (reading_after request before) step.reply ∙ request_is request before
request_is request (Waited time ∷ before) = request_is request before
request_is request (Lacked page ∷ before) = request_is request before
request_is request (Asked number ∷ before) = request_is request before

pub told_from : (request : VdmRequest) (events : Events) → EachIsWanted request events → IsTold events (reading_after request events)
told_from request events each = record {
  is = ap (λ (r : VdmRequest). reading_after r events) (sym (request_is request events));
  each = subst (λ (r : VdmRequest). EachIsWanted r events) (sym (request_is request events)) each;
}

-- ---- one event more

module _ (events : Events) (reading : VdmReading) (told : IsTold events reading) where
  pub told_step : (op : Op) (reply : Reply) → wants reading ≡ Do op → Answers op reply → IsTold (made op reply ∷ events) (after reading reply)
  told_step op reply asks answers = record {
    is = subst (λ (request : VdmRequest). after reading reply ≡ after (reading_after request events) reply) (sym (request_kept reading reply)) (ap (λ (r : VdmReading). after r reply) told.is);
    each = subst (λ (request : VdmRequest). EachIsWanted request (made op reply ∷ events)) (sym (request_kept reading reply)) (subst (λ (r : VdmReading). wants r ≡ Do op) told.is asks, answers, told.each);
  }

  pub told_wait : (time : ℕ) → wants reading ≡ Wait time → IsTold (Waited time ∷ events) (rested reading)
  told_wait time asks = record {
    is = ap (λ (r : VdmReading). rested r) told.is;
    each = (subst (λ (r : VdmReading). wants r ≡ Wait time) told.is asks, told.each);
  }

  busy : (op : Op) (due : Bool) → IfEnd (after_pause due reading.request.pause (wanted BankAndPage reading.selection (Some (page_now reading)) op)) (λ end. HasEnded reading.request events end)
  busy op true = tt
  busy op false = tt

  ends_at : (now : VdmStage) → reading.stage ≡ now → IfEnd (turn_by reading (work_at reading now)) (λ end. HasEnded reading.request events end)
  ends_at stage.Advertised is = busy read_half reading.due
  ends_at stage.Groups is = busy read_half reading.due
  ends_at stage.Freeze is = busy (store_control (freezing reading.control)) reading.due
  ends_at stage.Freezing is = busy read_done reading.due
  ends_at (stage.Page page) is = busy read_half reading.due
  ends_at stage.Release is = busy (store_control (releasing reading.control)) reading.due
  ends_at stage.Releasing is = busy read_done reading.due
  ends_at stage.Over is = record {
    each = told.each;
    over = ap (λ (r : VdmReading). r.stage) (sym told.is) ∙ is;
    is = ap end_of told.is;
  }

pub ends_if : (events : Events) (reading : VdmReading) (next : Next VdmEnd) → next ≡ wants reading → IsTold events reading → IfEnd next (λ end. HasEnded reading.request events end)
ends_if events reading next is told = subst (λ (n : Next VdmEnd). IfEnd n (λ end. HasEnded reading.request events end)) (sym is) (ends_at events reading told reading.stage refl)

if_do : (next : Next VdmEnd) (P : Type 0) → P → IfDo next (λ (op : Op). P)
if_do (Do op) P p = p
if_do (Wait time) P p = tt
if_do (End end) P p = tt

pub goes_on_if : (events : Events) (reading : VdmReading) (next : Next VdmEnd) → IsTold events reading → IfDo next (λ (op : Op). EachIsWanted reading.request events)
goes_on_if events reading next told = if_do next (EachIsWanted reading.request events) told.each

-- after a pause comes none
no_pause : (reading : VdmReading) (next : Next VdmEnd) → ¬ (IsWait next) → ¬ (IsWait (turn_by (rested reading) next))
no_pause reading (Do op) none waits = waits
no_pause reading (Wait time) none waits = none tt
no_pause reading (End end) none waits = waits

never_waits : (reading : VdmReading) (now : VdmStage) → ¬ (IsWait (work_at reading now))
never_waits reading stage.Advertised waits = waits
never_waits reading stage.Groups waits = waits
never_waits reading stage.Freeze waits = waits
never_waits reading stage.Freezing waits = waits
never_waits reading (stage.Page page) waits = waits
never_waits reading stage.Release waits = waits
never_waits reading stage.Releasing waits = waits
never_waits reading stage.Over waits = waits

pub once : (reading : VdmReading) → ¬ (IsWait (wants (rested reading)))
once reading = no_pause reading (work_at (rested reading) reading.stage) (never_waits (rested reading) reading.stage)

-- ---- what a reply is to

module _ (reading : VdmReading) (reply : Reply) (closed : is_awaited reading.selection ≡ false) (there : missing_page reading.selection (Some (page_now reading)) ≡ None) where
  wanted_is : (op : Op) → wanted BankAndPage reading.selection (Some (page_now reading)) op ≡ op
  wanted_is op =
      (λ i. if closed i then read_selection BankAndPage else selecting_first BankAndPage op (missing_page reading.selection (Some (page_now reading))))
      ∙ ap (λ (missing : Option ℕ). selecting_first BankAndPage op missing) there

  not_due : (due : Bool) (asked op : Op) → IsReplyTo (after_pause due reading.request.pause asked) reply → asked ≡ op → Answers op reply
  not_due true asked op replies is = absurd replies
  not_due false asked op replies is = subst (λ (o : Op). Answers o reply) is replies

  by_next : (next : Next VdmEnd) → IsReplyTo (turn_by reading next) reply → IsReplyTo next reply
  by_next (Do op) replies = not_due reading.due (wanted BankAndPage reading.selection (Some (page_now reading)) op) op replies (wanted_is op)
  by_next (Wait time) replies = replies
  by_next (End end) replies = replies

  pub replies_to_work : IsReplyTo (wants reading) reply → IsReplyTo (work_at reading reading.stage) reply
  replies_to_work replies = by_next (work_at reading reading.stage) replies
