-- A conversation that looks at the module's state: what is wanted, and what its events show.
use Rattle.std.proofs.Common.{◌≡◌, ◌||◌, ℕ, Bool, true, false, not, [], ◌∷◌, Option, Some, None, refl, ap, subst, sym, ◌∙◌, inl, inr, if◌then◌else◌}
use Rattle.bus_model.specs.declared.operation.Op.{Op}
use Rattle.bus_model.specs.declared.operation.Op.TheVariants.{Fetch, Store}
use Rattle.bus_model.specs.declared.operation.Reply.{Reply}
use Rattle.bus_model.specs.declared.operation.Reply.TheVariants.{Bytes, Done, Refused}
use Rattle.bus_model.specs.declared.operation.Step.{Step}
use Rattle.conversations.specs.declared.event.Event.TheVariants.{Asked, Lacked, Made, Waited}
use Rattle.conversations.specs.declared.next.Next.{Next}
use Rattle.conversations.specs.declared.next.Next.TheVariants.{Do, Wait, End}
use Rattle.conversations.specs.Events.{Events, steps_of}
use Rattle.conversations.specs.Pauses.{AreSpaced, is_fruitless, is_refused, must_wait, was_refused}
use Rattle.conversations.specs.declared.watching.Look.{Look}
use Rattle.conversations.specs.declared.watching.Look.TheVariants.{Seen, Due, Left}
use Rattle.conversations.specs.declared.watching.Watched.{Watched}
use Rattle.conversations.specs.declared.watching.Watched.TheVariants as watched
use Rattle.conversations.specs.declared.watching.Watching.{Watching}
use Rattle.conversations.specs.Watching.{AddsLooks, EachLooks, IsLooked, ShowsLeft, after_watching, is_look, is_looking, look_after_wait, look_at, look_by, looked, may_go, next_at, next_watching, read_state, shown, was_wait}
use Rattle.module_states.specs.declared.state.ModuleState.{ModuleState}
use Rattle.module_states.specs.declared.state.ModuleState.TheVariants.{Ready}
use Rattle.module_states.specs.Codes.{state_at}

-- ---- what is wanted

not_true : (b : Bool) → not b ≡ true → b ≡ false
not_true true e = sym e
not_true false e = refl

not_false : (b : Bool) → not b ≡ false → b ≡ true
not_false true e = refl
not_false false e = sym e

-- a look comes before an operation that is none
pub looking_at : {E : Type 0} (look : Look) (wanted : Next E) → is_looking look wanted ≡ true → (op : Op) × (look ≡ Due) × (wanted ≡ Do op) × (is_look op ≡ false)
looking_at Due (Do op) e = (op, refl, refl, not_true (is_look op) e)
looking_at Due (Wait time) e = absurd cc
looking_at Due (End end) e = absurd cc
looking_at Seen wanted e = absurd cc
looking_at (Left code) wanted e = absurd cc

looks_by : {E : Type 0} (is : Bool) (other op : Op) → is ≡ false → ◌≡◌ {A = Next (Watched E)} (if is then Do other else Do read_state) (Do op) → op ≡ read_state
looks_by true other op e asks = absurd cc
looks_by false other op e asks = cc

pub looking_op : {E : Type 0} (look : Look) (wanted : Next E) (op : Op) → is_looking look wanted ≡ true → next_watching look wanted ≡ Do op → op ≡ read_state
looking_op Due (Do other) op e asks = looks_by (is_look other) other op (not_true (is_look other) e) asks
looking_op Due (Wait time) op e asks = absurd cc
looking_op Due (End end) op e asks = absurd cc
looking_op Seen wanted op e asks = absurd cc
looking_op (Left code) wanted op e asks = absurd cc

own_by : {E : Type 0} (is : Bool) (other op : Op) → is ≡ true → ◌≡◌ {A = Next (Watched E)} (if is then Do other else Do read_state) (Do op) → other ≡ op
own_by true other op e asks = cc
own_by false other op e asks = absurd cc

-- without one, the operation is the conversation's own
pub own_op : {E : Type 0} (look : Look) (wanted : Next E) (op : Op) → is_looking look wanted ≡ false → next_watching look wanted ≡ Do op → (wanted ≡ Do op) × (may_go look op ≡ true)
own_op Due (Do other) op e asks =
    let is = not_false (is_look other) e in
    let same = own_by (is_look other) other op is asks in
    (ap (λ (o : Op). Do o) same, ap is_look (sym same) ∙ is)
own_op Seen (Do other) op e asks = (cc, refl)
own_op (Left code) (Do other) op e asks = absurd cc
own_op look (Wait time) op e asks = absurd cc
own_op look (End end) op e asks = absurd cc

waits_by : {E : Type 0} (is : Bool) (op : Op) (time : ℕ) → ◌≡◌ {A = Next (Watched E)} (if is then Do op else Do read_state) (Wait time) → ⊥
waits_by true op time asks = cc
waits_by false op time asks = cc

-- so is each wait
pub own_wait : {E : Type 0} (look : Look) (wanted : Next E) (time : ℕ) → next_watching look wanted ≡ Wait time → wanted ≡ Wait time
own_wait Due (Do op) time asks = absurd (waits_by (is_look op) op time asks)
own_wait Seen (Do op) time asks = absurd cc
own_wait (Left code) (Do op) time asks = absurd cc
own_wait look (Wait other) time asks = cc
own_wait look (End end) time asks = absurd cc

-- ---- a wait comes between each fruitless transaction and the next one

shown_answered : (code : ℕ) (reply : Reply) → shown reply ≡ Some code → is_refused reply ≡ false
shown_answered code (Bytes bytes) e = refl
shown_answered code Done e = refl
shown_answered code Refused e = absurd cc

-- after an answered look, another operation needs no wait
none_after_look : (step : Step) (op : Op) → step.op ≡ read_state → is_refused step.reply ≡ false → is_look op ≡ false → is_fruitless step.op step.reply (Some op) ≡ false
none_after_look step op is answered other =
    ap (λ (o : Op). is_fruitless o step.reply (Some op)) is ∙ ap (λ (r : Bool). r || is_fruitless read_state Done (Some op)) answered ∙ by op other
  where
    by : (op : Op) → is_look op ≡ false → is_fruitless read_state Done (Some op) ≡ false
    by (Fetch dev offset count) other = ap (λ (b : Bool). b || false) other
    by (Store dev offset bytes) other = refl

same_some : (op other : Op) → Some op ≡ Some other → op ≡ other
same_some op other e = cc

looked_due : (found : Option ℕ) (step : Step) (other op : Op) (earlier own : Events) (look : Look) → shown step.reply ≡ found → step.op ≡ read_state → is_look other ≡ false →
    IsLooked found other earlier own look (Some op) → must_wait op own ≡ false → is_fruitless step.op step.reply (Some op) ≡ false
looked_due (Some code) step other op earlier own look e is apart (same, at, wants) none =
    none_after_look step op is (shown_answered code step.reply e) (subst (λ (o : Op). is_look o ≡ false) (sym (same_some op other wants)) apart)
looked_due None step other op earlier own look e is apart (same, seen) none = absurd (let h : must_wait op own ≡ true = ap (must_wait op) same in cc)

looked_refused : (found : Option ℕ) (step : Step) (other : Op) (earlier own : Events) (look : Look) (wanted : Option Op) → shown step.reply ≡ found →
    IsLooked found other earlier own look wanted → was_refused own ≡ false → is_refused step.reply ≡ false
looked_refused (Some code) step other earlier own look wanted e at none = shown_answered code step.reply e
looked_refused None step other earlier own look wanted e (same, seen) none = absurd (let h : was_refused own ≡ true = ap was_refused same in cc)

not_refused : (watches : Bool) (own events : Events) (look : Look) (wanted : Option Op) → AddsLooks watches own events look wanted → was_refused own ≡ false → was_refused events ≡ false
not_refused watches own [] look wanted adds none = refl
not_refused watches own (Made step ∷ before) look wanted (inl (earlier, was, is, adds, may, seen)) none = sym (ap was_refused is) ∙ none
not_refused watches own (Made step ∷ before) look wanted (inr (op, earlier, is, apart, adds, at)) none = looked_refused (shown step.reply) step op earlier own look wanted refl at none
not_refused watches own (Waited time ∷ before) look wanted adds none = refl
not_refused watches own (Lacked page ∷ before) look wanted adds none = absurd adds
not_refused watches own (Asked number ∷ before) look wanted (earlier, asked, is, adds) none = not_refused watches earlier before look asked adds (sym (ap was_refused is) ∙ none)

none_due : (watches : Bool) (own events : Events) (look : Look) (op : Op) → AddsLooks watches own events look (Some op) → must_wait op own ≡ false → must_wait op events ≡ false
none_due watches own [] look op adds none = refl
none_due watches own (Made step ∷ before) look op (inl (earlier, was, is, adds, may, seen)) none = sym (ap (must_wait op) is) ∙ none
none_due watches own (Made step ∷ before) look op (inr (other, earlier, is, apart, adds, at)) none = looked_due (shown step.reply) step other op earlier own look refl is apart at none
none_due watches own (Waited time ∷ before) look op adds none = refl
none_due watches own (Lacked page ∷ before) look op adds none = absurd adds
none_due watches own (Asked number ∷ before) look op (earlier, asked, is, adds) none = not_refused watches earlier before look asked adds (sym (ap (must_wait op) is) ∙ none)

-- where a look is due, a wait was the newest but for what the caller said
never_due : (code : ℕ) (state : Option ModuleState) → Due ≡ look_by code state → ⊥
never_due code (Some Ready) e = cc
never_due code _ e = cc

looked_then : (found : Option ℕ) (op : Op) (earlier own : Events) (wanted : Option Op) → IsLooked found op earlier own Due wanted → ⊥
looked_then (Some code) op earlier own wanted (same, at, wants) = never_due code (state_at code) at
looked_then None op earlier own wanted (same, seen) = cc

due_unrefused : (watches : Bool) (own events : Events) (wanted : Option Op) → AddsLooks watches own events Due wanted → was_refused events ≡ false
due_unrefused watches own [] wanted (none, seen) = refl
due_unrefused watches own (Made step ∷ before) wanted (inl (earlier, was, is, adds, may, seen)) = absurd cc
due_unrefused watches own (Made step ∷ before) wanted (inr (op, earlier, is, apart, adds, at)) = absurd (looked_then (shown step.reply) op earlier own wanted at)
due_unrefused watches own (Waited time ∷ before) wanted adds = refl
due_unrefused watches own (Lacked page ∷ before) wanted adds = absurd adds
due_unrefused watches own (Asked number ∷ before) wanted (earlier, asked, is, adds) = due_unrefused watches earlier before asked adds

due_waited : (watches : Bool) (own events : Events) (wanted : Option Op) (op : Op) → AddsLooks watches own events Due wanted → must_wait op events ≡ false
due_waited watches own [] wanted op (none, seen) = refl
due_waited watches own (Made step ∷ before) wanted op (inl (earlier, was, is, adds, may, seen)) = absurd cc
due_waited watches own (Made step ∷ before) wanted op (inr (other, earlier, is, apart, adds, at)) = absurd (looked_then (shown step.reply) other earlier own wanted at)
due_waited watches own (Waited time ∷ before) wanted op adds = refl
due_waited watches own (Lacked page ∷ before) wanted op adds = absurd adds
due_waited watches own (Asked number ∷ before) wanted op (earlier, asked, is, adds) = due_unrefused watches earlier before asked adds

earlier_spaced : (found : Option ℕ) (pause : ℕ) (op : Op) (earlier own : Events) (look : Look) (wanted : Option Op) → IsLooked found op earlier own look wanted → AreSpaced pause own → AreSpaced pause earlier
earlier_spaced (Some code) pause op earlier own look wanted (same, at, wants) spaced = subst (AreSpaced pause) same spaced
earlier_spaced None pause op earlier own look wanted (same, seen) spaced = (subst (AreSpaced pause) same spaced).1

pub looks_spaced : (watches : Bool) (pause : ℕ) (own events : Events) (look : Look) (wanted : Option Op) → AddsLooks watches own events look wanted → AreSpaced pause own → AreSpaced pause events
looks_spaced watches pause own [] look wanted adds spaced = tt
looks_spaced watches pause own (Made step ∷ before) look wanted (inl (earlier, was, is, adds, may, seen)) spaced =
    let at = subst (AreSpaced pause) is spaced in
    (none_due watches earlier before was step.op adds at.0, looks_spaced watches pause earlier before was (Some step.op) adds at.1)
looks_spaced watches pause own (Made step ∷ before) look wanted (inr (op, earlier, is, apart, adds, at)) spaced = (
  due_waited watches earlier before (Some op) step.op adds,
  looks_spaced watches pause earlier before Due (Some op) adds (earlier_spaced (shown step.reply) pause op earlier own look wanted at spaced),
)
looks_spaced watches pause own (Waited time ∷ before) look wanted (earlier, was, is, adds, next) spaced =
    let at = subst (AreSpaced pause) is spaced in
    (at.0, looks_spaced watches pause earlier before was None adds at.1)
looks_spaced watches pause own (Lacked page ∷ before) look wanted adds spaced = absurd adds
looks_spaced watches pause own (Asked number ∷ before) look wanted (earlier, asked, is, adds) spaced = looks_spaced watches pause earlier before look asked adds (subst (AreSpaced pause) is spaced)

-- ---- the first transaction after a wait reads the state

after_wait_none : (was : Look) → Seen ≡ look_after_wait true was → ⊥
after_wait_none Seen e = cc
after_wait_none Due e = cc
after_wait_none (Left code) e = cc

none_waited : (own events : Events) (wanted : Option Op) → AddsLooks true own events Seen wanted → was_wait events ≡ false
none_waited own [] wanted adds = refl
none_waited own (Made step ∷ before) wanted adds = refl
none_waited own (Waited time ∷ before) wanted (earlier, was, is, adds, next) = absurd (after_wait_none was next)
none_waited own (Lacked page ∷ before) wanted adds = absurd adds
none_waited own (Asked number ∷ before) wanted (earlier, asked, is, adds) = none_waited earlier before asked adds

goes_or_looks : (own before : Events) (was : Look) (op : Op) → AddsLooks true own before was (Some op) → may_go was op ≡ true → (is_look op || not (was_wait before)) ≡ true
goes_or_looks own before Due op adds may = ap (λ (b : Bool). b || not (was_wait before)) may
goes_or_looks own before Seen op adds may = by (is_look op) (none_waited own before (Some op) adds)
  where
    by : (is : Bool) → was_wait before ≡ false → (is || not (was_wait before)) ≡ true
    by true e = refl
    by false e = ap not e
goes_or_looks own before (Left code) op adds may = absurd cc

pub each_looks : (own events : Events) (look : Look) (wanted : Option Op) → AddsLooks true own events look wanted → EachLooks events
each_looks own [] look wanted adds = tt
each_looks own (Made step ∷ before) look wanted (inl (earlier, was, is, adds, may, seen)) =
    (goes_or_looks earlier before was step.op adds may, each_looks earlier before was (Some step.op) adds)
each_looks own (Made step ∷ before) look wanted (inr (op, earlier, is, apart, adds, at)) =
    (ap (λ (o : Op). is_look o || not (was_wait before)) is, each_looks earlier before Due (Some op) adds)
each_looks own (Waited time ∷ before) look wanted (earlier, was, is, adds, next) = each_looks earlier before was None adds
each_looks own (Lacked page ∷ before) look wanted adds = absurd adds
each_looks own (Asked number ∷ before) look wanted (earlier, asked, is, adds) = each_looks earlier before look asked adds

-- ---- where the module has left ModuleReady, the newest transaction showed it

left_code : (code other : ℕ) (state : Option ModuleState) → Left code ≡ look_by other state → other ≡ code
left_code code other (Some Ready) e = absurd cc
left_code code other _ e = cc

looked_left : (found : Option ℕ) (code : ℕ) (op : Op) (earlier own : Events) (wanted : Option Op) → IsLooked found op earlier own (Left code) wanted → (found ≡ Some code) × (look_at code ≡ Left code)
looked_left (Some other) code op earlier own wanted (same, at, wants) =
    let is = left_code code other (state_at other) at in
    (ap (λ (c : ℕ). Some c) is, subst (λ (c : ℕ). look_at c ≡ Left code) is (sym at))
looked_left None code op earlier own wanted (same, seen) = absurd cc

still_left : (watches : Bool) (was : Look) (code : ℕ) → Left code ≡ look_after_wait watches was → was ≡ Left code
still_left true Seen code e = absurd cc
still_left false Seen code e = absurd cc
still_left watches Due code e = absurd cc
still_left watches (Left other) code e = sym e

pub shows_left : (watches : Bool) (own events : Events) (code : ℕ) (wanted : Option Op) → AddsLooks watches own events (Left code) wanted → ShowsLeft code events
shows_left watches own [] code wanted (none, seen) = absurd cc
shows_left watches own (Made step ∷ before) code wanted (inl (earlier, was, is, adds, may, seen)) = absurd cc
shows_left watches own (Made step ∷ before) code wanted (inr (op, earlier, is, apart, adds, at)) =
    let (shows, left) = looked_left (shown step.reply) code op earlier own wanted at in
    record { newest = step; before = steps_of before; split = refl; reads = is; shows = shows; left = left }
shows_left watches own (Waited time ∷ before) code wanted (earlier, was, is, adds, next) =
    let at = shows_left watches earlier before code None (subst (λ (l : Look). AddsLooks watches earlier before l None) (still_left watches was code next) adds) in
    record { newest = at.newest; before = at.before; split = at.split; reads = at.reads; shows = at.shows; left = at.left }
shows_left watches own (Lacked page ∷ before) code wanted adds = absurd adds
shows_left watches own (Asked number ∷ before) code wanted (earlier, asked, is, adds) =
    let at = shows_left watches earlier before code asked adds in
    record { newest = at.newest; before = at.before; split = at.split; reads = at.reads; shows = at.shows; left = at.left }

-- ---- and where a look shows that, the conversation ends

abbrev stays : Unit {0} → Reply → Unit {0}
stays conversation reply = conversation

ends_by : (watching : Watching (Unit {0})) (op : Op) (code : ℕ) (found : Option ℕ) → found ≡ Some code → look_at code ≡ Left code → next_at {E = Unit {0}} (looked stays watching found).look op ≡ End (watched.Left code)
ends_by watching op code found is left = rw (is, left) refl

pub ends_left : (watching : Watching (Unit {0})) (op : Op) (reply : Reply) (code : ℕ) → watching.look ≡ Due → is_look op ≡ false → shown reply ≡ Some code → look_at code ≡ Left code →
    next_watching {E = Unit {0}} (after_watching {E = Unit {0}} (λ (c : Unit {0}). Do op) stays watching reply).look (Do op) ≡ End (watched.Left code)
ends_left watching op reply code due other shows left =
    let looking : is_looking {E = Unit {0}} watching.look (Do op) ≡ true = ap (λ (l : Look). is_looking {E = Unit {0}} l (Do op)) due ∙ ap not other in
    ap (λ (b : Bool). next_at {E = Unit {0}} (if b then looked stays watching (shown reply) else record { conversation = watching.conversation; watches = watching.watches; look = Seen }).look op) looking
    ∙ ends_by watching op code (shown reply) shows left
