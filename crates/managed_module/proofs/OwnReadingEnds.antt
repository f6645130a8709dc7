-- The reading of a module with pages over a bus that refuses nothing isn't given up, and ends with an image of the module.
use Rattle.paged_memory.specs.Families.{managed_by}
use Rattle.bus_model.specs.declared.operation.Op.TheVariants.{Fetch, Store}
use Rattle.bus_model.specs.ScriptedBus.{passed_on, ticked_times}
use Rattle.port_manager.proofs.PatientLaws.{paged_never, kept_within}
use Rattle.port_manager.proofs.TurnCases.{halves_never}
use Rattle.port_manager.proofs.PageProgress.{gained, some_left}
use Rattle.sim_module.specs.declared.fixed.Fixed.{Fixed}
use Rattle.sim_module.proofs.UnchangingParts.{events_leave_fixed}
use Rattle.managed_module.proofs.PlanPhases.{fixed_passed}
use Rattle.managed_module.proofs.JobSteps.{steady_harmless}
use Rattle.managed_module.proofs.OwnLanes.{HasLanes}
use Rattle.managed_module.proofs.OwnPatience.{ends_in_time, time_advanced}
use Rattle.managed_module.proofs.OwnReading.{IsOwnReading, left_to_read}
use Rattle.managed_module.proofs.OwnReplies.{IsKept, harmless, kept}
use Rattle.std.proofs.Common.{◌≡◌, suc, zero, ℕ, ◌+◌, ◌*◌, ◌-◌, ◌≤◌, Bool, Option, Some, None, refl, sym, ap, subst, ◌∙◌, arith}
use Rattle.bus_model.specs.declared.operation.Op.{Op}
use Rattle.bus_model.specs.declared.operation.Reply.{Reply}
use Rattle.bus_model.specs.Operations.{Answers}
use Rattle.conversations.specs.declared.next.Next.{Next}
use Rattle.conversations.specs.declared.next.Next.TheVariants.{Do, Wait, End}
use Rattle.conversations.specs.declared.on_page.OnPage.{OnPage}
use Rattle.conversations.specs.declared.pausing.Timed.{Timed}
use Rattle.conversations.specs.declared.pausing.Timed.TheVariants.{InTime}
use Rattle.conversations.specs.declared.within.Spent.{Spent}
use Rattle.conversations.specs.Selecting.{chosen, next_on}
use Rattle.conversations.specs.Wanted.{op_of}
use Rattle.conversations.proofs.OnPageLaws.{asks}
use Rattle.paged_memory.specs.declared.page_addressing.KnownPage.{KnownPage}
use Rattle.paged_memory.specs.declared.page_addressing.PageAddressing.{PageAddressing}
use Rattle.paged_memory.specs.Images.{Memory}
use Rattle.module_reading.specs.declared.halves.Halves.{Halves}
use Rattle.module_reading.specs.declared.region.Region.{Region}
use Rattle.module_reading.specs.ImageReading as reader
use Rattle.module_reading.specs.Regions as regions
use Rattle.port_manager.specs.Jobs.{paged_halves, reading_after, reading_wants}
use Rattle.port_manager.specs.Patients.{Patient, after_on, wants_on}
use Rattle.port_manager.proofs.LeftLaws.{halves_counted, left_of_halves}
use Rattle.sim_module.specs.declared.module.SimModule.{SimModule}
use Rattle.sim_module.specs.Modules.{conduct}
use Rattle.managed_module.specs.Managed.{HasHalves, IsCmisFamily}
use Rattle.managed_module.specs.Succeeds.{AreWhole}
use Rattle.managed_module.proofs.OwnAdverts.{IsPaged}
use Rattle.managed_module.proofs.OwnHalves.{IsOwn, all_settled, hand_is, is_cmis}
use Rattle.managed_module.proofs.OwnTasks.{module_after, reply_of}
use Rattle.managed_module.proofs.Waits.{reading_linked, reading_nearer}

-- the memory of a module stays
pub image_kept : (op : Op) (sim : SimModule) → (module_after sim op).image ≡ sim.image
image_kept (Fetch dev offset count) sim = ap (λ (fixed : Fixed). fixed.image) (events_leave_fixed.tick (passed_on conduct (Fetch dev offset count) sim).1 ∙ events_leave_fixed.fetch sim dev offset count)
image_kept (Store dev offset bytes) sim = ap (λ (fixed : Fixed). fixed.image) (events_leave_fixed.tick (passed_on conduct (Store dev offset bytes) sim).1 ∙ events_leave_fixed.store sim dev offset bytes.items)

pub image_paused : (count : ℕ) (sim : SimModule) → (ticked_times conduct count sim).image ≡ sim.image
image_paused zero sim = refl
image_paused (suc count) sim = ap (λ (fixed : Fixed). fixed.image) (events_leave_fixed.tick (ticked_times conduct count sim)) ∙ image_paused count sim

-- what it goes by stays too
pub advert_kept : (op : Op) (sim : SimModule) → (module_after sim op).advert ≡ sim.advert
advert_kept op sim = ap (λ (fixed : Fixed). fixed.advert) (events_leave_fixed.tick (passed_on conduct op sim).1 ∙ fixed_passed op sim)

pub advert_paused : (count : ℕ) (sim : SimModule) → (ticked_times conduct count sim).advert ≡ sim.advert
advert_paused zero sim = refl
advert_paused (suc count) sim = ap (λ (fixed : Fixed). fixed.advert) (events_leave_fixed.tick (ticked_times conduct count sim)) ∙ advert_paused count sim

module _ (most : ℕ) (sim : SimModule) (has : HasHalves sim) (whole : AreWhole sim.image) (paged : IsPaged sim.image) (woken : Bool) (job : Patient (OnPage Halves)) (r : IsOwnReading most woken job sim)
    (op : Op) (reply : Reply) (asked : op_of (reading_wants job) ≡ Some op) (answers : Answers op reply) (gives : reply ≡ reply_of sim op) where
  abbrev on : OnPage Halves
  on = job.conversation.conversation

  abbrev halves : Halves
  halves = on.conversation

  abbrev after : SimModule
  after = module_after sim op

  abbrev next : Patient (OnPage Halves)
  next = reading_after job reply

  cmis : IsCmisFamily (managed_by (regions.identifier halves.image))
  cmis = is_cmis sim.image halves paged r.own

  abbrev Kept : OnPage Halves → Type 0
  Kept on = IsKept most sim has whole paged woken job r op reply asked answers gives on.conversation on.selection

  is_kept : Kept (after_on paged_halves on reply)
  is_kept = kept most sim has whole paged woken job r op reply asked answers gives

  image_is : after.image ≡ sim.image
  image_is = image_kept op sim

  pub nearer : left_to_read next + 1 ≤ left_to_read job
  nearer = omega (arith, reading_nearer sim has job op reply asked answers gives cmis r.link)

  pub goes_on : IsOwnReading most woken next after
  goes_on =
      let is : Kept next.conversation.conversation = kept_within Kept (wants_on paged_halves) (after_on paged_halves) job reply is_kept in record {
        steady = steady_harmless most sim op (harmless most sim has whole paged woken job r op reply asked answers gives) r.steady;
        own = subst (λ (own : Memory). IsOwn own next.conversation.conversation.conversation) (sym image_is) is.own;
        known = is.known;
        link = reading_linked sim has job op reply asked answers gives cmis r.link;
        tells = is.tells;
        time = time_advanced (wants_on paged_halves) (after_on paged_halves) (left_to_read job) (left_to_read next) job reply nearer r.time;
      }

  -- ---- it ends

  on_end : (addressing : PageAddressing) (selected : KnownPage) (page : Option ℕ) (wanted : Next (Unit {0})) (end : Unit {0}) → next_on addressing selected page wanted ≡ End end → wanted ≡ End end
  on_end addressing selected page (Do op) end e = absurd cc
  on_end addressing selected page (Wait time) end e = absurd cc
  on_end addressing selected page (End other) end e = e

  none_wanted : (found : Option Region) (end : Unit {0}) → reader.wants_by found ≡ End end → found ≡ None
  none_wanted None end e = refl
  none_wanted (Some region) end e = absurd cc

  some_more : (op : Op) → wants_on paged_halves (after_on paged_halves on reply) ≡ Do op → 1 ≤ left_to_read next
  some_more op e =
      let on_after = after_on paged_halves on reply in
      let b = asks (chosen (paged_halves.addressing on_after.conversation)) on_after.selection (paged_halves.page on_after.conversation) (paged_halves.wants on_after.conversation) op e in
      let some = some_left paged_halves left_of_halves halves_counted on_after b.inner op b.wants b.is in
      kept_within (λ (on : OnPage Halves). 1 ≤ 3 * left_of_halves on.conversation - gained on.selection (paged_halves.page on.conversation)) (wants_on paged_halves) (after_on paged_halves) job reply some

  pub ends : (spent : Spent (Timed (Unit {0}))) → reading_wants next ≡ End spent → (spent.end ≡ Some (InTime tt)) × (5 ≤ next.conversation.conversation.conversation.settled) × HasLanes next.conversation.conversation.conversation.image sim
  ends spent e =
      let (end, in_time, own) = ends_in_time (wants_on paged_halves) (after_on paged_halves) (left_to_read job) (left_to_read next) job reply spent nearer r.time some_more (paged_never paged_halves halves_never) e in
      let on_after = after_on paged_halves on reply in
      let none : reader.in_hand on_after.conversation ≡ None =
      none_wanted (reader.in_hand on_after.conversation) end (on_end (chosen (paged_halves.addressing on_after.conversation)) on_after.selection (paged_halves.page on_after.conversation) (reader.wants on_after.conversation) end own) in
      let all : 5 ≤ on_after.conversation.settled = all_settled on_after.conversation.settled (sym (hand_is sim.image on_after.conversation paged is_kept.own) ∙ none) in (
        in_time,
        kept_within (λ (on : OnPage Halves). 5 ≤ on.conversation.settled) (wants_on paged_halves) (after_on paged_halves) job reply all,
        kept_within (λ (on : OnPage Halves). HasLanes on.conversation.image sim) (wants_on paged_halves) (after_on paged_halves) job reply (is_kept.lanes all),
      )
