-- What holds while a module with pages is read: what was read is its own, and tells whether it is awake.
use Rattle.std.proofs.Common.{◌≡◌, ℕ, suc, zero, ◌≤◌, Bool, true, refl, sym, subst}
use Rattle.bus_model.specs.ScriptedBus.{ticked_times}
use Rattle.conversations.specs.declared.on_page.OnPage.{OnPage}
use Rattle.field_tables.specs.declared.field.Field.TheVariants as fields
use Rattle.field_tables.specs.declared.table.cmis.CmisField.TheVariants as cmis
use Rattle.field_tables.specs.Readings.{number}
use Rattle.paged_memory.specs.Images.{Memory}
use Rattle.module_reading.specs.declared.halves.Halves.{Halves}
use Rattle.port_manager.specs.Jobs.{paged_halves}
use Rattle.port_manager.specs.Patients.{Patient}
use Rattle.port_manager.proofs.LeftLaws.{halves_counted, left_of_halves}
use Rattle.port_manager.proofs.PageProgress.{left_of}
use Rattle.sim_module.specs.declared.module.SimModule.{SimModule}
use Rattle.sim_module.specs.Modules.{conduct}
use Rattle.sim_module.specs.Ticks.{ticked}
use Rattle.managed_module.specs.Bounds.{IsSteady}
use Rattle.managed_module.proofs.Halves.{selected_ticked}
use Rattle.managed_module.proofs.Links.{Link}
use Rattle.managed_module.proofs.OwnHalves.{IsOwn}
use Rattle.managed_module.proofs.OwnPatience.{HasTime}
use Rattle.managed_module.proofs.Procedures.{IsAwake, awake_tick}
use Rattle.managed_module.proofs.ProcedureSteps.{KnownBy, known_tick}
use Rattle.managed_module.proofs.SteadyModules.{steady_tick}

-- a module whose state was read as ready is awake; after waking up it is, and was read as ready
pub record TellsState (woken : Bool) (halves : Halves) (sim : SimModule) : Type 0 where
  pub ready : 1 ≤ halves.settled → number halves.image (fields.Cmis cmis.ModuleState) ≡ 3 → IsAwake sim
  pub awake : woken ≡ true → IsAwake sim
  pub read : woken ≡ true → 1 ≤ halves.settled → number halves.image (fields.Cmis cmis.ModuleState) ≡ 3

abbrev pub left_to_read : Patient (OnPage Halves) → ℕ
left_to_read job = left_of paged_halves left_of_halves halves_counted job

pub record IsOwnReading (most : ℕ) (woken : Bool) (job : Patient (OnPage Halves)) (sim : SimModule) : Type 0 where
  pub steady : IsSteady most sim
  pub own : IsOwn sim.image job.conversation.conversation.conversation
  pub known : KnownBy job.conversation.conversation.selection sim
  pub link : Link paged_halves job.conversation.conversation sim
  pub tells : TellsState woken job.conversation.conversation.conversation sim
  pub time : HasTime (left_to_read job) job

-- ---- while ticks come

ticked_image : (sim : SimModule) → (ticked sim).image ≡ sim.image
unfolding ticked
ticked_image sim = refl

tells_tick : (most : ℕ) (woken : Bool) (halves : Halves) (sim : SimModule) → TellsState woken halves sim → TellsState woken halves (ticked sim)
tells_tick most woken halves sim tells = record {
  ready = λ one is. awake_tick most sim (tells.ready one is);
  awake = λ is. awake_tick most sim (tells.awake is);
  read = tells.read;
}

reading_tick : (most : ℕ) (woken : Bool) (job : Patient (OnPage Halves)) (sim : SimModule) → IsOwnReading most woken job sim → IsOwnReading most woken job (ticked sim)
reading_tick most woken job sim r = record {
  steady = steady_tick most sim r.steady;
  own = subst (λ (own : Memory). IsOwn own job.conversation.conversation.conversation) (sym (ticked_image sim)) r.own;
  known = known_tick job.conversation.conversation.selection sim r.known;
  link = λ opened. (let linked = r.link opened in record { page = linked.page; needs = linked.needs; selected = selected_ticked sim linked.page linked.selected; taken = linked.taken });
  tells = tells_tick most woken job.conversation.conversation.conversation sim r.tells;
  time = r.time;
}

pub reading_paused : (most : ℕ) (woken : Bool) (job : Patient (OnPage Halves)) (count : ℕ) (sim : SimModule) → IsOwnReading most woken job sim → IsOwnReading most woken job (ticked_times conduct count sim)
reading_paused most woken job zero sim r = r
reading_paused most woken job (suc count) sim r = reading_tick most woken job (ticked_times conduct count sim) (reading_paused most woken job count sim r)
