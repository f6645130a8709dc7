use Rattle.module_reading.proofs.PatientTold.{patient_outcome}
use Rattle.module_reading.proofs.laws.patient_readings_have_their_outcomes.Goals as goal

pub returns : goal.returns
returns c events reading told limit = patient_outcome events reading _ told.0 told.1 told.2 limit
