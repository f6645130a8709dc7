use Rattle.std.proofs.Common.{◌≡◌}
use Rattle.control_sets.proofs.OutcomeIsProvisioning.{ended_is_provisioning, unfinished_is_provisioning}
use Rattle.control_sets.proofs.OutcomeIsActivation.{ended_is_activation, unfinished_is_activation}
use Rattle.control_sets.proofs.PowerLaws.{driven_is}
use Rattle.control_sets.proofs.PowerTold.{power_begun, power_told}
use Rattle.control_sets.proofs.Turns.{begun_at, follows, told_step}
use Rattle.control_sets.proofs.laws.procedures_have_their_outcomes.Goals as goal

pub returns-clause-provisioning : goal.returns-clause-provisioning
returns-clause-provisioning c doubts control lanes made room history answer eight ended = ended_is_provisioning doubts control lanes eight (made ≡ room) history answer ended

pub returns-clause-activation : goal.returns-clause-activation
returns-clause-activation c doubts control lanes made room history answer eight ended = ended_is_activation doubts control lanes eight (made ≡ room) history answer ended

pub returns-clause-begun : goal.returns-clause-begun
returns-clause-begun c work = begun_at work

pub returns-clause-follows : goal.returns-clause-follows
returns-clause-follows c tasks history procedure at = follows tasks history procedure at

pub returns-clause-told : goal.returns-clause-told
returns-clause-told c tasks history old new op reply same takes at = told_step tasks history old new op reply same takes at

pub returns-clause-power_begun : goal.returns-clause-power_begun
returns-clause-power_begun c power = power_begun power

pub returns-clause-power_told : goal.returns-clause-power_told
returns-clause-power_told c history old new op reply same takes at = power_told history old new op reply same takes at

pub returns-clause-power : goal.returns-clause-power
returns-clause-power c change made room history spent at asks = driven_is change (made ≡ room) history spent at asks

pub returns-clause-unfinished_provisioning : goal.returns-clause-unfinished_provisioning
returns-clause-unfinished_provisioning c doubts control lanes history eight at = unfinished_is_provisioning doubts control lanes eight history at

pub returns-clause-unfinished_activation : goal.returns-clause-unfinished_activation
returns-clause-unfinished_activation c doubts control lanes history eight at = unfinished_is_activation doubts control lanes eight history at
