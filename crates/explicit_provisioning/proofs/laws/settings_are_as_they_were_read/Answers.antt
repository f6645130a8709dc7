use Rattle.explicit_provisioning.proofs.SettingsSound.{comparing_found, staging_found}
use Rattle.explicit_provisioning.proofs.laws.settings_are_as_they_were_read.Goals as goal

pub returns-clause-staged : goal.returns-clause-staged
returns-clause-staged c change events fault ended = staging_found change events fault ended.each ended.ends

pub returns-clause-active : goal.returns-clause-active
returns-clause-active c change events fault ended = comparing_found change events fault ended.each ended.ends
