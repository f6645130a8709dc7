use Rattle.explicit_provisioning.proofs.ExplicitSuccess.{answered_read, explicit_read, paused_read, watched_read}
use Rattle.explicit_provisioning.proofs.laws.a_success_with_settings_was_read.Goals as goal

pub returns-clause-read : goal.returns-clause-read
returns-clause-read c change control lanes events end eight none ends = explicit_read change control lanes eight events end none ends

pub returns-clause-patiently : goal.returns-clause-patiently
returns-clause-patiently c patience change control lanes events end eight none ends = paused_read change control lanes eight patience events end none ends

pub returns-clause-answered : goal.returns-clause-answered
returns-clause-answered c patience change control lanes events spent steps eight ends answer = answered_read change control lanes eight patience events spent steps ends answer

pub returns-clause-watched : goal.returns-clause-watched
returns-clause-watched c patience change control lanes events end steps eight ends answer = watched_read change control lanes eight patience events end steps ends answer
