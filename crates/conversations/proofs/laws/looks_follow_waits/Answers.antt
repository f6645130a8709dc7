use Rattle.conversations.proofs.WatchingLaws.{each_looks, ends_left, looks_spaced, shows_left}
use Rattle.conversations.proofs.laws.looks_follow_waits.Goals as goal

pub returns-clause-looks : goal.returns-clause-looks
returns-clause-looks c own events look wanted adds = each_looks own events look wanted adds

pub returns-clause-left : goal.returns-clause-left
returns-clause-left c watches own events code wanted adds = shows_left watches own events code wanted adds

pub returns-clause-ends : goal.returns-clause-ends
returns-clause-ends c watching op reply code due other shows left = ends_left watching op reply code due other shows left

pub returns-clause-spaced : goal.returns-clause-spaced
returns-clause-spaced c watches pause own events look wanted adds spaced = looks_spaced watches pause own events look wanted adds spaced
