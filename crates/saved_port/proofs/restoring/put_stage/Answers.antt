use Rattle.saved_port.proofs.restoring.put_stage.Goals as goal

pub returns-in_default-clause-read : goal.returns-in_default-clause-read
returns-in_default-clause-read c there = c.put_job.ensures.read there c.args.image
