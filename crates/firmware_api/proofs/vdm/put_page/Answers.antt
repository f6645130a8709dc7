use Rattle.std.proofs.Common.{◌∙◌}
use Rattle.firmware_api.proofs.VdmLaws.{put_at, put_by, same_half}
use Rattle.firmware_api.proofs.vdm.put_page.Goals as goal

pub returns-in-Some-Bytes-clause-halves : goal.returns-in-Some-Bytes-clause-halves
returns-in-Some-Bytes-clause-halves c =
    put_at c.args.page c.args.reply.now c.args.halves.now c.put_in_front.new.halves c.half_at.result c.in-Some-Bytes.page c.in-Some-Bytes.bytes
    c.in-Some-Bytes.is-0 c.in-Some-Bytes.is-1
    (c.half_at.ensures.value ∙ same_half c.of_page.ensures c.deref.ensures.0) c.put_in_front.ensures

pub returns-in-Some-Bytes-clause-memory : goal.returns-in-Some-Bytes-clause-memory
returns-in-Some-Bytes-clause-memory c =
    put_by c.args.page c.args.reply.now c.args.halves.now c.put_in_front.new.halves c.half_at.result c.in-Some-Bytes.page c.in-Some-Bytes.bytes
    c.in-Some-Bytes.is-0 c.in-Some-Bytes.is-1
    (c.half_at.ensures.key ∙ c.of_page.ensures) (c.half_at.ensures.bytes ∙ c.deref.ensures.0) c.put_in_front.ensures
