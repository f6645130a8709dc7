use Rattle.firmware_api.specs.KeptPorts.{count_of}
use Rattle.firmware_api.proofs.KeptLaws.{Fits, few_halves, fits_after, keeps, room_for}
use Rattle.firmware_api.proofs.port.kept.take.Goals as goal

pub half_by-half-requires-clause-few : goal.half_by-half-requires-clause-few
half_by-half-requires-clause-few c = few_halves c.args.held.now.stage c.args.kept.now.numbers.half_count c.args.kept.now.halves c.requires.fits.0 c.requires.fits.1

pub returns : goal.returns
returns c = (
  c.take_known-led.result,
  c.take_known-led.ensures.exact,
  c.outcome_of.ensures,
  λ kept.
      let before = c.args.held.now.stage in
      let reply = c.args.reply.now in
      let o = c.args.held.now.outstanding in
      let old = c.args.kept.now in
      let new = c.put_half.new.kept in
      let count = old.numbers.half_count in
      let number = new.numbers.half_count in
      let later = c.take_known-led.new.port in
      let fits : Fits before count old.halves = record { few = c.requires.fits.0; read = c.requires.fits.1; counted = kept.counted } in
      let by = c.half_by-half.ensures.half in
      let room = room_for before reply c.half_by-half.result count old.halves fits o by c.half_by-half.ensures.room in
      let front = c.put_half.ensures.front room in
      keeps c.put.new.kept later (count_of later number) new.halves
      (fits_after before reply c.half_by-half.result count number old.halves new.halves fits room front o later.stage by c.take_known-led.ensures.reading)
      (c.take_known-led.ensures.known kept.known) c.put.ensures.count c.put.ensures.same c.put.ensures.shown,
)
