use Rattle.firmware_api.proofs.ShortNames.{of_codes, of_media_codes}
use Rattle.firmware_api.proofs.ShortTexts.{of_procedure_faults, of_reasons, of_statuses}
use Rattle.firmware_api.proofs.laws.each_text_has_room_in_256_bytes.Goals as goal

pub returns : goal.returns
returns c = record {
  statuses = of_statuses;
  procedure_faults = of_procedure_faults;
  reasons = of_reasons;
  names = of_codes;
  media = of_media_codes;
  version = λ same. cc;
}
