use Rattle.paged_memory.proofs.PageLines.{bank_word}
use Rattle.paged_memory.proofs.page_line.read_upper.Goals as goal

pub returns-in_default-read_hex_byte : goal.returns-in_default-read_hex_byte
returns-in_default-read_hex_byte c = λ key fits is. c.in_default-read_hex_byte.ensures key.bank fits.bank (bank_word key _ _ _ _ is)
