-- Losses of power and resets, one after another, are one loss or one reset, or nothing.
use Rattle.std.proofs.Common.{◌≡◌, ℕ, List, [], ◌∷◌, Option, Some, None, sym, subst, inl, inr, ◌∙◌}
use Rattle.command_block.specs.declared.outcome.Outcome.{Outcome}
use Rattle.firmware_update.specs.declared.bank.Bank.{Bank}
use Rattle.firmware_update.specs.Exchanges.{History}
use Rattle.firmware_laws.specs.Modules.{Answer, ComesTo, Conduct, CutsShort, Endures, Firmware, KeepsBanks, KeepsDownload, Loses, Passes}
use Rattle.firmware_laws.proofs.PowerLoss.{kept_image}

keeps_trans : (one two three : Firmware) → KeepsBanks one two → KeepsBanks two three → KeepsBanks one three
keeps_trans one two three first second = (second.0 ∙ first.0, second.1 ∙ first.1)

keeps_back : (one two : Firmware) → KeepsBanks one two → KeepsBanks two one
keeps_back one two keeps = (sym keeps.0, sym keeps.1)

download_trans : (one two three : Firmware) → KeepsDownload one two → KeepsDownload two three → KeepsDownload one three
download_trans one two three (inl gone) (inl none) = inl none
download_trans one two three (inl gone) (inr same) = inl (same ∙ gone)
download_trans one two three (inr as_it_was) (inl none) = inl none
download_trans one two three (inr as_it_was) (inr same) = inr (same ∙ as_it_was)

-- a loss after what kept the banks
lost_later : (one two three : Firmware) → KeepsBanks one two → KeepsDownload one two → Loses two three → Loses one three
lost_later one two three keeps opened (later, boots, opened_later, quiet) = (
  keeps_trans one two three keeps later,
  λ has. kept_image two one three.running (keeps_back one two keeps) (boots (has.0, kept_image one two has.0 keeps has.1)),
  download_trans one two three opened opened_later,
  quiet,
)

pub lost_first : (one two three : Firmware) → Loses one two → Endures two three → Loses one three
lost_first one two three loses (inl same) = subst (λ (f : Firmware). Loses one f) (sym same) loses
lost_first one two three loses (inr (inl later)) = lost_later one two three loses.0 loses.2 later
lost_first one two three loses (inr (inr (bank, was, keeps, well, runs_it, opened, quiet))) = absurd (let e : ◌≡◌ {A = Option Bank} None (Some bank) = sym loses.3 ∙ was in cc)

cut_on : (one two three : Firmware) → CutsShort one two → Endures two three → CutsShort one three
cut_on one two three (inl loses) later = inl (lost_first one two three loses later)
cut_on one two three (inr resets) (inl same) = subst (λ (f : Firmware). CutsShort one f) (sym same) (inr resets)
cut_on one two three (inr (bank, was, keeps, well, runs_it, opened, quiet)) (inr (inl loses)) = inl (lost_later one two three keeps opened loses)
cut_on one two three (inr (bank, was, keeps, well, runs_it, opened, quiet)) (inr (inr (other, again, keeps_later, well_later, runs_later, opened_later, quiet_later))) = absurd (let e : ◌≡◌ {A = Option Bank} None (Some other) = sym quiet ∙ again in cc)

pub endures_on : (one two three : Firmware) → Endures one two → Endures two three → Endures one three
endures_on one two three (inl same) later = subst (λ (f : Firmware). Endures f three) same later
endures_on one two three (inr short) later = inr (cut_on one two three short later)

passes_on : (answer : Answer) (outcome : Outcome) (two three : Firmware) → Passes answer outcome two → Endures two three → Passes answer outcome three
passes_on answer outcome two three (inl (e, endures)) later = inl (e, endures_on answer.after two three endures later)
passes_on answer outcome two three (inr (e, unknown, short)) later = inr (e, unknown, cut_on answer.after two three short later)

-- and so after a history
pub comes_on : (conduct : Conduct) (file : List ℕ) (first two three : Firmware) (history : History) → ComesTo conduct file first history two → Endures two three → ComesTo conduct file first history three
comes_on conduct file first two three [] endures later = endures_on first two three endures later
comes_on conduct file first two three (x ∷ before) (earlier, choice, comes, passes) later = (earlier, choice, comes, passes_on _ x.outcome two three passes later)
