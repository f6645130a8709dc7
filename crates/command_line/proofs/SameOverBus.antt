-- A report over a bus is the one without, where what is read over it has the reports of the image.
use Rattle.std.proofs.Common.{◌≡◌, ◌≢◌, ◌∙◌, ℕ, Bool, true, false, List, [], ◌∷◌, Option, Some, None, Result, Ok, Err, refl, sym, ap, arith}
use Rattle.std.specs.Prelude.{MatchOption}
use Rattle.text_lines.specs.Lines.{lines_of}
use Rattle.bus_model.specs.ScriptedBus.{script_rules}
use Rattle.paged_memory.specs.Images.{Memory}
use Rattle.paged_memory.specs.ImageFaults.{IsAnswer}
use Rattle.paged_memory.specs.ImageText.{IsImage, IsTextOf}
use Rattle.paged_memory.specs.declared.fault.ImageFault.{ImageFault}
use Rattle.paged_memory.specs.Windows.{window_conduct}
use Rattle.paged_memory.proofs.OneAnswer.{same_answer}
use Rattle.reports.proofs.FetchFaults.{fetching_gives_up}
use Rattle.reports.proofs.FetchedReports.{fetched_reports}
use Rattle.reports.specs.SameReports.{IsSame, ReportsSame}
use Rattle.reports.specs.declared.fault.ReportFault.{ReportFault}
use Rattle.reports.specs.declared.fault.ReportFault.TheVariants as report
use Rattle.report_entries.specs.Entries.{Entry}
use Rattle.command_line.specs.Coloring.{shown_as}
use Rattle.command_line.specs.OverBus.{IsFetchedFrom, IsReading, window_at_start}
use Rattle.command_line.specs.ReportCommands.{IsReported, Reported, answer_of_reported, entries_of, printed, printed_of, refusal_of, report_of, text_unless}
use Rattle.command_line.specs.Runs.{Answer, IsAnswerTo}
use Rattle.command_line.specs.SameOverBus.{IsGivenUp, IsReportedAlike, image_of, over_bus}
use Rattle.command_line.specs.declared.choice.commands.CommandName.TheVariants.{Report}
use Rattle.command_line.specs.declared.choice.commands.ReportName.{ReportName}
use Rattle.command_line.specs.declared.choice.commands.ReportName.TheVariants.{Inventory, Apps, Monitors, Flags}
use Rattle.command_line.specs.declared.choice.options.Options.{Options}
use Rattle.command_line.specs.declared.choice.part.Part.TheVariants.{Image}
use Rattle.command_line.specs.declared.fault.Fault.{Fault}
use Rattle.command_line.specs.declared.fault.Fault.TheVariants as fault
use Rattle.command_line.proofs.OwnAnswers.{cut_fault, judged}

-- the bus has room for all readings, so they have one fault
fetching_fault : (memory : Memory) (f : ReportFault) → IsFetchedFrom memory (Err f) → f ≡ report.GaveUp
fetching_fault memory f (after, is) = fetching_gives_up (script_rules window_conduct) (window_at_start memory) (omega arith) after f is

same_reports : (memory fetched : Memory) → IsImage memory → IsFetchedFrom memory (Ok fetched) → ReportsSame fetched memory
same_reports memory fetched image (after, is) = fetched_reports (window_at_start memory) after memory fetched image refl is

-- ---- a command that reads an image alone, by how it is read over a bus, and what is told of what there is to report of, with the flag and without it

module _ (IsRead : Memory → Result Memory ReportFault → Type 0) (reported : Bool → Result Memory ReportFault → Reported) where
  abbrev IsMine : Bool → List ℕ → Answer → Type 0
  IsMine over = IsReported IsRead over (reported over)

  abbrev pub IsAnswerOver : Bool → List ℕ → Answer → Type 0
  IsAnswerOver over = IsAnswerTo (Image ∷ []) (λ inputs. IsMine over inputs.image)

  -- ---- without the flag a text has one answer, by what reading it answers

  abbrev reported_by : Result Memory ImageFault → Answer
  reported_by (Ok memory) = answer_of_reported (reported false (Ok memory))
  reported_by (Err f) = Err (fault.Image f)

  record IsReportedRead (text : List ℕ) (answer : Answer) : Type 0 where
    pub read : Result Memory ImageFault
    pub is_read : IsAnswer (lines_of text) read
    pub is_reported : answer ≡ reported_by read

  is_reported : (text : List ℕ) (a : Answer) → IsMine false text a → IsReportedRead text a
  is_reported text (Err (fault.Image f)) first = record { read = Err f; is_read = first; is_reported = refl }
  is_reported text a (Ok memory, is, same) = record { read = Ok memory; is_read = is; is_reported = same }
  is_reported text a (Err f, never, same) = absurd never

  agree : (o : Option Fault) (text : List ℕ) (a b : Answer) → MatchOption o (IsMine false text a) (λ f. a ≡ Err f) → MatchOption o (IsMine false text b) (λ f. b ≡ Err f) → a ≡ b
  agree None text a b p q =
      let first = is_reported text a p in
      let other = is_reported text b q in
      first.is_reported ∙ ap reported_by (same_answer (lines_of text) first.read other.read first.is_read other.is_read) ∙ sym other.is_reported
  agree (Some f) text a b p q = p ∙ sym q

  pub alone : (input : List ℕ) (a other : Answer) → IsAnswerOver false input a → a ≢ Err fault.Memory → a ≢ Err fault.Io
      → IsAnswerOver false input other → other ≢ Err fault.Memory → other ≢ Err fault.Io → other ≡ a
  alone input a other is memory read is_too memory_too read_too =
      let by = judged (Image ∷ []) (λ inputs. IsMine false inputs.image) input in
      agree (cut_fault (Image ∷ []) input) (image_of input) other a (by other is_too memory_too read_too) (by a is memory read)

  -- a fault that is answered with it is answered without it
  pub err_to : (input : List ℕ) (f : Fault) → (IsMine true (image_of input) (Err f) → IsMine false (image_of input) (Err f))
      → IsAnswerOver true input (Err f) → IsAnswerOver false input (Err f)
  err_to input fault.Memory mine is = tt
  err_to input fault.Io mine is = tt
  err_to input fault.TooLong mine is = is
  err_to input (fault.Parts n) mine is = is
  err_to input f mine is = (is.0, is.1, mine is.2)

  -- ---- with it, it is reported of what was read, unless the reading came to no end

  pub record IsReportedOfCopy (text : List ℕ) (answer : Answer) : Type 0 where
    pub memory : Memory
    pub copy : Memory
    pub is_text : IsTextOf (lines_of text) memory
    pub is_read : IsRead memory (Ok copy)
    pub is_reported : answer ≡ answer_of_reported (reported true (Ok copy))

  pub reported_of_copy : ((memory : Memory) (f : ReportFault) → IsRead memory (Err f) → f ≡ report.GaveUp)
      → (text : List ℕ) (a : Answer) (read : Result Memory ReportFault) → IsReading IsRead true text read → a ≡ answer_of_reported (reported true read)
      → IsGivenUp (answer_of_reported (reported true (Err report.GaveUp))) → ¬ (IsGivenUp a) → IsReportedOfCopy text a
  reported_of_copy one_fault text a (Ok copy) is same gives_up ended = record {
    memory = is.memory;
    copy = copy;
    is_text = is.is_text;
    is_read = is.read;
    is_reported = same;
  }
  reported_of_copy one_fault text a (Err f) is same gives_up ended =
      let gave_up : f ≡ report.GaveUp = one_fault is.memory f is.read in
      absurd (ended (rw (same, gave_up) gives_up))

-- what is reported by a fault, or else by what is said, is reported alike of memories with the same report
pub same_reported : {A T : Type 0} (tell : Option ReportFault → A → T) → ((f : ReportFault) (x y : A) → tell (Some f) x ≡ tell (Some f) y)
    → (fault_in : Memory → Option ReportFault) (content_in : Memory → A) (a b : Memory) → IsSame fault_in content_in a b → tell (fault_in a) (content_in a) ≡ tell (fault_in b) (content_in b)
same_reported tell alone fault_in content_in a b same = by (fault_in a) (fault_in b) same.fault same.content
  where
    by : (o p : Option ReportFault) → o ≡ p → (o ≡ None → content_in a ≡ content_in b) → tell o (content_in a) ≡ tell p (content_in b)
    by None p fault content = ap (tell None) (content refl) ∙ ap (λ (q : Option ReportFault). tell q (content_in b)) fault
    by (Some f) p fault content = alone f (content_in a) (content_in b) ∙ ap (λ (q : Option ReportFault). tell q (content_in b)) fault

-- ---- reports

module _ (name : ReportName) (options : Options) (pick : (fetched memory : Memory) → ReportsSame fetched memory → IsSame (refusal_of name) (entries_of name) fetched memory) where
  abbrev reported_of : Bool → Result Memory ReportFault → Reported
  reported_of over = report_of (record options { bus = over }) (refusal_of name) (printed_of name)

  plain : (text : List ℕ) (a : Answer) → IsReported IsFetchedFrom true (reported_of true) text a → ¬ (IsGivenUp a) → IsReported IsFetchedFrom false (reported_of false) text a
  plain text (Err (fault.Image f)) first ended = first
  plain text a (read, is, same) ended =
      let copy = reported_of_copy IsFetchedFrom reported_of fetching_fault text a read is same refl ended in
      let reports = same_reports copy.memory copy.copy copy.is_text.image copy.is_read in
      let tell : Option ReportFault → List Entry → Reported = λ refused entries. text_unless refused (shown_as options.coloring options.json (printed options.json entries)) in
      let alike = same_reported tell (λ f x y. refl) (refusal_of name) (entries_of name) copy.copy copy.memory (pick copy.copy copy.memory reports) in
      (Ok copy.memory, copy.is_text, copy.is_reported ∙ ap answer_of_reported alike)

  plain_to : (input : List ℕ) (a : Answer) → IsAnswerOver IsFetchedFrom reported_of true input a → ¬ (IsGivenUp a) → IsAnswerOver IsFetchedFrom reported_of false input a
  plain_to input (Ok t) is ended = (is.0, is.1, plain (image_of input) (Ok t) is.2 ended)
  plain_to input (Err f) is ended = err_to IsFetchedFrom reported_of input f (λ mine. plain (image_of input) (Err f) mine ended) is

  reported_alike : IsReportedAlike (over_bus (Report name) options)
  reported_alike input a is ended memory read =
      let plain = plain_to input a is ended in record { plain = plain; alone = λ other. alone IsFetchedFrom reported_of input a other plain memory read }

pub each_reported_alike : (name : ReportName) (options : Options) → IsReportedAlike (over_bus (Report name) options)
each_reported_alike Inventory options = reported_alike Inventory options (λ fetched memory all. all.inventory)
each_reported_alike Apps options = reported_alike Apps options (λ fetched memory all. all.apps)
each_reported_alike Monitors options = reported_alike Monitors options (λ fetched memory all. all.monitors)
each_reported_alike Flags options = reported_alike Flags options (λ fetched memory all. all.flags)
