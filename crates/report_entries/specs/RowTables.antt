-- The rows of the code's tables, from its constants, which have their texts and lists as the code has them. (This project's
-- own.)
use Rattle.std.specs.Prelude.{ℕ, List, map}
use Rattle.std.specs.Borrow.{Bor}
use Rattle.report_entries.specs.declared.row.Instead as rust_instead
use Rattle.report_entries.specs.declared.row.Instead.TheVariants as instead
use Rattle.report_entries.specs.declared.row.Row as rust_row
use Rattle.report_entries.specs.declared.row.Source as rust_source
use Rattle.report_entries.specs.declared.row.Source.TheVariants as source
use Rattle.report_entries.specs.Rows.{Row, Source, Instead, Word, Either, Code, Revision, Next, Text, Oui, Right, Amount, Length, Lanes, Limits, State, LaneStates, Nothing, Wording}

-- given what the code's texts are
abbrev pub source_of : {T : Type 0} → (T → List ℕ) → rust_source.Source T → Source
source_of text (source.Word w) = Word (text w)
source_of text (source.Either field one other) = Either field (text one) (text other)
source_of text (source.Code field) = Code field
source_of text (source.Revision field) = Revision field
source_of text (source.Next field) = Next field
source_of text (source.Text field) = Text field
source_of text (source.Oui field) = Oui field
source_of text (source.Right sum) = Right sum
source_of text (source.Amount field) = Amount field
source_of text (source.Length base power) = Length base power
source_of text (source.Lanes field power) = Lanes field power
source_of text (source.Limits field power) = Limits field power
source_of text (source.State field) = State field
source_of text (source.LaneStates paths statuses) = LaneStates paths statuses

abbrev pub case_of : {T : Type 0} → (T → List ℕ) → rust_instead.Instead T → Instead
case_of text (instead.Nothing field n) = Nothing field n
case_of text (instead.Word field n w) = Wording field n (text w)

-- given also what the code's lists are
abbrev pub line_of : {T I : Type 0} → (T → List ℕ) → (I → List (rust_instead.Instead T)) → rust_row.Row T I → Row
line_of text cases row = record {
  name = text row.name;
  source = source_of text row.source;
  paged = row.paged;
  instead = map (case_of text) (cases row.instead);
}

-- ---- rows that the code passes on

abbrev pub Str : Type 0
Str = Bor (List ℕ)

abbrev pub Cases : Type 0
Cases = Bor (List (rust_instead.Instead Str))

abbrev pub source_in : rust_source.Source Str → Source
source_in s = source_of (λ (t : Str). t.now) s

abbrev pub case_in : rust_instead.Instead Str → Instead
case_in case = case_of (λ (t : Str). t.now) case

abbrev pub cases_in : List (rust_instead.Instead Str) → List Instead
cases_in cases = map case_in cases

abbrev pub row_in : rust_row.Row Str Cases → Row
row_in row = line_of (λ (t : Str). t.now) (λ (i : Cases). i.now) row

abbrev pub rows_in : List (rust_row.Row Str Cases) → List Row
rows_in rows = map row_in rows
