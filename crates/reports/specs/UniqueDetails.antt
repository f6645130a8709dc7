-- That no key stands twice in what the rows of a module's details say. (docs/formats.md, "details"; this project's own)
use Rattle.std.specs.Prelude.{◌≢◌, ℕ, Bool, List, [], map}
use Rattle.std.specs.List.{AllPairs}
use Rattle.paged_memory.specs.Images.{Memory}
use Rattle.report_entries.specs.Banks.{further_banks}
use Rattle.report_entries.specs.Entries.{Content, Entry, fact}
use Rattle.report_entries.specs.Facts.{key_text}
use Rattle.module_details.specs.CmisDetails as cmis
use Rattle.module_details.specs.Families.{tables_entries}
use Rattle.module_details.specs.QsfpDetails as qsfp
use Rattle.module_details.specs.SfpDetails as sfp

abbrev pub content_key : List ℕ → Content → List ℕ
content_key name (fact place f) = key_text name place
content_key name content = name

-- the name of an entry's line
abbrev pub entry_key : Entry → List ℕ
entry_key e = content_key e.name e.content

abbrev pub HaveUniqueKeys : List Entry → Type 0
HaveUniqueKeys entries = AllPairs (λ (one other : List ℕ). one ≢ other) (map entry_key entries)

pub record DetailsHaveUniqueKeys : Type 0 where
  pub cmis : (memory : Memory) (flat : Bool) → HaveUniqueKeys (tables_entries memory (further_banks flat memory) flat cmis.tables_of_rows)
  pub qsfp : (memory : Memory) (flat : Bool) → HaveUniqueKeys (tables_entries memory [] flat qsfp.tables_of_rows)
  pub sfp : (memory : Memory) (flat : Bool) → HaveUniqueKeys (tables_entries memory [] flat sfp.tables_of_rows)
