-- The entries of a report: names, each with its content. Its text and its JSON both follow from this. (docs/formats.md, "Reports";
-- this project's own)
use Rattle.std.specs.Prelude.{ℕ, Bool, ℤ, List, map, Vec}
use Rattle.std.specs.declared.alloc.Global.{Global}
use Rattle.field_tables.specs.declared.readings.PerLimit.{PerLimit}
use Rattle.field_tables.specs.LaneSets.{Lanes}
use Rattle.applications.specs.declared.app.App.{App}
use Rattle.report_entries.specs.declared.entry.Entry as rust
use Rattle.report_entries.specs.declared.entry.LaneState.{LaneState}
use Rattle.report_entries.specs.declared.entry.Content as rust_content
use Rattle.report_entries.specs.declared.entry.Content.TheVariants as content
use Rattle.report_entries.specs.declared.fact.Place.{Place}
use Rattle.report_entries.specs.declared.flag.Flag.{Flag}
use Rattle.report_entries.specs.declared.printed_unit.PrintedUnit.{PrintedUnit}
use Rattle.report_entries.specs.Facts.{Fact, fact_of}

pub data Content : Type 0 where
  -- a word of the report's own
  word : List ℕ → Content
  -- whether a sum is right
  right : Bool → Content
  number : ℕ → Content
  -- a byte that is a code of the standard
  code : ℕ → Content
  revision : ℕ → Content
  -- the bytes of a text field
  text : List ℕ → Content
  oui : List ℕ → Content
  -- thousandths of a unit
  amount : ℤ → PrintedUnit → Content
  -- the same of each lane, lane 1 first
  lanes : List ℤ → PrintedUnit → Content
  -- and of each limit
  limits : PerLimit ℤ → PrintedUnit → Content
  -- the state of the module, by its code
  state : ℕ → Content
  -- of each lane, lane 1 first
  lane_states : List LaneState → Content
  -- those that are raised
  flags : List Flag → Content
  -- by rising number
  apps : List App → Content
  lane_set : Lanes → Content
  -- a fact about the module, a lane or an Application
  fact : Place → Fact → Content

pub record Entry : Type 0 where
  pub name : List ℕ
  pub content : Content

unfoldable pub entry : List ℕ → Content → Entry
entry name content = record { name = name; content = content }

-- ---- those of the code

abbrev pub content_of : rust_content.Content → Content
content_of (content.Word w) = word w.now
content_of (content.Right is_right) = right is_right
content_of (content.Number n) = number n
content_of (content.Code byte) = code byte
content_of (content.Revision byte) = revision byte
content_of (content.Text bytes) = text bytes.items
content_of (content.Oui bytes) = oui bytes
content_of (content.Amount millis unit) = amount millis unit
content_of (content.Lanes millis unit) = lanes millis.items unit
content_of (content.Limits millis unit) = limits millis unit
content_of (content.State n) = state n
content_of (content.LaneStates states) = lane_states states.items
content_of (content.Flags raised) = flags raised.items
content_of (content.Apps listed) = apps listed.items
content_of (content.LaneSet set) = lane_set set
content_of (content.Fact place f) = fact place (fact_of f)

abbrev pub entry_of : rust.Entry → Entry
entry_of e = record { name = e.name.now; content = content_of e.content }

-- the entries of a list
unfoldable pub as_entries : Vec rust.Entry Global → List Entry
as_entries entries = map entry_of entries.items
