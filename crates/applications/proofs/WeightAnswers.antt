-- What reading a text answers, by what its document has.
use Rattle.std.proofs.Common.{◌≡◌, ℕ, Bool, true, false, List, Option, Some, None, Result, Ok, Err, is_none, IsUtf8, refl, ap, sym, ◌∙◌}
use Rattle.std.proofs.lemmas.Bool.{false_from_ne_true}
use Rattle.std.proofs.lemmas.Str.{IsUtf8-from_is_utf8, is_utf8-from_IsUtf8}
use Rattle.std.specs.Option.{option_or}
use Rattle.std.specs.Str.{is_utf8}
use Rattle.toml.specs.Data.{Members}
use Rattle.toml.specs.Parse.{parse_document}
use Rattle.applications.specs.declared.weights.fault.WeightsFault.{WeightsFault}
use Rattle.applications.specs.declared.weights.fault.WeightsFault.TheVariants.{Memory, NotToml, NoHostTable, OtherKey}
use Rattle.applications.specs.Weights.{ListedWeights}
use Rattle.applications.specs.declared.weights.table.WeightTable.TheVariants.{Host, Media, App}
use Rattle.applications.specs.WeightTables.{document_of, table_in, weights_in}
use Rattle.applications.specs.WeightFaults.{AnswersWith, IsAnswer, fault_in, has_more, weights_fault}

pub fault_no_host : (document : Members) → is_none (table_in Host document) ≡ true → weights_fault (Some document) ≡ Some NoHostTable
unfolding weights_fault
fault_no_host document no_host = rw no_host refl

pub fault_more : (document : Members) → is_none (table_in Host document) ≡ false → has_more document ≡ true → weights_fault (Some document) ≡ Some OtherKey
unfolding weights_fault
fault_more document has_host more = rw (has_host, more) refl

pub fault_tables : (document : Members) → is_none (table_in Host document) ≡ false → has_more document ≡ false
    → weights_fault (Some document) ≡ option_or (fault_in Host (Some document)) (option_or (fault_in Media (Some document)) (fault_in App (Some document)))
unfolding weights_fault
fault_tables document has_host no_more = rw (has_host, no_more) refl

-- ---- the document of a text

pub no_text : (bytes : List ℕ) → ¬ IsUtf8 bytes → is_utf8 bytes ≡ false
no_text bytes bad = false_from_ne_true (is_utf8 bytes) (λ good. bad (IsUtf8-from_is_utf8 bytes good))

pub is_text : (bytes : List ℕ) → IsUtf8 bytes → is_utf8 bytes ≡ true
is_text = is_utf8-from_IsUtf8

pub document_no_utf8 : (text : List ℕ) → ¬ IsUtf8 text → document_of text ≡ None
unfolding document_of
document_no_utf8 text bad = rw (no_text text bad)

pub document_utf8 : (text : List ℕ) → IsUtf8 text → document_of text ≡ parse_document text
unfolding document_of
document_utf8 text good = rw (is_text text good)

pub fault_no_document : weights_fault None ≡ Some NotToml
unfolding weights_fault
fault_no_document = refl

-- what is answered of the document is the answer to its text
pub answered : (text : List ℕ) (document : Members) (result : Result ListedWeights WeightsFault) → document_of text ≡ Some document
    → AnswersWith (weights_fault (Some document)) (weights_in (Some document)) result → IsAnswer text result
answered text document (Ok weights) is answer = (ap weights_fault is ∙ answer.0, answer.1 ∙ ap weights_in (sym is))
answered text document (Err Memory) is answer = absurd cc
answered text document (Err fault) is answer = ap weights_fault is ∙ answer.0
