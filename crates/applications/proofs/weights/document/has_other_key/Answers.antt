use Rattle.std.proofs.Common.{◌≡◌, not, List, length, rules, ap, ◌∙◌, sym, String, Global, string_bytes}
use Rattle.std.proofs.lemmas.Iterator.Consumers.{YieldsList-from_shown}
use Rattle.std.proofs.lemmas.Iterator.Search.{any_from_yields_List}
use Rattle.std.specs.List.{list_any}
use Rattle.std.specs.Map.Iter.{TakesFirst, deref}
use Rattle.applications.specs.WeightFaults.{is_known}
use Rattle.applications.proofs.DocumentKeys.{other_key_view}
use Rattle.applications.proofs.weights.document.has_other_key.Goals as goal

pub returns : goal.returns
returns c =
    let among : c.any.result ≡ list_any (λ (key : String Global). not (is_known (string_bytes key))) c.keys.result =
    any_from_yields_List (λ (key : String Global). not (is_known (string_bytes key))) _ _ _ c.any.ensures.ran
    (YieldsList-from_shown (TakesFirst deref) deref (λ (left : List (String Global)). left) (λ s t ended. ap length ended.0) (λ s x t more. more) c.keys.result)
    (λ x b q k. search rules) in
    among ∙ ap (list_any (λ (key : String Global). not (is_known (string_bytes key)))) c.keys.ensures.rest ∙ sym (other_key_view c.args.document.now.entries)
