use Rattle.std.proofs.Common.{◌≡◌, List, ℕ, ◌≢◌, Option, Some, None, MatchOption, sym, ap, ◌∙◌, rules}
use Rattle.plan_certificate.specs.declared.path.Path.{Path}
use Rattle.plan_certificate.specs.declared.line.Line.{Line}
use Rattle.plan_certificate.specs.declared.line.Line.TheVariants.{KeepLine}
use Rattle.plan_certificate.specs.CertificateText.{line_text, IsLineInRange, IsPathInRange}
use Rattle.plan_certificate.proofs.LineWords.{same_line}
use Rattle.plan_certificate.proofs.kept_text.read_keep.Goals as goal

named : (bytes : List ℕ) (r : Option Line) → MatchOption r ((line : Line) → IsLineInRange line → bytes ≢ line_text line) (λ line. IsLineInRange line × (bytes ≡ line_text line)) → (path : Path) → IsPathInRange path → bytes ≡ line_text (KeepLine path) → r ≡ Some (KeepLine path)
named bytes None h path fits spelled = absurd (h (KeepLine path) fits spelled)
named bytes (Some line) h path fits spelled = ap Some (same_line line (KeepLine path) h.0 fits (sym h.1 ∙ spelled))

pub returns-in_default : goal.returns-in_default
returns-in_default c = λ path fits spelled.
    let same : c.read_line.result ≡ Some (KeepLine path) = named c.args.line.now c.read_line.result c.read_line.ensures path fits spelled in
    search rules
