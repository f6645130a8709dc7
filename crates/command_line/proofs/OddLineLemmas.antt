-- Which line of weights is odd: where a byte cuts a line, and what a reader knows of the lines so far.
use Rattle.std.proofs.Common.{◌≡◌, ◌∙◌, ℕ, ◌+◌, Bool, true, false, cond, not, if◌then◌else◌, List, [], ◌∷◌, length, Option, Some, None, unwrap_or, arith, ap, refl, sym, inl, inr}
use Rattle.std.proofs.lemmas.Bool.{cases_lt, lt-ltb, le-ltb}
use Rattle.std.proofs.lemmas.List.{get_or-replicate}
use Rattle.std.proofs.lemmas.List.Sums.{prefix_len-le-length}
use Rattle.std.proofs.Math.ListN.{length-replicate, replicate}
use Rattle.std.specs.List.{position, position_or_len}
use Rattle.command_line.specs.OddLines.{Keeps, is_odd, kind_after, odd_line, odd_line_after}
use Rattle.command_line.specs.declared.remark.weights_lines.Kind.{Kind}
use Rattle.command_line.specs.declared.remark.weights_lines.SoFar.{SoFar}

-- what a search finds is the place, or the length
pub place_is : (p : ℕ → Bool) (xs : List ℕ) → unwrap_or (position p xs) (length xs) ≡ position_or_len p xs
place_is p xs =
    let place = position_or_len p xs in
    elim (cases_lt place (length xs)) [
      | inl within ↦ ap (λ b. unwrap_or (cond b (Some place) None) (length xs)) (lt-ltb _ _ within)
      | inr past ↦
          ap (λ b. unwrap_or (cond b (Some place) None) (length xs)) (le-ltb _ _ past) ∙ omega (arith, past, prefix_len-le-length (λ x. not (p x)) xs)
    ]

pub keeps_none : (so_far : SoFar) → so_far.table ≡ None → so_far.has_stay ≡ false → so_far.has_host ≡ false → so_far.has_media ≡ false → so_far.has_app ≡ false → so_far.listed ≡ replicate 256 false → Keeps [] so_far
keeps_none so_far table stay host media app listed = record {
  table = table;
  stay = stay;
  host = host;
  media = media;
  app = app;
  listed = λ id below. rw listed (get_or-replicate 256 id false false below);
  room = rw listed (length-replicate {A = Bool} 256 false);
}

-- these lines are read, and these are left
pub record ReadTo (lines left : List (List ℕ)) (so_far : SoFar) (number : ℕ) : Type 0 where
  pub before : List Kind
  pub keeps : Keeps before so_far
  pub counted : number ≡ length before
  pub same : odd_line lines ≡ odd_line_after before left

pub read_none : (lines : List (List ℕ)) (so_far : SoFar) → Keeps [] so_far → ReadTo lines lines so_far 0
read_none lines so_far keeps = record { before = []; keeps = keeps; counted = refl; same = refl }

module _ (lines left : List (List ℕ)) (line : List ℕ) (so_far : SoFar) (number : ℕ) (read : ReadTo lines (line ∷ left) so_far number) where
  -- by whether the first of those left is odd
  abbrev by : Bool → Option ℕ
  by odd = if odd then Some (length read.before + 1) else odd_line_after (kind_after read.before line ∷ read.before) left

  pub read_more : (new : SoFar) → is_odd read.before (kind_after read.before line) ≡ false → Keeps (kind_after read.before line ∷ read.before) new → ReadTo lines left new (number + 1)
  read_more new usual keeps = record {
    before = kind_after read.before line ∷ read.before;
    keeps = keeps;
    counted = let counted = read.counted in omega arith;
    same = read.same ∙ ap by usual;
  }

  pub read_odd : is_odd read.before (kind_after read.before line) ≡ true → Some (number + 1) ≡ odd_line lines
  read_odd odd = ap (λ (n : ℕ). Some (n + 1)) read.counted ∙ sym (read.same ∙ ap by odd)

pub read_all : (lines : List (List ℕ)) (so_far : SoFar) (number : ℕ) → ReadTo lines [] so_far number → None ≡ odd_line lines
read_all lines so_far number read = sym read.same
