-- Pieces that are put into a buffer, one after another.
use Rattle.std.proofs.Common.{◌≡◌, ℕ, ◌+◌, ◌-◌, ◌≤◌, List, [], ◌++◌, length, take, drop, refl, sym, ap, ◌∙◌, append_assoc, append-nil, arith, le-ltb}
use Rattle.std.proofs.Math.Seq.{drop-append_seam, take-append_seam}
use Rattle.std.proofs.lemmas.List.{drop-drop, length-append, length-take-le, take-append-drop, take-append-le, take-take}
use Rattle.lane_planner.specs.Buffers.{Puts, buffer_with}

pub piece_put : (piece before after : List ℕ) (n end : ℕ) → end ≡ n + length piece → length after ≡ length before → (end ≤ length before → after ≡ take n before ++ (piece ++ drop end before)) → Puts piece before n after end
piece_put piece before after n end is size put =
    let front = take n before ++ piece in
    let rest = drop end before in
    let len : end ≤ length before → length front ≡ end = λ fits. omega (arith, length-append (take n before) piece, length-take-le n before (omega (arith, is, fits)), is) in
    let whole : end ≤ length before → after ≡ front ++ rest = λ fits. put fits ∙ sym (append_assoc (take n before) piece rest) in
    record {
      counted = is;
      size = size;
      put = λ fits. ap (take end) (whole fits) ∙ rw (len fits) at (take-append_seam front rest);
      left = λ fits. ap (drop end) (whole fits) ∙ rw (len fits) at (drop-append_seam front rest);
    }

pub nothing_put : (before : List ℕ) (n : ℕ) → Puts [] before n before n
nothing_put before n = record { counted = omega arith; size = refl; put = λ _. sym (append-nil (take n before)); left = λ _. refl }

pub both_put : {piece other before middle after : List ℕ} {n m k : ℕ} → Puts piece before n middle m → Puts other middle m after k → Puts (piece ++ other) before n after k
both_put {piece} {other} {before} {middle} {after} {n} {m} {k} first second =
    let further : m + (k - m) ≡ k = omega (arith, second.counted) in
    let past = λ (buffer : List ℕ). rw further at (drop-drop (k - m) m buffer) in
    record {
      counted = omega (arith, first.counted, second.counted, length-append piece other);
      size = second.size ∙ first.size;
      put = λ fits. second.put (omega (arith, fits, first.size)) ∙ ap (λ (l : List ℕ). l ++ other) (first.put (omega (arith, fits, second.counted))) ∙ append_assoc (take n before) piece other;
      left = λ fits. second.left (omega (arith, fits, first.size)) ∙ sym (past middle) ∙ ap (drop (k - m)) (first.left (omega (arith, fits, second.counted))) ∙ past before;
    }

-- ---- a text at the front of a buffer

pub put_whole : {text before after : List ℕ} {len : ℕ} → Puts text before 0 after len → length text ≤ length before → after ≡ buffer_with before text
put_whole {text} {before} {after} {len} puts fits =
    let same : len ≡ length text = omega (arith, puts.counted) in
    let parts : take len after ++ drop len after ≡ text ++ drop len before = (λ i. puts.put (omega (arith, same, fits)) i ++ puts.left (omega (arith, same, fits)) i) in
    rw (le-ltb (length before) (length text) fits) (sym (take-append-drop (length text) after) ∙ rw same at parts)

-- what is left of a buffer, and of what lies after it, that is cut off after the text
pub cut_off : {text before after : List ℕ} {len : ℕ} (rest : List ℕ) (room : ℕ) → Puts text before 0 after len → len ≤ length before → len ≤ room → take len (take room (after ++ rest)) ≡ text
cut_off {text} {before} {after} {len} rest room puts fits within = take-take len room (after ++ rest) within ∙ take-append-le len after rest (omega (arith, fits, puts.size)) ∙ puts.put fits
