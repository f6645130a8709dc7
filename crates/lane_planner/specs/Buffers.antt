-- A text that is put into a buffer, one piece after another, if the buffer has room for it. (docs/firmware.md, "Certificates";
-- this project's own)
use Rattle.std.specs.Prelude.{◌≡◌, ℕ, ◌+◌, ◌≤◌, nat_lt, if◌then◌else◌, List, ◌++◌, length, drop, take}

-- the buffer afterwards: the text, and the bytes after it as they were; all of them are if there is no room
abbrev pub buffer_with : List ℕ → List ℕ → List ℕ
buffer_with buffer text = if nat_lt (length buffer) (length text) then buffer else text ++ drop (length text) buffer

-- a piece came after so many bytes, and then there were so many; of a buffer without room for them only the size is said
pub record Puts (piece before : List ℕ) (from : ℕ) (after : List ℕ) (upto : ℕ) : Type 0 where
  pub counted : upto ≡ from + length piece
  pub size : length after ≡ length before
  pub put : upto ≤ length before → take upto after ≡ take from before ++ piece
  pub left : upto ≤ length before → drop upto after ≡ drop upto before
