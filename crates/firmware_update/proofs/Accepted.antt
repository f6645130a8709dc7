-- The bytes of the file that a module accepts are, in their order, those of the file; and a Start has room for its own.
use Rattle.std.proofs.Common.{◌≡◌, ℕ, ◌-◌, ◌≤◌, ◌++◌, ◌&&◌, nat_le, nat_lt, List, [], ◌∷◌, length, get_or, take, drop, Some, refl, sym, subst, ap, inl, inr, ◌∙◌, arith, append_assoc, append-nil}
use Rattle.std.proofs.Math.Seq.{take-add}
use Rattle.std.proofs.lemmas.Bool.{and_parts, leb-true}
use Rattle.std.proofs.lemmas.List.{take_all, take-append-drop, drop-drop, length-drop}
use Rattle.command_block.specs.declared.outcome.Outcome.{Outcome}
use Rattle.command_block.specs.declared.outcome.Outcome.TheVariants.{Succeeded, Failed, Unsent, Unknown}
use Rattle.firmware_update.specs.declared.command.Command.{Command}
use Rattle.firmware_update.specs.declared.command.Command.TheVariants.{Features, Info, Start, Block, Complete, Abort, Run, Commit}
use Rattle.firmware_update.specs.declared.exchange.Exchange.{Exchange}
use Rattle.firmware_update.specs.Blocks.{block_length}
use Rattle.firmware_update.specs.Exchanges.{History, IsNoAnswer, Stands, Succeeds}
use Rattle.firmware_update.specs.Payloads.{HasRoom, accepted, block_bytes, file_bytes, if_accepted, message_of}
use Rattle.firmware_update.specs.Replies.{start_size, takes_blocks}
use Rattle.firmware_update.specs.Safety.{IsQuery, IsSafe, MaySend, OnlyQueries, Received, ReportsStartSize}
use Rattle.firmware_update.proofs.Told.{tested}

-- ---- room

pub start_room : (size header : ℕ) (reply : List ℕ) → start_size size reply ≡ Some header → header ≤ 112
start_room size header reply e =
    let got = tested (nat_lt (length reply) 18) (takes_blocks (get_or reply 5 0) && nat_le (get_or reply 2 0) 112 && nat_lt (get_or reply 2 0) size) (get_or reply 2 0) header e in
    let few : get_or reply 2 0 ≤ 112 = leb-true (get_or reply 2 0) 112 (and_parts _ _ (and_parts _ _ got.0).0).1 in
    omega (arith, few, got.1)

told_room : (size header : ℕ) (h : History) → Stands (ReportsStartSize size header) h → header ≤ 112
told_room size header [] tells = absurd tells
told_room size header (x ∷ before) (inl (reply, is, was, says)) = start_room size header reply.items says
told_room size header (x ∷ before) (inr tells) = told_room size header before tells

pub may_room : (size : ℕ) (command : Command) (h : History) → MaySend size command h → HasRoom command
may_room size Features h may = tt
may_room size Info h may = tt
may_room size (Start header) h may = told_room size header h may.1
may_room size (Block header address) h may = tt
may_room size Complete h may = tt
may_room size Abort h may = tt
may_room size Run h may = tt
may_room size Commit h may = tt

-- ---- bytes

module _ (file : List ℕ) where
  abbrev bytes_of : Command → Outcome → List ℕ
  bytes_of command outcome = if_accepted outcome (file_bytes (message_of file command))

  of_query : (command : Command) (outcome : Outcome) → IsQuery command → bytes_of command outcome ≡ []
  of_query Features (Succeeded reply) is = refl
  of_query Features (Failed code) is = refl
  of_query Features Unsent is = refl
  of_query Features Unknown is = refl
  of_query Info (Succeeded reply) is = refl
  of_query Info (Failed code) is = refl
  of_query Info Unsent is = refl
  of_query Info Unknown is = refl
  of_query (Start header) outcome is = absurd is
  of_query (Block header address) outcome is = absurd is
  of_query Complete outcome is = absurd is
  of_query Abort outcome is = absurd is
  of_query Run outcome is = absurd is
  of_query Commit outcome is = absurd is

  of_none : (outcome : Outcome) (bytes : List ℕ) → IsNoAnswer outcome → if_accepted outcome bytes ≡ []
  of_none (Succeeded reply) bytes is = absurd is
  of_none (Failed code) bytes is = absurd is
  of_none Unsent bytes is = refl
  of_none Unknown bytes is = refl

  of_done : (x : Exchange) (command : Command) → Succeeds command x → bytes_of x.command x.outcome ≡ file_bytes (message_of file command)
  of_done x command (reply, is, was, any) =
      ap (λ (o : Outcome). bytes_of x.command o) was ∙ ap (λ (c : Command). file_bytes (message_of file c)) is

  of_queries : (h : History) → OnlyQueries h → accepted file h ≡ []
  of_queries [] only = refl
  of_queries (x ∷ before) only =
      ap (λ (l : List ℕ). accepted file before ++ l) (of_query x.command x.outcome only.0) ∙ (append-nil (accepted file before) ∙ of_queries before only.1)

  pub of_received : (header address : ℕ) (h : History) → IsSafe (length file) h → Received (length file) header address h
      → accepted file h ≡ take header file ++ take address (drop header file)
  of_received header address [] safe got = absurd got
  of_received header address (x ∷ before) safe (inl (missed, got)) =
      ap (λ (l : List ℕ). accepted file before ++ l) (of_none x.outcome (file_bytes (message_of file x.command)) missed.1)
      ∙ (append-nil (accepted file before) ∙ of_received header address before safe.1 got)
  of_received header address (x ∷ before) safe (inr (inl (none, began))) =
      let may = subst (λ (c : Command). MaySend (length file) c before) began.1 safe.0 in
      ap (λ (l : List ℕ). l ++ bytes_of x.command x.outcome) (of_queries before may.0)
      ∙ (of_done x (Start header) began
      ∙ (sym (append-nil (take header file)) ∙ ap (λ (n : ℕ). take header file ++ take n (drop header file)) (sym none)))
  of_received header address (x ∷ before) safe (inr (inr (below, is, taken, got))) =
      ap (λ (l : List ℕ). l ++ bytes_of x.command x.outcome) (of_received header below before safe.1 got)
      ∙ (ap (λ (l : List ℕ). (take header file ++ take below (drop header file)) ++ l) (of_done x (Block header below) taken)
      ∙ (append_assoc (take header file) (take below (drop header file)) (block_bytes file header below)
      ∙ ap (λ (l : List ℕ). take header file ++ l)
      (ap (λ (l : List ℕ). take below (drop header file) ++ take (block_length (length file) header below) l) (sym (drop-drop below header file))
      ∙ (sym (take-add below (block_length (length file) header below) (drop header file))
      ∙ ap (λ (n : ℕ). take n (drop header file)) (sym is)))))

  pub of_all : (h : History) → IsSafe (length file) h → MaySend (length file) Complete h → accepted file h ≡ file
  of_all h safe (header, less, got) =
      of_received header (length file - header) h safe got
      ∙ (ap (λ (l : List ℕ). take header file ++ l) (take_all (length file - header) (drop header file) (omega (arith, length-drop header file)))
      ∙ take-append-drop header file)
