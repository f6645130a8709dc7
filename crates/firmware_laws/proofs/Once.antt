-- A Start and a Run are sent once at most.
use Rattle.std.proofs.Common.{◌≡◌, ℕ, ◌-◌, [], ◌∷◌, sym, subst, inl, inr, ◌∙◌}
use Rattle.firmware_update.specs.declared.command.Command.{Command}
use Rattle.firmware_update.specs.declared.command.Command.TheVariants.{Features, Info, Start, Block, Complete, Abort, Run, Commit}
use Rattle.firmware_update.specs.declared.exchange.Exchange.{Exchange}
use Rattle.firmware_update.specs.Exchanges.{History, Newest, Stands, Succeeds}
use Rattle.firmware_update.specs.Safety.{IsQuery, IsSafe, IsStart, MaySend, OnlyQueries, Received}

no_start : (command : Command) → IsQuery command → IsStart command → ⊥
no_start Features asks starts = starts
no_start Info asks starts = starts
no_start (Start header) asks starts = asks
no_start (Block header address) asks starts = asks
no_start Complete asks starts = asks
no_start Abort asks starts = asks
no_start Run asks starts = asks
no_start Commit asks starts = asks

pub queries_start : (h : History) → OnlyQueries h → Stands (λ x. IsStart x.command) h → ⊥
queries_start [] only stands_in = stands_in
queries_start (x ∷ before) only (inl is) = no_start x.command only.0 is
queries_start (x ∷ before) only (inr stands_in) = queries_start before only.1 stands_in

queries_run : (h : History) → OnlyQueries h → Stands (λ x. x.command ≡ Run) h → ⊥
queries_run [] only stands_in = stands_in
queries_run (x ∷ before) only (inl is) = subst IsQuery is only.0
queries_run (x ∷ before) only (inr stands_in) = queries_run before only.1 stands_in

no_run : (x : Exchange) (command : Command) → x.command ≡ command → (Run ≡ command → ⊥) → x.command ≡ Run → ⊥
no_run x command is other runs_it = other (sym runs_it ∙ is)

received_run : (size header address : ℕ) (h : History) → IsSafe size h → Received size header address h → Stands (λ x. x.command ≡ Run) h → ⊥
received_run size header address [] safe got stands_in = stands_in
received_run size header address (x ∷ before) safe (inl (missed, got)) (inl is) = no_run x (Block header address) missed.0 (λ e. absurd cc) is
received_run size header address (x ∷ before) safe (inl (missed, got)) (inr stands_in) = received_run size header address before safe.1 got stands_in
received_run size header address (x ∷ before) safe (inr (inl (none, began))) (inl is) = no_run x (Start header) began.1 (λ e. absurd cc) is
received_run size header address (x ∷ before) safe (inr (inl (none, began))) (inr stands_in) =
    let may = subst (λ (c : Command). MaySend size c before) began.1 safe.0 in queries_run before may.0 stands_in
received_run size header address (x ∷ before) safe (inr (inr (below, same, taken, got))) (inl is) = no_run x (Block header below) taken.1 (λ e. absurd cc) is
received_run size header address (x ∷ before) safe (inr (inr (below, same, taken, got))) (inr stands_in) = received_run size header below before safe.1 got stands_in

pub once : (size : ℕ) (h : History) → IsSafe size h → Newest (Succeeds Complete) h → Stands (λ x. x.command ≡ Run) h → ⊥
once size [] safe newest stands_in = newest
once size (x ∷ before) safe (reply, is, was, any) (inl runs_it) = no_run x Complete is (λ e. absurd cc) runs_it
once size (x ∷ before) safe (reply, is, was, any) (inr stands_in) =
    let may = subst (λ (c : Command). MaySend size c before) is safe.0 in received_run size may.0 (size - may.0) before safe.1 may.2 stands_in
