use Rattle.std.proofs.Common.{◌≡◌, Some, None, slice_index_or, sym, ◌∙◌}
use Rattle.paged_memory.proofs.entries.put_entry.Goals as goal

pub returns-in-Ok-clause-full : goal.returns-in-Ok-clause-full
returns-in-Ok-clause-full g c = (λ e. absurd cc, λ full. let held = c.in-Ok.ensures.found (c.args.key, c.args.page) in let lost : Some (slice_index_or c.args.entries.now.items c.in-Ok.place (c.args.key, c.args.page)).1 ≡ None = sym (rw c.deref.ensures.0 at held) ∙ full.1 in absurd cc)
