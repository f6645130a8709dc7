use Rattle.std.proofs.Common.{◌≡◌, ◌+◌, ◌∷◌, ◌++◌, [], length, sym, ap, subst, ◌∙◌, inl, inr, rules}
use Rattle.paged_memory.specs.declared.fault.ImageFault.TheVariants.{BadLine, OutOfOrder}
use Rattle.paged_memory.specs.TextVersions.{most_in}
use Rattle.paged_memory.specs.ImageFaults.{IsAboveAll}
use Rattle.paged_memory.proofs.PageLineLaws.{same_entry}
use Rattle.paged_memory.proofs.ImageViews.{image_of, len_of}
use Rattle.paged_memory.proofs.Reading.{Above, number_is, above_is, sorted_push}
use Rattle.paged_memory.proofs.owned_image.text.take_line.Goals as goal

pub returns-in_default-clause-fault : goal.returns-in_default-clause-fault
returns-in_default-clause-fault c = (
  c.requires.goes_on,
  inl (λ spelled. c.in_default.ensures spelled.0 spelled.1 spelled.2, ap BadLine (ap (λ n. n + 2) c.len-number.ensures.value ∙ number_is c.args.entries.now.items c.requires.sorted)),
)

pub returns-then-not-is_above_all-clause-fault : goal.returns-then-not-is_above_all-clause-fault
returns-then-not-is_above_all-clause-fault c =
    let late : IsAboveAll (image_of c.args.entries.now.items) c.in-Some.key → ⊥ = λ above.
    let here : Above c.args.entries.now.items c.in-Some.key = (above_is c.args.entries.now.items c.in-Some.key c.requires.sorted).1 above in
    let yes = c.is_above_all.ensures.1 (rw c.deref.ensures.0 here) in
    search rules in (
      c.requires.goes_on,
      inr (
        λ bad. bad (c.in-Some.key, c.in-Some.page, c.in-Some.ensures),
        inl ((c.in-Some.key, c.in-Some.page, c.in-Some.ensures, late), ap OutOfOrder (ap (λ n. n + 2) c.len-number.ensures.value ∙ number_is c.args.entries.now.items c.requires.sorted)),
      ),
    )

pub returns-then-len-most_pages-clause-fault : goal.returns-then-len-most_pages-clause-fault
returns-then-len-most_pages-clause-fault c =
    let here : Above c.args.entries.now.items c.in-Some.key = rw c.deref.ensures.0 at (c.is_above_all.ensures.0 (search rules)) in
    let full : length c.args.entries.now.items ≡ most_in c.args.version = search rules in
    let above = (above_is c.args.entries.now.items c.in-Some.key c.requires.sorted).0 here in (
      c.requires.goes_on,
      inr (
        λ bad. bad (c.in-Some.key, c.in-Some.page, c.in-Some.ensures),
        inr (
          λ late.
              let same = same_entry c.in-Some.key late.0 c.in-Some.page late.1 c.in-Some.ensures.0 late.2.0 (sym c.in-Some.ensures.1 ∙ late.2.1) in
              late.3 (subst (IsAboveAll (image_of c.args.entries.now.items)) same.0 above),
          inl (len_of c.args.entries.now.items c.requires.sorted ∙ full, c.full.ensures),
        ),
      ),
    )

pub returns-clause-sorted : goal.returns-clause-sorted
returns-clause-sorted c =
    let here : Above c.args.entries.now.items c.in-Some.key = rw c.deref.ensures.0 at (c.is_above_all.ensures.0 (search rules)) in
    let pushed : c.push.new.self.items ≡ c.args.entries.now.items ++ (c.in-Some.key, c.in-Some.page) ∷ [] = search rules in
    rw pushed (sorted_push c.args.entries.now.items c.in-Some.key c.in-Some.page c.requires.sorted here)

pub returns-clause-added : goal.returns-clause-added
returns-clause-added c = (c.in-Some.key, c.in-Some.page, c.in-Some.ensures, search rules)
