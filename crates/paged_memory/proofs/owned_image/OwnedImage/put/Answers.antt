use Rattle.std.proofs.Common.{◌≡◌, true, false, refl, ap, ◌∙◌, rules}
use Rattle.paged_memory.specs.ImageText.{IsEntry, AreEntries}
use Rattle.std.specs.FinMap as map
use Rattle.std.specs.FinMap.Entries.{put}
use Rattle.paged_memory.specs.KeyOrder.{key_cmp}
use Rattle.paged_memory.proofs.ImageViews.{put_view, put_kept, no_room, is_image}
use Rattle.paged_memory.proofs.owned_image.OwnedImage.put.Goals as goal
use Rattle.paged_memory.proofs.owned_image.OwnedImage.put.Goals.{Else-not-put_entry}
use Rattle.paged_memory.proofs.owned_image.OwnedImage.put.Given.{Over}

pub returns-then-not-put_entry-clause-refused : goal.returns-then-not-put_entry-clause-refused
returns-then-not-put_entry-clause-refused g c =
    let lost : c.put_entry.result ≡ false = search rules in
    let room = no_room c.self.inside.entries.items c.args.self.now c.args.key g.row.MOST c.self.invariant.sorted c.self.view_is in
    (λ _. room.0 (c.put_entry.ensures.full.0 lost), λ _. refl)

pub returns-clause-ok : goal.returns-clause-ok
returns-clause-ok g c =
    let is : c.put_entry.new.entries.items ≡ put key_cmp c.args.key c.args.page c.self.inside.entries.items = search rules in
    rw is (put_view c.self.inside.entries.items c.self.invariant.sorted c.args.key c.args.page ∙ ap (λ m. map.insert m c.args.key c.args.page) c.self.view_is)

pub returns-clause-refused : goal.returns-clause-refused
returns-clause-refused g c =
    let done : c.put_entry.result ≡ true = search rules in
    let room = no_room c.self.inside.entries.items c.args.self.now c.args.key g.row.MOST c.self.invariant.sorted c.self.view_is in
    (λ e. absurd cc, λ full. let lost : c.put_entry.result ≡ false = c.put_entry.ensures.full.1 (room.1 full) in cc)

module _ (g : Over) (c : Else-not-put_entry g) where
  entry : IsEntry c.args.key c.args.page
  entry = record { key_fits = record { bank = search rules; number = search rules }; page_fits = record { len = c.bytes-bytes.ensures.len; bytes = c.bytes-bytes.ensures.bytes } }

  done_kept : AreEntries c.put_entry.new.entries.items
  done_kept =
      let done : c.put_entry.result ≡ true = search rules in
      let is : c.put_entry.new.entries.items ≡ put key_cmp c.args.key c.args.page c.self.inside.entries.items = search rules in
      rw is (put_kept c.self.inside.entries.items c.args.key c.args.page c.self.invariant entry)

pub invariant_of-self-2 : goal.invariant_of-self-2
invariant_of-self-2 g c = done_kept g c

pub returns-then-not-put_entry-clause-image : goal.returns-then-not-put_entry-clause-image
returns-then-not-put_entry-clause-image g c =
    let same : c.put_entry.new.entries ≡ c.self.inside.entries = search rules in
    is_image c.put_entry.new.entries.items (rw same c.self.invariant)

pub returns-clause-image : goal.returns-clause-image
returns-clause-image g c = is_image c.put_entry.new.entries.items (done_kept g c)
