use Rattle.std.proofs.Common.{◌≡◌, ◌≢◌, [], ◌∷◌, take}
use Rattle.std.specs.List.{AllByRecursion}
use Rattle.paged_memory.specs.declared.text_version.TextVersion.TheVariants.{One, Two}
use Rattle.paged_memory.specs.TextVersions.{header}
use Rattle.paged_memory.proofs.owned_image.text.split_header.Given as goal

-- the line is the first of no version that was passed
abbrev pub invariant-loop-version : goal.invariant-loop-version
invariant-loop-version l = record {
  versions : l.version-items ≡ One ∷ Two ∷ [];
  passed : AllByRecursion (λ version. l.first ≢ header version) (take l.version-index l.version-items);
}
