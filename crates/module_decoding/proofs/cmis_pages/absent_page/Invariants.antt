use Rattle.std.proofs.Common.{◌≡◌, drop}
use Rattle.module_decoding.specs.CmisPages.{absent_page}
use Rattle.module_decoding.proofs.cmis_pages.absent_page.Given as goal

-- no page so far is absent
abbrev pub invariant-loop-page : goal.invariant-loop-page
invariant-loop-page l = absent_page l.pages l.image ≡ absent_page (drop l.page-index l.pages) l.image
