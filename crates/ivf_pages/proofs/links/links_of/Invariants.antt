use Rattle.std.proofs.Common.{◌≡◌, map, take}
use Rattle.ivf_pages.specs.Walking.{link_of}
use Rattle.ivf_pages.proofs.links.links_of.Given as goal

-- the links of the pages so far
abbrev pub invariant-loop-page : goal.invariant-loop-page
invariant-loop-page l = l.links ≡ map link_of (take l.page-index l.pages)
