-- The link of a block is what its page says to a chain.
use Rattle.std.proofs.Common.{◌≡◌, ℕ, Bool, true, false, List, map, Option, Some, None, refl, ap, ◌∙◌}
use Rattle.std.specs.Prelude.{slice_get, if◌then◌else◌}
use Rattle.std.specs.Option.{option_map}
use Rattle.std.proofs.lemmas.Option.{slice_get-map}
use Rattle.page_bytes.specs.Content.{Content}
use Rattle.page_redo.specs.PageTuples.{is_entries_page}
use Rattle.ivf_pages.specs.declared.links.Link.{Link}
use Rattle.ivf_pages.specs.declared.links.Link.TheVariants.{Away}
use Rattle.ivf_pages.specs.Standing.{has_entries, next_of}
use Rattle.ivf_pages.specs.Walking.{linked, link_of, leads, behind}

leads_if : (entries : Bool) (next : Option ℕ) → leads (Some (if entries then linked next else Away)) ≡ entries
leads_if true None = refl
leads_if true (Some b) = refl
leads_if false next = refl

behind_if : (entries : Bool) (next : Option ℕ) → entries ≡ true → behind (Some (if entries then linked next else Away)) ≡ next
behind_if true None is = refl
behind_if true (Some b) is = refl
behind_if false next is = absurd cc

leads_page : (o : Option Content) → leads (option_map link_of o) ≡ has_entries o
leads_page None = refl
leads_page (Some c) = leads_if (is_entries_page c.kind) c.next

behind_page : (o : Option Content) → has_entries o ≡ true → behind (option_map link_of o) ≡ next_of o
behind_page None has = refl
behind_page (Some c) has = behind_if (is_entries_page c.kind) c.next has

module _ (pages : List Content) (links : List Link) (are : links ≡ map link_of pages) (block : ℕ) where
  link_is : slice_get links block ≡ option_map link_of (slice_get pages block)
  link_is = ap (λ (ls : List Link). slice_get ls block) are ∙ slice_get-map link_of pages block

  pub leads_is : leads (slice_get links block) ≡ has_entries (slice_get pages block)
  leads_is = ap leads link_is ∙ leads_page (slice_get pages block)

  pub behind_is : has_entries (slice_get pages block) ≡ true → behind (slice_get links block) ≡ next_of (slice_get pages block)
  behind_is has = ap behind link_is ∙ behind_page (slice_get pages block) has
