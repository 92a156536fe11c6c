-- What the page of a block says to a row is what its lists say.
use Rattle.std.proofs.Common.{◌≡◌, ℕ, ◌+◌, ◌-◌, ◌*◌, ◌≤◌, Bool, true, false, List, length, Option, Some, None, refl, sym, ap, ap₂, ◌∙◌, arith}
use Rattle.std.specs.Prelude.{slice_get, nat_le, if◌then◌else◌, All}
use Rattle.std.proofs.lemmas.Bool.{le-leb, leb-true, false_from_ne_true}
use Rattle.index_sizes.specs.declared.limits.TheConstants.{PAGE_ROOM}
use Rattle.vec_names.specs.declared.params.Params.{Params}
use Rattle.page_bytes.specs.Content.{Content, IsPage, free_of, taken as taken_of}
use Rattle.ivf_graph.specs.declared.graph.IvfGraph.{IvfGraph}
use Rattle.ivf_graph.specs.Graph.{Row, rows_on, row_need, taken}
use Rattle.ivf_graph.specs.Looks.{next_on}
use Rattle.page_redo.proofs.Given.{got_from_all}
use Rattle.ivf_pages.specs.Standing.{next_of, Stands}
use Rattle.ivf_pages.proofs.Root.{in_range, entries_behind}
use Rattle.ivf_pages.proofs.RowRoom.{taken_is}
use Rattle.ivf_pages.proofs.RowsThere.{rows_there}
use Rattle.vec_steps.specs.Doing.{Came, HasNoRoom, add_reply}
use Rattle.page_sets.specs.Telling.{next_on as named_next}
use Rattle.page_sets.proofs.RowLooks.{next_is}
use Rattle.page_words.specs.Deciding.{page_add}

same_test : (a b c d : ℕ) → (a ≤ b → c ≤ d) → (c ≤ d → a ≤ b) → nat_le a b ≡ nat_le c d
same_test a b c d to from = by_test (nat_le a b) refl
  where
    by_test : (t : Bool) → nat_le a b ≡ t → nat_le a b ≡ nat_le c d
    by_test true is = is ∙ sym (le-leb c d (to (leb-true a b is)))
    by_test false is = is ∙ sym (false_from_ne_true (nat_le c d) (λ e. let both : true ≡ false = sym (le-leb a b (from (leb-true c d e))) ∙ is in absurd cc))

module _ (p : Params) (pages : List Content) (g : IvfGraph) (all : All IsPage pages) (s : Stands p pages g) where
  pub add_says : (block : ℕ) (rows : List Row) (held : Option Content) (places : ℕ) → rows_on g block ≡ Some rows → held ≡ slice_get pages block
      → page_add held places ≡ add_reply (rows_on g block) (next_on g block) places
  add_says block rows held places is has =
      let page = rows_there p pages g block rows s is in
      let c = page.page in
      let whole = (s.whole block).entries (entries_behind p pages g s block c page.there page.kind) c page.there in
      let fits = got_from_all IsPage pages block c all page.there in
      let used : taken_of c.items + 4 * length c.items ≡ taken rows = taken_is p (in_range pages p all s.params) c.items fits.items whole.entries ∙ ap taken page.has in
      let free : free_of c ≡ PAGE_ROOM - taken rows = omega (arith, used) in
      let room : taken rows ≤ PAGE_ROOM = omega (arith, used, fits.room) in
      let test : nat_le (row_need places) (free_of c) ≡ nat_le (taken rows + row_need places) PAGE_ROOM =
      same_test (row_need places) (free_of c) (taken rows + row_need places) PAGE_ROOM (λ h. omega (arith, h, free, room)) (λ h. omega (arith, h, free, room)) in
      let next : c.next ≡ next_on g block = sym (next_is p pages g s block rows is ∙ ap next_of page.there) in
      ap (λ (o : Option Content). page_add o places) (has ∙ page.there)
      ∙ ap₂ (λ (t : Bool) (n : Option ℕ). if t then Came else HasNoRoom n) test next
      ∙ sym (ap (λ o. add_reply o (next_on g block) places) is)

  pub next_says : (block : ℕ) (rows : List Row) (held : Option Content) → rows_on g block ≡ Some rows → held ≡ slice_get pages block
      → named_next held ≡ next_on g block
  next_says block rows held is has = ap named_next has ∙ by_page (slice_get pages block) ∙ sym (next_is p pages g s block rows is)
    where
      by_page : (o : Option Content) → named_next o ≡ next_of o
      by_page None = refl
      by_page (Some c) = refl
