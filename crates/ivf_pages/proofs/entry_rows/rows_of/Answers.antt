use Rattle.std.proofs.Common.{◌≡◌, length, Some, refl, sym, subst, ◌∙◌}
use Rattle.std.specs.Prelude.{slice_get}
use Rattle.std.proofs.lemmas.Option.{slice_get_read}
use Rattle.byte_fields.proofs.EachField.{some_is}
use Rattle.page_bytes.specs.Content.{Content}
use Rattle.ivf_pages.specs.Standing.{rows_of, IsEntryPage}
use Rattle.ivf_pages.proofs.Judged.{other_kind, not_in_one, not_entries, has_rows}
use Rattle.ivf_pages.proofs.entry_rows.rows_of.Goals.{then-not-holds_entries-via-then-not-holds_entries, then-not-holds_entries-via-else-not-holds_entries+then-not-is_in_one}
use Rattle.ivf_pages.proofs.entry_rows.rows_of.Goals as goal

pub returns-then-not-holds_entries : goal.returns-then-not-holds_entries
returns-then-not-holds_entries c =
    let pages = c.args.pages.now in
    let page = c.index-pages-block.result in
    let there : slice_get pages c.args.block ≡ Some page = slice_get_read pages (length pages) c.args.block page refl c.requires.there c.index-pages-block.is in (
      refl,
      c.requires.behind,
      page,
      there,
      elim c.then-not-holds_entries.branch as (λ _. ¬ IsEntryPage c.args.params.now pages c.args.block page) [
        | then-not-holds_entries-via-then-not-holds_entries w ↦
            other_kind c.args.params.now pages c.args.marks.now c.requires.marked c.args.block page there (sym c.holds_entries.ensures ∙ w.if-not-holds_entries.true)
        | then-not-holds_entries-via-else-not-holds_entries+then-not-is_in_one w ↦
            not_in_one c.args.params.now pages c.args.marks.now c.requires.marked c.args.block page there (sym w.is_in_one.ensures ∙ w.if-not-is_in_one.true)
      ],
    )

pub returns-in-Some : goal.returns-in-Some
returns-in-Some c = λ d behind is.
    let pages = c.args.pages.now in
    let p = c.args.params.now in
    let page = c.index-pages-block.result in
    let there : slice_get pages c.args.block ≡ Some page = slice_get_read pages (length pages) c.args.block page refl c.requires.there c.index-pages-block.is in
    subst (λ (e : Content). IsEntryPage p pages c.args.block e × (c.in-Some.rows ≡ rows_of p (Some e))) (some_is page d (sym there ∙ is))
    (has_rows p pages c.args.marks.now c.requires.marked c.args.block page there c.in-Some.rows (sym c.in-Some.is ∙ c.in_ok-rows.ensures)
    (sym c.holds_entries.ensures ∙ c.if-not-holds_entries.false) (sym c.is_in_one.ensures ∙ c.if-not-is_in_one.false))

pub returns-in-None : goal.returns-in-None
returns-in-None c =
    let pages = c.args.pages.now in
    let page = c.index-pages-block.result in
    let there : slice_get pages c.args.block ≡ Some page = slice_get_read pages (length pages) c.args.block page refl c.requires.there c.index-pages-block.is in (
      refl,
      c.requires.behind,
      page,
      there,
      not_entries c.args.params.now pages c.args.marks.now c.requires.marked c.args.block page there (sym c.in-None.is ∙ c.in_ok-rows.ensures),
    )
