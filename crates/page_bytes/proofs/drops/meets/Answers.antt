use Rattle.std.proofs.Common.{slice_index, sym, ◌∙◌, inl, inr, arith}
use Rattle.std.proofs.lemmas.Bool.{cases_eq, le-ltb, eq-eqb, ne_eqb}
use Rattle.page_bytes.proofs.Dropped.{met_here, met_nowhere}
use Rattle.page_bytes.proofs.drops.meets.Goals as goal

pub returns-then-next-gone : goal.returns-then-next-gone
returns-then-next-gone c =
    let gone = c.args.gone.now in
    elim (cases_eq (slice_index gone c.args.next) c.args.off) [
      | inl same ↦ eq-eqb _ _ same ∙ sym (met_here gone c.args.next c.args.off c.if-next-gone.true same)
      | inr apart ↦ ne_eqb _ _ apart ∙ sym (met_nowhere gone c.args.next c.args.off c.requires.rising c.requires.met (λ h. omega (arith, apart, c.requires.met.from h)))
    ]

pub returns-else-next-gone : goal.returns-else-next-gone
returns-else-next-gone c =
    le-ltb _ _ c.if-next-gone.false ∙ sym (met_nowhere c.args.gone.now c.args.next c.args.off c.requires.rising c.requires.met (λ h. omega arith))
