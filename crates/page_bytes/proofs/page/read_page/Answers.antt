use Rattle.std.proofs.Common.{ℕ, inl, inr, List, length, min, Ok, refl, sym, ap, ◌∙◌, subst}
use Rattle.page_bytes.specs.Decoding.{Spells, content}
use Rattle.page_bytes.proofs.Whole.{IsSpelled-from, spelled}
use Rattle.page_bytes.proofs.Verdicts.{whole_page, page_has_none, same_whole, first_fault_is}
use Rattle.page_bytes.proofs.page.read_page.Goals as goal

pub invariant_of-result : goal.invariant_of-result
invariant_of-result c =
    let w = whole_page c.first_bytes-whole.result c.first_bytes-whole.ensures.long (sym c.first_fault-at.ensures ∙ c.if-at.true) in
    IsSpelled-from _ w.0 w.1

pub returns-then-bytes-eq-SIZE-clause-found : goal.returns-then-bytes-eq-SIZE-clause-found
returns-then-bytes-eq-SIZE-clause-found c =
    let whole = c.first_bytes-whole.result in
    let w = whole_page whole c.first_bytes-whole.ensures.long (sym c.first_fault-at.ensures ∙ c.if-at.true) in
    let same = same_whole c.args.bytes.now whole c.first_bytes-whole.ensures.long c.if-bytes-eq-SIZE.true c.first_bytes-whole.ensures.same in
    subst (λ (b : List ℕ). Spells b (content whole)) same (IsSpelled-from whole w.0 w.1)

pub returns-then-bytes-eq-SIZE-clause-only : goal.returns-then-bytes-eq-SIZE-clause-only
returns-then-bytes-eq-SIZE-clause-only c =
    let whole = c.first_bytes-whole.result in
    let same = same_whole c.args.bytes.now whole c.first_bytes-whole.ensures.long c.if-bytes-eq-SIZE.true c.first_bytes-whole.ensures.same in
    λ p s. ap Ok (spelled whole p (subst (λ (b : List ℕ). Spells b p) (sym same) s))

pub returns-clause-only : goal.returns-clause-only
returns-clause-only c =
    λ p s.
    let n = page_has_none c.args.bytes.now c.first_bytes-whole.result p c.first_bytes-whole.ensures.long c.first_bytes-whole.ensures.same s in
    elim c.else-at.either [
      | inl e ↦ absurd (e.1 n.1)
      | inr e ↦ absurd (e (c.first_fault-at.ensures ∙ n.0))
    ]

pub returns-clause-fault : goal.returns-clause-fault
returns-clause-fault c =
    let at = c.first_fault-at.ensures in
    first_fault_is c.args.bytes.now c.first_bytes-whole.result (min (length c.args.bytes.now) 8192) c.min.result c.first_bytes-whole.ensures.long refl c.first_bytes-whole.ensures.same (c.min.ensures ∙ ap (λ (k : ℕ). min k (length c.args.bytes.now)) (c.from.ensures ∙ at)) (λ both. elim c.else-at.either [ inl e ↦ e.1 both.1 | inr e ↦ e (at ∙ both.0) ])
