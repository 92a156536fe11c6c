-- Fresh pages behind those of an index, one after the other.
use Rattle.std.proofs.Common.{◌≡◌, ◌≤◌, ◌+◌, ◌-◌, ℕ, zero, suc, List, [], ◌∷◌, ◌++◌, length, replicate, refl, sym, ap, ap₂, ◌∙◌, append-nil, append_assoc, arith}
use Rattle.std.proofs.lemmas.List.{length-append, length-replicate}
use Rattle.vec_history.specs.declared.event.Event.{Event}
use Rattle.page_bytes.specs.Content.{Content}
use Rattle.page_redo.specs.Growing.{blocks_after, extended, fresh_page, new_kind}

replicate_more : (k : ℕ) (x : Content) → replicate k x ++ x ∷ [] ≡ x ∷ replicate k x
replicate_more zero x = refl
replicate_more (suc k) x = ap (λ (l : List Content). x ∷ l) (replicate_more k x)

pub extended_none : (pages : List Content) (fresh : Content) (n : ℕ) → pages ≡ pages ++ replicate (n - n) fresh
extended_none pages fresh n =
    let none : n - n ≡ 0 = omega arith in
    sym (append-nil pages) ∙ ap (λ (k : ℕ). pages ++ replicate k fresh) (sym none)

pub extended_more : (pages now new : List Content) (fresh : Content) (from counter : ℕ) → from ≤ counter → now ≡ pages ++ replicate (counter - from) fresh
    → new ≡ now ++ fresh ∷ [] → new ≡ pages ++ replicate (counter + 1 - from) fresh
extended_more pages now new fresh from counter high is more =
    let next : suc (counter - from) ≡ counter + 1 - from = omega (arith, high) in
    more ∙ ap (λ (l : List Content). l ++ fresh ∷ []) is ∙ append_assoc pages (replicate (counter - from) fresh) (fresh ∷ [])
    ∙ ap (λ (l : List Content). pages ++ l) (replicate_more (counter - from) fresh)
    ∙ ap (λ (k : ℕ). pages ++ replicate k fresh) next

pub extended_end : (event : Event) (pages now : List Content) (from upto counter : ℕ) → from ≡ length pages → upto ≡ blocks_after event from
    → counter ≡ upto → now ≡ pages ++ replicate (counter - from) (fresh_page (new_kind event)) → now ≡ extended event pages
extended_end event pages now from upto counter from_is upto_is same is =
    is ∙ ap₂ (λ (n m : ℕ). pages ++ replicate (n - m) (fresh_page (new_kind event))) (same ∙ upto_is ∙ ap (blocks_after event) from_is) from_is

pub extended_long : (pages now : List Content) (fresh : Content) (from counter : ℕ) → from ≡ length pages → from ≤ counter
    → now ≡ pages ++ replicate (counter - from) fresh → length now ≡ counter
extended_long pages now fresh from counter from_is high is =
    let long : length now ≡ length pages + (counter - from) =
    ap (λ (l : List Content). length l) is ∙ length-append pages (replicate (counter - from) fresh)
    ∙ ap (λ (n : ℕ). length pages + n) (length-replicate (counter - from) fresh) in
    omega (arith, long, from_is, high)
