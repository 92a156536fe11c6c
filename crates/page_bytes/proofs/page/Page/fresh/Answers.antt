use Rattle.std.proofs.Common.{◌≡◌, List, ℕ, [], ◌∷◌, refl, sym, subst}
use Rattle.page_bytes.specs.Spelling.{zeros, kind_word}
use Rattle.page_bytes.specs.Splice.{spliced}
use Rattle.page_bytes.specs.Decoding.{Spells}
use Rattle.page_bytes.proofs.Whole.{spelled, IsSpelled-from}
use Rattle.page_bytes.proofs.Changes.{fresh_of, fresh_spelled}
use Rattle.page_bytes.proofs.page.Page.fresh.Goals as goal

pub invariant_of-result : goal.invariant_of-result
invariant_of-result c =
    let s = fresh_spelled 8192 8160 c.args.kind refl refl in
    let e : c.put-2.new.bytes ≡ spliced (spliced (zeros 8192) 12 (24 ∷ 0 ∷ 248 ∷ 31 ∷ 248 ∷ 31 ∷ 4 ∷ 32 ∷ [])) 8184 (255 ∷ 255 ∷ 255 ∷ 255 ∷ 0 ∷ 0 ∷ kind_word c.args.kind ∷ 0 ∷ []) = rw (c.put-2.ensures, c.put.ensures, c.word_of.ensures) refl in
    IsSpelled-from _ _ (subst (λ (b : List ℕ). Spells b (fresh_of c.args.kind)) (sym e) s)

pub returns : goal.returns
returns c =
    let s = fresh_spelled 8192 8160 c.args.kind refl refl in
    let e : c.put-2.new.bytes ≡ spliced (spliced (zeros 8192) 12 (24 ∷ 0 ∷ 248 ∷ 31 ∷ 248 ∷ 31 ∷ 4 ∷ 32 ∷ [])) 8184 (255 ∷ 255 ∷ 255 ∷ 255 ∷ 0 ∷ 0 ∷ kind_word c.args.kind ∷ 0 ∷ []) = rw (c.put-2.ensures, c.put.ensures, c.word_of.ensures) refl in
    spelled _ _ (subst (λ (b : List ℕ). Spells b (fresh_of c.args.kind)) (sym e) s)
