-- Lines of a text, and its front up to the last line feed.
use Rattle.std.proofs.Common.{◌≡◌, ◌≢◌, refl, sym, ap, ◌∙◌, ℕ, zero, suc, ◌+◌, ◌<◌, ◌≤◌, List, [], ◌∷◌, ◌++◌, length, get_or, take, drop, arith, add-one}
use Rattle.std.specs.Prelude.{Bool, true, false, ◌==◌, ◌||◌, Some, None, if◌then◌else◌}
use Rattle.std.specs.List.{onto_first, list_any}
use Rattle.std.proofs.lemmas.Bool.{eq-eqb, eqb-true}
use Rattle.memchr.specs.Find.{IsLastByte, is_byte}
use Rattle.script_words.specs.Lines.{is_line_feed, lines_of, closed_part, Lacks, IsCutAt}
use Rattle.script_words.proofs.Cutting.{lacks_tail}

is_not : (x y : ℕ) → x ≢ y → (x == y) ≡ false
is_not x y other = by_test (x == y) refl
  where
    by_test : (b : Bool) → (x == y) ≡ b → b ≡ false
    by_test false is = refl
    by_test true is = absurd (other (eqb-true x y is))

pub lines_cut : (us vs : List ℕ) → Lacks 10 us → lines_of (us ++ 10 ∷ vs) ≡ us ∷ lines_of vs
lines_cut [] vs lacks = refl
lines_cut (u ∷ us) vs lacks =
    ap (λ (b : Bool). if b then [] ∷ lines_of (us ++ 10 ∷ vs) else onto_first u (lines_of (us ++ 10 ∷ vs))) (is_not u 10 (lacks 0 (omega arith)))
    ∙ ap (λ (l : List (List ℕ)). onto_first u l) (lines_cut us vs (lacks_tail 10 u us lacks))

pub lines_last : (u : ℕ) (us : List ℕ) → Lacks 10 (u ∷ us) → lines_of (u ∷ us) ≡ (u ∷ us) ∷ []
lines_last u [] lacks = ap (λ (b : Bool). if b then [] ∷ [] else (u ∷ []) ∷ []) (is_not u 10 (lacks 0 (omega arith)))
lines_last u (v ∷ us) lacks =
    ap (λ (b : Bool). if b then [] ∷ lines_of (v ∷ us) else onto_first u (lines_of (v ∷ us))) (is_not u 10 (lacks 0 (omega arith)))
    ∙ ap (λ (l : List (List ℕ)). onto_first u l) (lines_last v us (lacks_tail 10 u (v ∷ us) lacks))

pub first_cut : (text : List ℕ) (at : ℕ) (rest : List ℕ) → IsCutAt 10 text at → rest ≡ drop (at + 1) text → lines_of text ≡ take at text ∷ lines_of rest
first_cut text at rest cut is = ap lines_of cut.parts ∙ lines_cut (take at text) (drop (at + 1) text) cut.first ∙ ap (λ (l : List ℕ). take at text ∷ lines_of l) (sym is)

pub first_last : (text rest : List ℕ) → 0 < length text → Lacks 10 text → rest ≡ [] → lines_of text ≡ text ∷ lines_of rest
first_last [] rest some lacks none = absurd (omega (arith, some))
first_last (u ∷ us) rest some lacks none = lines_last u us lacks ∙ ap (λ (l : List ℕ). (u ∷ us) ∷ lines_of l) (sym none)

-- ---- up to the last line feed

any_none : (text : List ℕ) → Lacks 10 text → list_any is_line_feed text ≡ false
any_none [] lacks = refl
any_none (x ∷ xs) lacks = ap (λ (b : Bool). b || list_any is_line_feed xs) (is_not x 10 (lacks 0 (omega arith))) ∙ any_none xs (lacks_tail 10 x xs lacks)

or_true : (b : Bool) → (b || true) ≡ true
or_true true = refl
or_true false = refl

any_some : (text : List ℕ) (at : ℕ) → at < length text → get_or text at 0 ≡ 10 → list_any is_line_feed text ≡ true
any_some [] at within is = absurd (omega (arith, within))
any_some (x ∷ xs) zero within is = ap (λ (b : Bool). b || list_any is_line_feed xs) (eq-eqb x 10 is)
any_some (x ∷ xs) (suc at) within is = ap (λ (b : Bool). (x == 10) || b) (any_some xs at (omega (arith, within)) is) ∙ or_true (x == 10)

pub closed_none : (text : List ℕ) → Lacks 10 text → closed_part text ≡ []
closed_none [] lacks = refl
closed_none (x ∷ xs) lacks = ap (λ (b : Bool). if b then x ∷ closed_part xs else []) (any_none (x ∷ xs) lacks)

closed_at : (text : List ℕ) (at : ℕ) → at < length text → get_or text at 0 ≡ 10 → ((k : ℕ) → at < k → k < length text → get_or text k 0 ≢ 10) → closed_part text ≡ take (suc at) text
closed_at [] at within is none = absurd (omega (arith, within))
closed_at (x ∷ xs) zero within is none =
    ap (λ (b : Bool). if b then x ∷ closed_part xs else []) (any_some (x ∷ xs) 0 within is)
    ∙ ap (λ (l : List ℕ). x ∷ l) (closed_none xs (λ k inside. none (suc k) (omega arith) (omega (arith, inside))))
closed_at (x ∷ xs) (suc at) within is none =
    ap (λ (b : Bool). if b then x ∷ closed_part xs else []) (any_some (x ∷ xs) (suc at) within is)
    ∙ ap (λ (l : List ℕ). x ∷ l) (closed_at xs at (omega (arith, within)) is (λ k past inside. none (suc k) (omega (arith, past)) (omega (arith, inside))))

pub closed_found : (text : List ℕ) (at : ℕ) → IsLastByte (is_byte 10) text (Some at) → closed_part text ≡ take (at + 1) text
closed_found text at last =
    closed_at text at last.0.high (eqb-true (get_or text at 0) 10 last.1) (λ k past inside is. last.0.after k (omega (arith, past)) inside (eq-eqb (get_or text k 0) 10 is))
    ∙ ap (λ (n : ℕ). take n text) (sym (add-one at))

pub closed_missing : (text : List ℕ) → IsLastByte (is_byte 10) text None → closed_part text ≡ []
closed_missing text nowhere = closed_none text (λ k within is. nowhere k (omega arith) within (eq-eqb (get_or text k 0) 10 is))

pub drop_whole : (text : List ℕ) → drop (length text) text ≡ []
drop_whole [] = refl
drop_whole (x ∷ xs) = drop_whole xs

pub closed_short : (text : List ℕ) → length (closed_part text) ≤ length text
closed_short [] = omega arith
closed_short (x ∷ xs) = by_test (list_any is_line_feed (x ∷ xs)) (closed_short xs)
  where
    by_test : (b : Bool) → length (closed_part xs) ≤ length xs → length (if b then x ∷ closed_part xs else []) ≤ length (x ∷ xs)
    by_test true shorter = omega (arith, shorter)
    by_test false shorter = omega arith
