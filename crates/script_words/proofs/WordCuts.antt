-- Words of a line.
use Rattle.std.proofs.Common.{◌≡◌, ◌≢◌, refl, sym, ap, ◌∙◌, ℕ, ◌+◌, List, [], ◌∷◌, ◌++◌, take, drop, arith}
use Rattle.std.specs.Prelude.{Bool, true, false, ◌==◌, if◌then◌else◌}
use Rattle.std.specs.List.{onto_first}
use Rattle.std.proofs.lemmas.Bool.{eqb-true}
use Rattle.script_words.specs.Lines.{is_space, words_of, Lacks, IsCutAt}
use Rattle.script_words.proofs.Cutting.{lacks_tail}

is_not : (x y : ℕ) → x ≢ y → (x == y) ≡ false
is_not x y other = by_test (x == y) refl
  where
    by_test : (b : Bool) → (x == y) ≡ b → b ≡ false
    by_test false is = refl
    by_test true is = absurd (other (eqb-true x y is))

words_cut : (us vs : List ℕ) → Lacks 32 us → words_of (us ++ 32 ∷ vs) ≡ us ∷ words_of vs
words_cut [] vs lacks = refl
words_cut (u ∷ us) vs lacks =
    ap (λ (b : Bool). if b then [] ∷ words_of (us ++ 32 ∷ vs) else onto_first u (words_of (us ++ 32 ∷ vs))) (is_not u 32 (lacks 0 (omega arith)))
    ∙ ap (λ (l : List (List ℕ)). onto_first u l) (words_cut us vs (lacks_tail 32 u us lacks))

-- a text without a space is one word
pub one_word : (us : List ℕ) → Lacks 32 us → words_of us ≡ us ∷ []
one_word [] lacks = refl
one_word (u ∷ us) lacks =
    ap (λ (b : Bool). if b then [] ∷ words_of us else onto_first u (words_of us)) (is_not u 32 (lacks 0 (omega arith)))
    ∙ ap (λ (l : List (List ℕ)). onto_first u l) (one_word us (lacks_tail 32 u us lacks))

-- a text with one has the word before it, and those behind it
pub first_word : (text : List ℕ) (at : ℕ) (rest : List ℕ) → IsCutAt 32 text at → rest ≡ drop (at + 1) text → words_of text ≡ take at text ∷ words_of rest
first_word text at rest cut is =
    ap words_of cut.parts ∙ words_cut (take at text) (drop (at + 1) text) cut.first ∙ ap (λ (l : List ℕ). take at text ∷ words_of l) (sym is)

-- a text has at least one word
pub some_word : (text : List ℕ) → words_of text ≡ [] → ⊥
some_word [] is = absurd cc
some_word (u ∷ us) is = at (is_space u) (words_of us) is
  where
    at : (b : Bool) (ws : List (List ℕ)) → (if b then [] ∷ ws else onto_first u ws) ≡ [] → ⊥
    at true ws is = absurd cc
    at false [] is = absurd cc
    at false (w ∷ ws) is = absurd cc
