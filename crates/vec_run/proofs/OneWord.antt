-- The words of a run, where there is one.
use Rattle.std.proofs.Common.{◌≡◌, refl, sym, ap, ◌∙◌, ℕ, map, get_or, length, List, [], ◌∷◌, arith}
use Rattle.std.specs.Prelude.{codes, Bool, nat_eq, IsTrue, String, string_bytes}
use Rattle.std.specs.declared.alloc.Global.{Global}
use Rattle.std.specs.Cmp.Lexicographic.{pointwise}
use Rattle.script_words.proofs.Spelling.{same_text, equal_texts}
use Rattle.vec_run.specs.declared.top.Verb.{Verb}
use Rattle.vec_run.specs.declared.top.Verb.TheVariants.{Exact, Alone}
use Rattle.vec_run.specs.Verbs.{IsVerb}

pub one_word : (words : List (String Global)) (word : String Global) (text : List ℕ) (same : Bool) → length words ≡ 1 → word ≡ get_or words 0 word → same ≡ pointwise nat_eq (string_bytes word) text
    → (IsTrue same → map string_bytes words ≡ text ∷ []) × (map string_bytes words ≡ text ∷ [] → IsTrue same)
one_word [] word text same one item is = absurd (omega (arith, one))
one_word (w ∷ v ∷ words) word text same one item is = absurd (omega (arith, one))
one_word (w ∷ []) word text same one item is = (
  λ yes. ap (λ (l : List ℕ). l ∷ []) (ap string_bytes (sym item) ∙ equal_texts (string_bytes word) text (sym is ∙ yes)),
  λ exact. let bytes : string_bytes word ≡ text = ap string_bytes item ∙ cc (exact) in is ∙ same_text (string_bytes word) text bytes,
)

-- the letter that the only word begins with
first_letter : (words others : List (List ℕ)) → words ≡ others → get_or (get_or words 0 []) 0 0 ≡ get_or (get_or others 0 []) 0 0
first_letter words others same = ap (λ (l : List (List ℕ)). get_or (get_or l 0 []) 0 0) same

apart : (codes "exact" ∷ []) ≡ (codes "alone" ∷ []) → ⊥
apart same = let e : 101 ≡ 97 = first_letter (codes "exact" ∷ []) (codes "alone" ∷ []) same in absurd (omega (arith, e))

-- words name one verb
pub one_verb : (words : List (String Global)) (v w : Verb) → IsVerb words v → IsVerb words w → v ≡ w
one_verb words Exact Exact is other = refl
one_verb words Alone Alone is other = refl
one_verb words Exact Alone is other = absurd (apart (sym is ∙ other))
one_verb words Alone Exact is other = absurd (apart (sym other ∙ is))
