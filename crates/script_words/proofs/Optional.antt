-- Numbers that may be left out have one reading.
use Rattle.std.proofs.Common.{◌≡◌, refl, sym, ap, ◌∙◌, ℕ, List, [], ◌∷◌, ◌++◌, subst, decimal}
use Rattle.std.specs.Prelude.{Option, Some, None, codes}
use Rattle.std.proofs.lemmas.Fmt.{decimal_injective}
use Rattle.script_words.specs.Commands.{IsNumberIf, named}
use Rattle.script_words.specs.Parts.{AreNumbers, BeginsWith, IsNamedNext}

pub one_number : (n m : ℕ) → IsNumberIf (Some n) → IsNumberIf (Some m) → decimal n ≡ decimal m → n ≡ m
one_number n m fn fm same = decimal_injective n m fn fm same

begins : (name word : List ℕ) (rest words : List (List ℕ)) → words ≡ name ∷ word ∷ rest → BeginsWith name words
begins name word rest words is = subst (BeginsWith name) (sym is) refl

pub one_named : (name : List ℕ) (words rest others : List (List ℕ)) (n m : Option ℕ) → IsNamedNext words name n rest → IsNamedNext words name m others → (n ≡ m) × (rest ≡ others)
one_named name words rest others None None fn fm = (refl, sym fn.spelled ∙ fm.spelled)
one_named name words rest others None (Some m) fn fm = absurd (fn.left_out refl (begins name (decimal m) others rest (sym fn.spelled ∙ fm.spelled)))
one_named name words rest others (Some n) None fn fm = absurd (fm.left_out refl (begins name (decimal n) rest others (sym fm.spelled ∙ fn.spelled)))
one_named name words rest others (Some n) (Some m) fn fm =
    let same : name ∷ decimal n ∷ rest ≡ name ∷ decimal m ∷ others = sym fn.spelled ∙ fm.spelled in
    let number : decimal n ≡ decimal m = cc (same) in
    let left : rest ≡ others = cc (same) in
    (ap Some (one_number n m fn.is_number fm.is_number number), left)

no_m : (ef round : Option ℕ) → BeginsWith (codes "m") (named (codes "ef") ef ++ named (codes "round") round) → ⊥
no_m None None begins = begins
no_m None (Some n) begins = absurd cc
no_m (Some n) round begins = absurd cc

no_ef : (round : Option ℕ) → BeginsWith (codes "ef") (named (codes "round") round) → ⊥
no_ef None begins = begins
no_ef (Some n) begins = absurd cc

module _ (words : List (List ℕ)) (m ef round : Option ℕ) (are : AreNumbers words m ef round) where
  pub m_next : IsNamedNext words (codes "m") m (named (codes "ef") ef ++ named (codes "round") round)
  m_next = record { spelled = are.spelled; is_number = are.is_m; left_out = λ none. no_m ef round }

  pub ef_next : (n : Option ℕ) (rest : List (List ℕ)) → IsNamedNext words (codes "m") n rest → IsNamedNext rest (codes "ef") ef (named (codes "round") round)
  ef_next n rest next = record {
    spelled = (one_named (codes "m") words rest (named (codes "ef") ef ++ named (codes "round") round) n m next m_next).1;
    is_number = are.is_ef;
    left_out = λ none. no_ef round;
  }

  pub round_next : (n k : Option ℕ) (rest last : List (List ℕ)) → IsNamedNext words (codes "m") n rest → IsNamedNext rest (codes "ef") k last → IsNamedNext last (codes "round") round []
  round_next n k rest last next further = record {
    spelled = (one_named (codes "ef") rest last (named (codes "round") round) k ef further (ef_next n rest next)).1 ∙ ends round;
    is_number = are.is_round;
    left_out = λ none begins. begins;
  }
    where
      ends : (n : Option ℕ) → named (codes "round") n ≡ named (codes "round") n ++ []
      ends None = refl
      ends (Some n) = refl
