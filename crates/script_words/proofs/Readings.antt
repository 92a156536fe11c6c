-- What is no value.
use Rattle.std.proofs.Common.{◌≡◌, refl, sym, ap, ◌∙◌, ⊎_elim, ℕ, zero, suc, ◌<◌, ◌≤◌, List, [], ◌∷◌, length, get_or, take, arith}
use Rattle.std.specs.Prelude.{Bool, true, false, not, cond, nat_lt, ◌||◌, ◌==◌, Some, None}
use Rattle.std.specs.List.{position_or_len}
use Rattle.std.specs.Str.{IsAscii, IsUtf8}
use Rattle.std.proofs.lemmas.Bool.{eqb-true, cases_lt, lt-ltb}
use Rattle.std.proofs.lemmas.List.{take_all}
use Rattle.std.proofs.lemmas.List.Sums.{fails_before_first}
use Rattle.std.proofs.lemmas.Str.{IsUtf8-from_ascii}
use Rattle.bit_code.specs.Texts.{is_bit_character, first_bad, IsFaultOf}
use Rattle.bit_code.specs.declared.fault.BitsFault.{BitsFault}
use Rattle.bit_code.specs.declared.fault.BitsFault.TheVariants.{Memory, Empty, BadPlace, TooLong}
use Rattle.script_words.specs.Commands.{IsBits}

-- ---- bit texts

character_small : (c : ℕ) → not (is_bit_character c) ≡ false → c < 128
character_small c h = by_test (c == 48) (c == 49) refl refl h
  where
    by_test : (b d : Bool) → (c == 48) ≡ b → (c == 49) ≡ d → not (b || d) ≡ false → c < 128
    by_test true d is_0 is_1 h = omega (arith, eqb-true c 48 is_0)
    by_test false true is_0 is_1 h = omega (arith, eqb-true c 49 is_1)
    by_test false false is_0 is_1 h = absurd (cc)

none_reaches : (n m : ℕ) → cond (nat_lt n m) (Some n) None ≡ None → m ≤ n
none_reaches n m h = ⊎_elim (λ less. absurd (let found : Some n ≡ None = ap (λ (b : Bool). cond b (Some n) None) (sym (lt-ltb n m less)) ∙ h in cc)) (λ reaches. reaches) (cases_lt n m)

past_end : (xs : List ℕ) (i : ℕ) → length xs ≤ i → get_or xs i 0 ≡ 0
past_end [] i h = refl
past_end (x ∷ xs) zero h = absurd (omega (arith, h))
past_end (x ∷ xs) (suc i) h = past_end xs i (omega (arith, h))

bit_text_ascii : (text : List ℕ) → first_bad text ≡ None → IsAscii text
bit_text_ascii text good i = ⊎_elim inside outside (cases_lt i (length text))
  where
    reach : length text ≤ position_or_len (λ byte. not (is_bit_character byte)) text
    reach = none_reaches (position_or_len (λ byte. not (is_bit_character byte)) text) (length text) good

    inside : i < length text → get_or text i 0 < 128
    inside within = character_small (get_or text i 0) (fails_before_first (λ byte. not (is_bit_character byte)) text i 0 (omega (arith, within, reach)))

    outside : length text ≤ i → get_or text i 0 < 128
    outside past = let none : get_or text i 0 ≡ 0 = past_end text i past in omega (arith, none)

pub bits_utf8 : (text : List ℕ) (value : List Bool) → IsBits text value → IsUtf8 text
bits_utf8 text value is = IsUtf8-from_ascii text (bit_text_ascii text is.0.good)

-- a text with a fault but want of memory is no bit value
pub bad_text : (text : List ℕ) (fault : BitsFault) → (fault ≡ Memory → ⊥) → IsFaultOf text fault → (bits : List Bool) → IsBits text bits → ⊥
bad_text text Memory other bad bits is = other refl
bad_text text Empty other bad bits is = let some = is.0.some in let none : length text ≡ 0 = ap (λ (l : List ℕ). length l) bad in absurd (omega (arith, some, none))
bad_text text (BadPlace k) other bad bits is =
    let whole : take 64000 text ≡ text = take_all 64000 text is.0.few in
    let found : None ≡ Some k = sym is.0.good ∙ ap first_bad (sym whole) ∙ bad in
    absurd (cc)
bad_text text TooLong other bad bits is = let few = is.0.few in let many = bad.0 in absurd (omega (arith, few, many))
