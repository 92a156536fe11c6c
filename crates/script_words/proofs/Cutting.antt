-- Texts that are cut at a byte have one cut.
use Rattle.std.proofs.Common.{◌≡◌, ◌≢◌, refl, sym, ap, ap₂, ◌∙◌, subst, ℕ, zero, suc, ◌+◌, ◌%◌, ◌^◌, ◌<◌, ◌≤◌, List, [], ◌∷◌, ◌++◌, length, get_or, take, drop, arith, add-one, drop-cons, ◌⊎◌, ⊎_elim, decimal}
use Rattle.std.proofs.lemmas.Fmt.{decimal_by_steps}
use Rattle.std.proofs.lemmas.List.{take-append-drop, get_or-take, length-take}
use Rattle.std.proofs.lemmas.Bool.{eq-eqb, eqb-true}
use Rattle.std.specs.Prelude.{Option, Some, None, MatchOption}
use Rattle.memchr.specs.Find.{IsFirstByte, is_byte}
use Rattle.script_words.specs.Lines.{Lacks, IsCutAt}

pub lacks_tail : (byte x : ℕ) (xs : List ℕ) → Lacks byte (x ∷ xs) → Lacks byte xs
lacks_tail byte x xs lacks k within = lacks (suc k) (omega (arith, within))

lacks_nil : (byte : ℕ) → Lacks byte []
lacks_nil byte k within = absurd (omega (arith, within))

pub lacks_one : (byte x : ℕ) → x ≢ byte → Lacks byte (x ∷ [])
lacks_one byte x other zero within = other
lacks_one byte x other (suc k) within = absurd (omega (arith, within))

pub lacks_append : (byte : ℕ) (xs ys : List ℕ) → Lacks byte xs → Lacks byte ys → Lacks byte (xs ++ ys)
lacks_append byte [] ys lx ly k within = ly k within
lacks_append byte (x ∷ xs) ys lx ly zero within = lx 0 (omega arith)
lacks_append byte (x ∷ xs) ys lx ly (suc k) within = lacks_append byte xs ys (lacks_tail byte x xs lx) ly k (omega (arith, within))

-- a text has no such byte, or it is not of two parts with that byte between them
pub no_cut : (byte : ℕ) (text xs ys : List ℕ) → Lacks byte text → text ≡ xs ++ byte ∷ ys → ⊥
no_cut byte text xs ys lacks is = at xs (subst (Lacks byte) is lacks)
  where
    at : (xs : List ℕ) → Lacks byte (xs ++ byte ∷ ys) → ⊥
    at [] lacks = lacks 0 (omega arith) refl
    at (x ∷ xs) lacks = at xs (lacks_tail byte x (xs ++ byte ∷ ys) lacks)

-- two parts that lack the byte between them and what follows
pub one_cut : (byte : ℕ) (us vs xs ys : List ℕ) → Lacks byte us → Lacks byte vs → us ++ byte ∷ xs ≡ vs ++ byte ∷ ys → (us ≡ vs) × (xs ≡ ys)
one_cut byte [] [] xs ys lu lv same = (refl, cc)
one_cut byte [] (v ∷ vs) xs ys lu lv same = let head : byte ≡ v = cc in absurd (lv 0 (omega arith) (sym head))
one_cut byte (u ∷ us) [] xs ys lu lv same = let head : u ≡ byte = cc in absurd (lu 0 (omega arith) head)
one_cut byte (u ∷ us) (v ∷ vs) xs ys lu lv same =
    let head : u ≡ v = cc in
    let rest : us ++ byte ∷ xs ≡ vs ++ byte ∷ ys = cc in
    let both = one_cut byte us vs xs ys (lacks_tail byte u us lu) (lacks_tail byte v vs lv) rest in
    (ap₂ (λ (n : ℕ) (ns : List ℕ). n ∷ ns) head both.0, both.1)

-- the parts of a cut are the parts that the text was made of
pub cut_parts : (byte at : ℕ) (text xs ys : List ℕ) → IsCutAt byte text at → Lacks byte xs → text ≡ xs ++ byte ∷ ys → (take at text ≡ xs) × (drop (at + 1) text ≡ ys)
cut_parts byte at text xs ys cut lacks is = one_cut byte (take at text) xs (drop (at + 1) text) ys cut.first lacks (sym cut.parts ∙ is)

-- no byte of a decimal number but a digit
pub decimal_lacks : (byte n : ℕ) → n < 2 ^ 64 → (byte < 48) ⊎ (57 < byte) → Lacks byte (decimal n)
decimal_lacks byte n small other = decimal_by_steps (λ m ds. Lacks byte ds) one more n small
  where
    apart : (d : ℕ) → d < 10 → 48 + d ≢ byte
    apart d digit is = ⊎_elim (λ low. absurd (omega (arith, low, is))) (λ high. absurd (omega (arith, high, is, digit))) other

    one : (m : ℕ) → m < 10 → Lacks byte ((48 + m) ∷ [])
    one m digit = lacks_one byte (48 + m) (apart m digit)

    more : (m : ℕ) (ds : List ℕ) → 10 ≤ m → Lacks byte ds → Lacks byte (ds ++ ((48 + m % 10) ∷ []))
    more m ds high lacks = lacks_append byte ds ((48 + m % 10) ∷ []) lacks (lacks_one byte (48 + m % 10) (apart (m % 10) (omega arith)))

-- what a search for the first such byte tells
pub cut_from : (byte at : ℕ) (text : List ℕ) → at < length text → get_or text at 0 ≡ byte → ((k : ℕ) → k < at → get_or text k 0 ≢ byte) → IsCutAt byte text at
cut_from byte at text within here before = record {
  within = within;
  first = λ k inside is.
      let below : k < at = omega (arith, inside, length-take at text) in
      before k below (sym (get_or-take at text k 0 below) ∙ is);
  parts =
      sym (take-append-drop at text)
      ∙ ap (λ (l : List ℕ). take at text ++ l) (drop-cons text at 0 within ∙ ap₂ (λ (b i : ℕ). b ∷ drop i text) here (sym (add-one at)));
}

pub cut_answer : (byte : ℕ) (text : List ℕ) (r : Option ℕ) → IsFirstByte (is_byte byte) text r → MatchOption r (Lacks byte text) (IsCutAt byte text)
cut_answer byte text None nowhere = λ k within is. nowhere k (omega arith) within (eq-eqb (get_or text k 0) byte is)
cut_answer byte text (Some at) first =
    cut_from byte at text first.0.high (eqb-true (get_or text at 0) byte first.1) (λ k below is. first.0.before k (omega arith) below (eq-eqb (get_or text k 0) byte is))

pub lacks_cons : (byte x : ℕ) (xs : List ℕ) → x ≢ byte → Lacks byte xs → Lacks byte (x ∷ xs)
lacks_cons byte x xs other lacks zero within = other
lacks_cons byte x xs other lacks (suc k) within = lacks k (omega (arith, within))
