-- Texts as packed bytes.
use Rattle.std.proofs.Common.{◌≡◌, refl, sym, ap, ap₂, ◌∙◌, subst, ℕ, zero, suc, ◌+◌, ◌*◌, ◌/◌, ◌%◌, ◌-◌, ◌^◌, ◌<◌, List, [], ◌∷◌, ◌++◌, length, get_or, take, drop, arith, add-one, append_assoc, length-append}
use Rattle.std.specs.Prelude.{Bool, true, false, ◌==◌, replicate, min}
use mir.Val.{bool_byte}
use Rattle.std.proofs.Math.Nat.{pow-suc}
use Rattle.std.proofs.Math.Seq.{take-add, take-length}
use Rattle.std.proofs.lemmas.List.{append-nil, take_min, length-drop, length-map, map-append, take-append-drop, take_more}
use Rattle.std.specs.Simd.{first_chunks}
use Rattle.bit_code.specs.Places.{places, unpacked, Packs}
use Rattle.bit_code.specs.Texts.{places_of_text}
use Rattle.bit_code.proofs.PackedPlaces.{places-push, places_none, unpacked_none, unpacked-push}
use Rattle.bit_code.proofs.TalliedBytes.{chunk_at}

pub packed_start : places 0 0 ≡ []
packed_start = places_none 0

digit_again : (b : Bool) → (bool_byte b == 1) ≡ b
digit_again true = refl
digit_again false = refl

digit_small : (b : Bool) → bool_byte b < 2
digit_small true = omega arith
digit_small false = omega arith

-- one character more
pub packed_step : (i byte : ℕ) (text : List ℕ) (d : ℕ) → d ≡ bool_byte (get_or text i 0 == 49) → i < length text → places i byte ≡ places_of_text (take i text)
    → places (i + 1) (byte * 2 + d) ≡ places_of_text (take (i + 1) text)
packed_step i byte text d is within so_far =
    let bit = get_or text i 0 == 49 in
    ap₂ (λ (k n : ℕ). places k (byte * 2 + n)) (add-one i) is
    ∙ places-push i byte (bool_byte bit) (digit_small bit)
    ∙ ap₂ (λ (xs : List Bool) (x : Bool). xs ++ x ∷ []) so_far (digit_again bit)
    ∙ sym (map-append (λ (c : ℕ). c == 49) (take i text) (get_or text i 0 ∷ []))
    ∙ ap places_of_text (sym (take_more text i 0 within))

pub packed_small : (i byte : ℕ) (b : Bool) (d : ℕ) → d ≡ bool_byte b → byte < 2 ^ i → byte * 2 + d < 2 ^ (i + 1)
packed_small i byte true d is small = subst (λ (k : ℕ). byte * 2 + d < 2 ^ k) (sym (add-one i)) (omega (arith, pow-suc 2 i, is, small))
packed_small i byte false d is small = subst (λ (k : ℕ). byte * 2 + d < 2 ^ k) (sym (add-one i)) (omega (arith, pow-suc 2 i, is, small))

-- ---- whole texts

pub pack_start : (bs text : List ℕ) → bs ≡ [] → unpacked bs ≡ []
pack_start bs text none = ap unpacked none ∙ unpacked_none

-- eight characters more
pub pack_step : (i k b : ℕ) (bs new text : List ℕ) (fs : List (List ℕ)) → fs ≡ first_chunks 8 k text → i < k → new ≡ bs ++ b ∷ [] → unpacked bs ≡ places_of_text (take (8 * i) text)
    → places 8 b ≡ places_of_text (get_or fs i []) → unpacked new ≡ places_of_text (take (8 * (i + 1)) text)
pack_step i k b bs new text fs chunks within pushed so_far here =
    let piece : get_or fs i [] ≡ take 8 (drop (8 * i) text) = ap (λ (l : List (List ℕ)). get_or l i []) chunks ∙ chunk_at 8 k i text [] within in
    let ahead : 8 * i + 8 ≡ 8 * (i + 1) = omega arith in
    ap unpacked pushed
    ∙ unpacked-push bs b (places_of_text (take (8 * i) text)) (places_of_text (take 8 (drop (8 * i) text))) so_far (here ∙ ap places_of_text piece)
    ∙ sym (map-append (λ (c : ℕ). c == 49) (take (8 * i) text) (take 8 (drop (8 * i) text)))
    ∙ ap places_of_text (sym (take-add (8 * i) 8 text) ∙ ap (λ (n : ℕ). take n text) ahead)

zeros : (n : ℕ) → places_of_text (replicate n 48) ≡ replicate n false
zeros zero = refl
zeros (suc n) = ap (λ (xs : List Bool). false ∷ xs) (zeros n)

-- what a last byte of fewer characters holds
pub last_places : (text whole : List ℕ) (b : ℕ) → length text < 8 → whole ≡ text ++ replicate (8 - length text) 48 → places 8 b ≡ places_of_text whole → places 8 b ≡ places_of_text text ++ replicate (8 - length text) false
last_places text whole b few is here =
    here ∙ ap places_of_text is ∙ map-append (λ (c : ℕ). c == 49) text (replicate (8 - length text) 48)
    ∙ ap (λ (xs : List Bool). places_of_text text ++ xs) (zeros (8 - length text))

-- no character is left
pub pack_whole : (i k : ℕ) (bs text rest : List ℕ) → i ≡ k → k ≡ length text / 8 → rest ≡ drop (length text / 8 * 8) text → length rest ≡ 0 → length bs ≡ i → unpacked bs ≡ places_of_text (take (8 * i) text)
    → Packs (places_of_text text) bs
pack_whole i k bs text rest ends count is none long so_far =
    let sized : length text ≡ 8 * i = omega (arith, ends, count, none, ap (λ (l : List ℕ). length l) is, length-drop (length text / 8 * 8) text) in
    let mapped : length (places_of_text text) ≡ length text = length-map text (λ (c : ℕ). c == 49) in
    let zero_more : 0 ≡ 8 * length bs - length (places_of_text text) = omega (arith, sized, mapped, long) in
    record {
      long = omega (arith, sized, mapped, long);
      spelled =
          so_far ∙ ap places_of_text (ap (λ (n : ℕ). take n text) (sym sized) ∙ take-length text)
          ∙ sym (append-nil (places_of_text text))
          ∙ ap (λ (n : ℕ). places_of_text text ++ replicate n false) zero_more;
    }

-- some characters are left for a last byte
pub pack_rest : (i k b : ℕ) (bs new text rest : List ℕ) → i ≡ k → k ≡ length text / 8 → rest ≡ drop (length text / 8 * 8) text → 0 < length rest → length rest ≡ length text % 8 → length bs ≡ i → new ≡ bs ++ b ∷ []
    → unpacked bs ≡ places_of_text (take (8 * i) text) → places 8 b ≡ places_of_text rest ++ replicate (8 - length rest) false → Packs (places_of_text text) new
pack_rest i k b bs new text rest ends count is some left long pushed so_far here =
    let mapped : length (places_of_text text) ≡ length text = length-map text (λ (c : ℕ). c == 49) in
    let sized : length text ≡ 8 * i + length rest = omega (arith, ends, count, left) in
    let one_more : length new ≡ i + 1 = ap (λ (l : List ℕ). length l) pushed ∙ omega (arith, length-append bs (b ∷ []), long) in
    let fill : 8 - length rest ≡ 8 * length new - length (places_of_text text) = omega (arith, sized, mapped, one_more, left) in
    let start : length text / 8 * 8 ≡ 8 * i = omega (arith, ends, count) in
    let whole : take (8 * i) text ++ rest ≡ text = ap (λ (l : List ℕ). take (8 * i) text ++ l) (is ∙ ap (λ (n : ℕ). drop n text) start) ∙ take-append-drop (8 * i) text in
    record {
      long = omega (arith, sized, mapped, one_more, some, left);
      spelled =
          ap unpacked pushed
          ∙ unpacked-push bs b (places_of_text (take (8 * i) text)) (places_of_text rest ++ replicate (8 - length rest) false) so_far here
          ∙ sym (append_assoc (places_of_text (take (8 * i) text)) (places_of_text rest) (replicate (8 - length rest) false))
          ∙ ap₂ (λ (xs : List Bool) (n : ℕ). xs ++ replicate n false)
          (sym (map-append (λ (c : ℕ). c == 49) (take (8 * i) text) rest) ∙ ap places_of_text whole) fill;
    }

-- ---- reading

pub pushed_long : (bs new : List ℕ) (b i : ℕ) → new ≡ bs ++ b ∷ [] → length bs ≡ i → length new ≡ i + 1
pushed_long bs new b i pushed long = ap (λ (l : List ℕ). length l) pushed ∙ omega (arith, length-append bs (b ∷ []), long)

-- at most 64,000 bytes of a text
pub front_of : (end : ℕ) (text bytes : List ℕ) → bytes ≡ text → end ≡ min 64000 (length bytes) → take end bytes ≡ take 64000 text
front_of end text bytes is least = ap (λ (n : ℕ). take n bytes) least ∙ take_min 64000 bytes ∙ ap (λ (l : List ℕ). take 64000 l) is
