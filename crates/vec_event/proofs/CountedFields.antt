-- Fields that begin with a count are read as they are spelled.
use Rattle.std.proofs.Common.{◌≡◌, ℕ, zero, suc, ◌+◌, ◌*◌, ◌/◌, ◌<◌, ◌≤◌, ◌^◌, List, [], ◌∷◌, ◌++◌, length, get_or, refl, sym, ap, subst, ◌∙◌, arith, lit<, lit≤}
use Rattle.std.specs.Prelude.{⊤, All}
use Rattle.std.specs.List.{flat_map, AllByRecursion}
use Rattle.std.specs.Int.{w16, w32, to_le_bytes}
use Rattle.std.proofs.lemmas.List.{get_or_default}
use Rattle.std.proofs.lemmas.List.Concat.{flat_map-cons}
use Rattle.std.proofs.lemmas.List.Elements.{All-from_recursion, recursion_from_All}
use Rattle.bit_code.specs.Places.{packed}
use Rattle.vec_names.specs.Pointer.{tid_option_bytes}
use Rattle.vec_event.specs.Spelling.{bits_bytes, lists_bytes, offsets_bytes, AreBits, RisesFrom}
use Rattle.vec_event.specs.Reading.{rising, two_bytes_above, bits, lists, offsets}
use Rattle.byte_fields.proofs.FieldLaws.{IsField, no_bytes_law, next_law, depending_law, wider}
use Rattle.byte_fields.proofs.EachField.{no_more, times_field, optional_place_field, two_bytes_field, four_bytes_field, packed_field}
use Rattle.byte_fields.specs.Reading.{times, optional_place, two_bytes_from, four_bytes_from, packed_places}
use Rattle.vec_event.proofs.EachField.{above_field}

-- ---- bit values

pub bits_field : IsField ⊥ bits bits_bytes AreBits (4 + 8000)
unfolding bits
bits_field =
    depending_law (four_bytes_from 1 64000) packed_places (four_bytes_field 1 64000 (lit≤ tt) (lit< tt)) (λ n p. wider ((n + 7) / 8) 8000 (omega (arith, p.1)) (packed_field n p.0 p.1)) bits_bytes AreBits
    (λ e fits. (length e, fits, refl, refl))
    (λ n xs p q. (subst (λ k. (1 ≤ k) × (k ≤ 64000)) (sym q) p, ap (λ k. to_le_bytes w32 k ++ packed xs) q))

-- ---- lists of optional places

any_fits : {A : Type 0} (v : List A) → AllByRecursion (λ _. ⊤) v
any_fits [] = tt
any_fits (x ∷ v) = (tt, any_fits v)

pub lists_field : IsField ⊥ lists lists_bytes (λ v. length v ≤ 1358) (2 + 1358 * 6)
unfolding lists
lists_field =
    depending_law (two_bytes_from 0 1358) (times optional_place) (two_bytes_field 0 1358 (lit≤ tt) (lit< tt))
    (λ n p. wider (n * 6) (1358 * 6) (omega (arith, p.1)) (times_field optional_place tid_option_bytes (λ _. ⊤) 6 optional_place_field n)) lists_bytes (λ v. length v ≤ 1358)
    (λ e fits. (length e, (omega arith, fits), (refl, any_fits e), refl))
    (λ n v p q. (subst (λ k. k ≤ 1358) (sym q.0) p.1, ap (λ k. to_le_bytes w16 k ++ flat_map tid_option_bytes v) q.0))

-- ---- offsets that rise

-- each offset is above the one before, and fits two bytes
abbrev pub Offsets : ℕ → List ℕ → Type 0
Offsets low [] = ⊤
Offsets low (x ∷ xs) = ((low < x) × (x < 2 ^ 16)) × Offsets x xs

rising_more : (n low : ℕ) (v : List ℕ) → (length v ≡ suc n) × Offsets low v → (x : ℕ) × (xs : List ℕ) × (v ≡ x ∷ xs) × ((low < x) × (x < 2 ^ 16)) × (length xs ≡ n) × Offsets x xs
rising_more n low [] p = absurd (omega (arith, p.0))
rising_more n low (x ∷ xs) p = (x, xs, refl, p.1.0, omega (arith, p.0), p.1.1)

rising_field : (n low : ℕ) → IsField ⊥ (rising low n) (flat_map (to_le_bytes w16)) (λ v. (length v ≡ n) × Offsets low v) (n * 2)
unfolding rising
rising_field zero low =
    wider 0 (0 * 2) (omega arith) (no_bytes_law (rising low zero) [] (flat_map (to_le_bytes w16)) (λ v. (length v ≡ 0) × Offsets low v) (λ bytes. refl) refl (refl, tt) (λ v p. no_more v p.0))
rising_field (suc n) low =
    wider (2 + n * 2) (suc n * 2) (omega arith) (next_law (λ v vs. v ∷ vs) (two_bytes_above low) (λ v. rising v n) (above_field low) (λ v _. rising_field n v) (flat_map (to_le_bytes w16)) (λ v. (length v ≡ suc n) × Offsets low v)
    (λ e p. let m = rising_more n low e p in (m.0, m.1, sym m.2, m.3, (m.4, m.5), ap (flat_map (to_le_bytes w16)) m.2 ∙ flat_map-cons (to_le_bytes w16) m.0 m.1))
    (λ v vs p q. ((ap suc q.0, (p, q.1)), flat_map-cons (to_le_bytes w16) v vs)))

few_offsets : (low : ℕ) (v : List ℕ) → low < 2 ^ 16 → Offsets low v → low + length v < 2 ^ 16
few_offsets low [] small p = omega arith
few_offsets low (x ∷ xs) small p = omega (arith, p.0.0, few_offsets x xs p.0.1 p.1)

pub offsets_field : IsField ⊥ offsets offsets_bytes (λ v. (1 ≤ length v) × Offsets 0 v) (2 + 65535 * 2)
unfolding offsets
offsets_field =
    depending_law (two_bytes_from 1 65535) (rising 0) (two_bytes_field 1 65535 (lit≤ tt) (lit< tt)) (λ n p. wider (n * 2) (65535 * 2) (omega (arith, p.1)) (rising_field n 0)) offsets_bytes (λ v. (1 ≤ length v) × Offsets 0 v)
    (λ e fits. (length e, (fits.0, omega (arith, few_offsets 0 e (lit< tt) fits.1)), (refl, fits.1), refl))
    (λ n v p q. ((subst (λ k. 1 ≤ k) (sym q.0) p.0, q.1), ap (λ k. to_le_bytes w16 k ++ flat_map (to_le_bytes w16) v) q.0))

-- ---- offsets as the events' definitions speak of them

Offsets-by_recursion : (low : ℕ) (v : List ℕ) → RisesFrom low v → AllByRecursion (λ off. off < 2 ^ 16) v → Offsets low v
Offsets-by_recursion low [] rises small = tt
Offsets-by_recursion low (x ∷ xs) rises small = ((rises.0, small.0), Offsets-by_recursion x xs rises.1 small.1)

pub Offsets-from : (v : List ℕ) → RisesFrom 0 v → All (λ off. off < 2 ^ 16) v → Offsets 0 v
Offsets-from v rises small = Offsets-by_recursion 0 v rises (recursion_from_All (λ off. off < 2 ^ 16) v small)

small_by_recursion : (low : ℕ) (v : List ℕ) → Offsets low v → AllByRecursion (λ off. off < 2 ^ 16) v
small_by_recursion low [] p = tt
small_by_recursion low (x ∷ xs) p = (p.0.1, small_by_recursion x xs p.1)

pub small_offsets : (v : List ℕ) → Offsets 0 v → All (λ off. off < 2 ^ 16) v
small_offsets v p = All-from_recursion (λ off. off < 2 ^ 16) v (small_by_recursion 0 v p)

pub rising_offsets : (low : ℕ) (v : List ℕ) → Offsets low v → RisesFrom low v
rising_offsets low [] p = tt
rising_offsets low (x ∷ xs) p = (p.0.0, rising_offsets x xs p.1)

pub few_rising : (v : List ℕ) → RisesFrom 0 v → All (λ off. off < 2 ^ 16) v → length v < 2 ^ 16
few_rising v rises small = omega (arith, few_offsets 0 v (lit< tt) (Offsets-from v rises small))

-- offsets of two bytes each that rise are less than 2 ^ 16 in number
pub few_offsets_at : (v : List ℕ) → RisesFrom 0 v → ((i : ℕ) → get_or v i 0 < 2 ^ 16) → length v < 2 ^ 16
few_offsets_at v rises small = few_rising v rises (λ k d lt. rw (get_or_default v k d 0 lt) (small k))
