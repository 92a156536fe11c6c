-- The places of an element's rows are read as they are spelled, one after the other.
use Rattle.std.specs.Prelude.{⊤}
use Rattle.std.proofs.Common.{◌≡◌, ℕ, zero, suc, ◌+◌, ◌*◌, ◌-◌, ◌<◌, ◌≤◌, Bool, true, false, List, [], ◌∷◌, ◌++◌, length, take, drop, Option, Some, None, ◌==◌, ◌&&◌, nat_eq, refl, sym, ap, ap₂, ◌∙◌, append_assoc, add-one, take_at, arith}
use Rattle.std.specs.Prelude.{slice_get}
use Rattle.std.specs.Cmp.Lexicographic.{pointwise}
use Rattle.std.proofs.lemmas.Bool.{eqb-true}
use Rattle.std.specs.Option.{option_to_list, is_none}
use Rattle.std.proofs.lemmas.List.{length-append, append-nil, drop_all}
use Rattle.vec_names.specs.declared.heap_id.HeapId.{HeapId}
use Rattle.vec_names.specs.Pointer.{heap_id_option_bytes, pointer_bytes}
use Rattle.vec_tuples.specs.Spelling.{rows_bytes, IsEmptyIf}
use Rattle.vec_tuples.specs.Reading.{row_of, rows}
use Rattle.vec_tuples.specs.declared.rows.TheConstants.{NO_ROWS}
use Rattle.byte_fields.proofs.FieldLaws.{IsField, next_law, no_bytes_law, wider}
use Rattle.vec_tuples.proofs.EachField.{optional_row_field, no_row_field, length-heap_id_option_bytes}
use Rattle.vec_tuples.proofs.SlotPlaces.{six_more}
use Rattle.byte_fields.specs.declared.stop.Stop.{Stop}
use Rattle.byte_fields.specs.Answers.{stopped}
use Rattle.byte_fields.proofs.Loops.{with_front, all_read, goes_on, stops}
use Rattle.byte_fields.specs.Reading.{Read, Got, ◌>>=◌}

-- ---- one place

abbrev pub IsNoneIf : Bool → Option HeapId → Type 0
IsNoneIf false row = ⊤
IsNoneIf true row = row ≡ None

row_field : (closed : Bool) → IsField ⊤ (row_of closed) heap_id_option_bytes (IsNoneIf closed) 6
unfolding row_of
row_field false = optional_row_field
row_field true = no_row_field

-- ---- so many places

abbrev pub AreRows : Bool → ℕ → List HeapId → Type 0
AreRows closed n ids = (length ids ≤ n) × IsEmptyIf closed ids

no_rows : (closed : Bool) → IsEmptyIf closed []
no_rows false = tt
no_rows true = refl

none_is_none : (closed : Bool) → IsNoneIf closed None
none_is_none false = tt
none_is_none true = refl

nothing : (closed : Bool) (ids : List HeapId) → AreRows closed 0 ids → ids ≡ []
nothing closed [] fits = refl
nothing closed (id ∷ ids) fits = absurd (omega (arith, fits.0))

-- the first place and the others
apart : (closed : Bool) (n : ℕ) (ids : List HeapId) → AreRows closed (suc n) ids
    → (row : Option HeapId) × (others : List HeapId) × (option_to_list row ++ others ≡ ids) × IsNoneIf closed row × AreRows (is_none row) n others
    × (rows_bytes (suc n) ids ≡ heap_id_option_bytes row ++ rows_bytes n others)
unfolding rows_bytes
apart closed n [] fits = (None, [], refl, none_is_none closed, (omega arith, refl), refl)
apart false n (id ∷ ids) fits = (Some id, ids, refl, tt, (omega (arith, fits.0), tt), refl)
apart true n (id ∷ ids) fits = let e = fits.1 in absurd cc

together : (closed : Bool) (n : ℕ) (row : Option HeapId) (others : List HeapId) → IsNoneIf closed row → AreRows (is_none row) n others
    → AreRows closed (suc n) (option_to_list row ++ others) × (rows_bytes (suc n) (option_to_list row ++ others) ≡ heap_id_option_bytes row ++ rows_bytes n others)
unfolding rows_bytes
together closed n None others none fits = rw fits.1 ((omega arith, no_rows closed), refl)
together false n (Some id) others none fits = ((omega (arith, fits.0), tt), refl)
together true n (Some id) others none fits = absurd cc

pub rows_field : (n : ℕ) (closed : Bool) → IsField ⊤ (rows closed n) (rows_bytes n) (AreRows closed n) (n * 6)
unfolding rows rows_bytes
rows_field zero closed = wider 0 (0 * 6) (omega arith) (no_bytes_law (rows closed zero) [] (rows_bytes zero) (AreRows closed zero) (λ bytes. refl) refl (omega arith, no_rows closed) (nothing closed))
rows_field (suc n) closed =
    wider (6 + n * 6) (suc n * 6) (omega arith)
    (next_law (λ row ids. option_to_list row ++ ids) (row_of closed) (λ row. rows (is_none row) n) (row_field closed) (λ row _. rows_field n (is_none row)) (rows_bytes (suc n)) (AreRows closed (suc n))
    (apart closed n)
    (λ row others none fits. together closed n row others none fits))

-- ---- read by a loop

rows_next : (closed : Bool) (n i : ℕ) (bytes : List ℕ) → i < n
    → rows closed (n - i) bytes ≡ row_of closed bytes >>= λ row rest. rows (is_none row) (n - (i + 1)) rest >>= λ ids rest'. Got (option_to_list row ++ ids) rest'
unfolding rows
rows_next closed n i bytes lt =
    let more : n - i ≡ suc (n - (i + 1)) = omega arith in
    rw more refl

module _ (front : List HeapId) (closed : Bool) (n i : ℕ) (bytes : List ℕ) (total : Read (List HeapId)) (so_far : with_front front (rows closed (n - i) bytes) ≡ total) where
  pub rows_go_on : (row : Option HeapId) (rest : List ℕ) → i < n → row_of closed bytes ≡ Got row rest → with_front (front ++ option_to_list row) (rows (is_none row) (n - (i + 1)) rest) ≡ total
  rows_go_on row rest lt is = goes_on (row_of closed bytes) (λ row. option_to_list row) (λ row. rows (is_none row) (n - (i + 1))) front (rows closed (n - i) bytes) total (rows_next closed n i bytes lt) so_far row rest is

  pub rows_stop : (stop : Stop) → i < n → row_of closed bytes ≡ stopped stop → total ≡ stopped stop
  rows_stop stop lt is = stops (row_of closed bytes) (λ row. option_to_list row) (λ row. rows (is_none row) (n - (i + 1))) front (rows closed (n - i) bytes) total (rows_next closed n i bytes lt) so_far stop is

  pub rows_done : n ≤ i → total ≡ Got front bytes
  unfolding rows
  rows_done le =
      let none : n - i ≡ 0 = omega arith in
      all_read front bytes _ total (rw none refl) so_far

-- ---- written by a loop

pub length-rows_bytes : (n : ℕ) (ids : List HeapId) → length (rows_bytes n ids) ≡ 6 * n
unfolding rows_bytes
length-rows_bytes zero ids = refl
length-rows_bytes (suc n) [] = length-append (heap_id_option_bytes None) (rows_bytes n []) ∙ omega (arith, length-heap_id_option_bytes None, length-rows_bytes n [])
length-rows_bytes (suc n) (id ∷ ids) = length-append (heap_id_option_bytes (Some id)) (rows_bytes n ids) ∙ omega (arith, length-heap_id_option_bytes (Some id), length-rows_bytes n ids)

-- ---- places without a row, looked at together

both_true : (x y : ℕ) (xs ys : List ℕ) (b : Bool) → (x == y) ≡ b → (pointwise nat_eq xs ys ≡ true → xs ≡ ys) → (b && pointwise nat_eq xs ys) ≡ true
    → x ∷ xs ≡ y ∷ ys
both_true x y xs ys true same rest is = ap₂ (λ (z : ℕ) (zs : List ℕ). z ∷ zs) (eqb-true x y same) (rest is)
both_true x y xs ys false same rest is = absurd cc

pub same_bytes : (xs ys : List ℕ) → pointwise nat_eq xs ys ≡ true → xs ≡ ys
same_bytes [] [] is = refl
same_bytes [] (y ∷ ys) is = absurd cc
same_bytes (x ∷ xs) [] is = absurd cc
same_bytes (x ∷ xs) (y ∷ ys) is = both_true x y xs ys (x == y) refl (same_bytes xs ys) is

unary : (k : ℕ) → 0 + k ≡ k
unary k = omega arith

none_parts : (n k : ℕ) → rows_bytes (n + k) [] ≡ rows_bytes n [] ++ rows_bytes k []
unfolding rows_bytes
none_parts zero k = ap (λ n. rows_bytes n []) (unary k)
none_parts (suc n) k =
    let more : suc n + k ≡ suc (n + k) = omega arith in
    ap (λ m. rows_bytes m []) more ∙ ap (λ l. heap_id_option_bytes None ++ l) (none_parts n k) ∙ sym (append_assoc (heap_id_option_bytes None) (rows_bytes n []) (rows_bytes k []))

pub ten_none : NO_ROWS ≡ rows_bytes 10 []
unfolding rows_bytes pointer_bytes
ten_none = refl

none_taken : (n : ℕ) (ten : List ℕ) → n ≤ 10 → ten ≡ rows_bytes 10 [] → take (6 * n) ten ≡ rows_bytes n []
none_taken n ten le is =
    let ten_is : 10 ≡ n + (10 - n) = omega arith in
    let parts : ten ≡ rows_bytes n [] ++ rows_bytes (10 - n) [] = is ∙ ap (λ k. rows_bytes k []) ten_is ∙ none_parts n (10 - n) in
    ap (λ l. take (6 * n) l) parts ∙ take_at (rows_bytes n []) (rows_bytes (10 - n) []) (6 * n) (length-rows_bytes n [])

pub none_behind : (n : ℕ) (ten bytes front rest : List ℕ) → n ≤ 10 → ten ≡ rows_bytes 10 [] → bytes ≡ front ++ rest → front ≡ take (6 * n) ten
    → rows true n bytes ≡ Got [] rest
none_behind n ten bytes front rest le is parts same =
    let b : bytes ≡ rows_bytes n [] ++ rest = parts ∙ ap (λ l. l ++ rest) (same ∙ none_taken n ten le is) in
    ap (λ l. rows true n l) b ∙ (rows_field n true).again [] rest (omega arith, refl)

rows_more : (at : ℕ) (ids : List HeapId) → rows_bytes (suc at) ids ≡ rows_bytes at ids ++ heap_id_option_bytes (slice_get ids at)
unfolding rows_bytes
rows_more zero [] = append-nil (heap_id_option_bytes None)
rows_more zero (id ∷ ids) = append-nil (heap_id_option_bytes (Some id))
rows_more (suc at) [] = ap (λ (t : List ℕ). heap_id_option_bytes None ++ t) (rows_more at []) ∙ sym (append_assoc (heap_id_option_bytes None) (rows_bytes at []) (heap_id_option_bytes None))
rows_more (suc at) (id ∷ ids) = ap (λ (t : List ℕ). heap_id_option_bytes (Some id) ++ t) (rows_more at ids) ∙ sym (append_assoc (heap_id_option_bytes (Some id)) (rows_bytes at ids) (heap_id_option_bytes (slice_get ids at)))

-- one more place is written behind those before it
pub rows_written : (ids : List HeapId) (at : ℕ) (old bytes : List ℕ) → bytes ≡ rows_bytes at ids ++ drop (6 * at) old
    → take (6 * at) bytes ++ (heap_id_option_bytes (slice_get ids at) ++ drop (6 * at + 6) bytes) ≡ rows_bytes (at + 1) ids ++ drop (6 * (at + 1)) old
rows_written ids at old bytes so_far =
    six_more (rows_bytes at ids) at old bytes (heap_id_option_bytes (slice_get ids at)) (length-rows_bytes at ids) so_far
    ∙ ap (λ (t : List ℕ). t ++ drop (6 * (at + 1)) old) (sym (ap (λ n. rows_bytes n ids) (add-one at) ∙ rows_more at ids))

pub none_written : (ids : List HeapId) (old : List ℕ) → old ≡ rows_bytes 0 ids ++ old
unfolding rows_bytes
none_written ids old = refl

-- and behind the last of ten none is left
pub all_written : (ids : List HeapId) (old bytes : List ℕ) → length old ≡ 60 → bytes ≡ rows_bytes 10 ids ++ drop 60 old → bytes ≡ rows_bytes 10 ids
all_written ids old bytes long so_far =
    so_far ∙ ap (λ (t : List ℕ). rows_bytes 10 ids ++ t) (drop_all 60 old (omega (arith, long))) ∙ append-nil (rows_bytes 10 ids)

pub one_at_most : (front : List HeapId) (row : Option HeapId) (n : ℕ) → length front ≤ n → length (front ++ option_to_list row) ≤ n + 1
one_at_most front None n few = rw (append-nil front) (omega (arith, few))
one_at_most front (Some id) n few = omega (arith, few, length-append front (id ∷ []))
