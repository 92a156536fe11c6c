-- Each field is read as it is spelled.
use Rattle.std.proofs.Common.{◌≡◌, ℕ, zero, suc, ◌+◌, ◌*◌, ◌/◌, ◌<◌, ◌≤◌, ◌^◌, Bool, true, false, not, ◌&&◌, leb, List, [], ◌∷◌, length, take, drop, Option, Some, None, refl, sym, ap, subst, ◌∙◌, arith, lit≤, lit<}
use Rattle.std.specs.Prelude.{slice_index, replicate, ⊤}
use Rattle.std.specs.List.{list_all, flat_map, AllByRecursion}
use Rattle.std.specs.Int.{w16, w32, to_le_bytes, from_le_bytes}
use Rattle.std.proofs.lemmas.Bool.{and_parts, and_from, leb-true, le-leb}
use Rattle.std.proofs.lemmas.List.{length-replicate}
use Rattle.std.proofs.lemmas.List.Concat.{flat_map-cons}
use Rattle.std.proofs.lemmas.Nat.{le_bytes_2, le_bytes_4, from_le_bytes-to_le_bytes_2, from_le_bytes-to_le_bytes_4}
use Rattle.bit_code.specs.Places.{unpacked, packed}
use Rattle.bit_code.proofs.ExactPacking.{length-packed, packed-Packed, unpacked-packed, packed-take, length-take}
use Rattle.vec_names.specs.declared.tid.Tid.{Tid}
use Rattle.vec_names.specs.Pointer.{tid_bytes, tid_option_bytes, heap_id_bytes, tid_in, tid_option_in, heap_id_in, block_in, off_in}
use Rattle.vec_names.proofs.Pointers.{length-pointer_bytes, pointer_bytes-back, tid_in-again, tid_of-spelled, tid_option_in-again, tid_option_of-spelled, heap_id_in-again, heap_id_of-spelled}
use Rattle.byte_fields.specs.Reading.{Reader, times, only_if, only_from, byte_from, two_bytes_from, four_bytes_from, place, optional_place, heap_id, level_beside, packed_places, none_alone, no_place, slot_of}
use Rattle.byte_fields.proofs.Clear.{clear_packed, packed_clear}
use Rattle.byte_fields.proofs.FieldLaws.{AreBytes, IsField, field_law, next_law, no_bytes_law, wider, fitting}

pub some_is : {A : Type 0} (x y : A) → Some x ≡ Some y → x ≡ y
some_is x y e = cc

pub told_only : {A : Type 0} (b : Bool) (v w : A) → only_if b v ≡ Some w → (b ≡ true) × (v ≡ w)
told_only true v w is = (refl, some_is v w is)
told_only false v w is = absurd cc

pub allowed : {A : Type 0} (b : Bool) (v : A) → b ≡ true → only_if b v ≡ Some v
allowed b v is = rw is refl

-- ---- numbers from low to high

abbrev pub IsFrom : ℕ → ℕ → ℕ → Type 0
IsFrom low high v = (low ≤ v) × (v ≤ high)

in_range : (low high v : ℕ) → IsFrom low high v → only_from low high v ≡ Some v
in_range low high v p = allowed _ v (and_from _ _ (le-leb low v p.0) (le-leb v high p.1))

range_of : (low high v w : ℕ) → only_from low high v ≡ Some w → (v ≡ w) × IsFrom low high w
range_of low high v w is =
    let t = told_only (leb low v && leb v high) v w is in
    let b = and_parts _ _ t.0 in
    (t.1, subst (IsFrom low high) t.1 (leb-true low v b.0, leb-true v high b.1))

abbrev pub one_byte : ℕ → List ℕ
one_byte v = v ∷ []

only_byte : (low high : ℕ) (bytes : List ℕ) (v : ℕ) → length bytes ≡ 1 → only_from low high (slice_index bytes 0) ≡ Some v → (bytes ≡ one_byte v) × IsFrom low high v
only_byte low high [] v len is = absurd (omega arith)
only_byte low high (x ∷ y ∷ rest) v len is = absurd (omega arith)
only_byte low high (x ∷ []) v len is = let r = range_of low high x v is in (ap one_byte r.0, r.1)

pub byte_field : {Live : Type 0} (low high : ℕ) → low ≤ high → IsField Live (byte_from low high) one_byte (IsFrom low high) 1
unfolding byte_from
byte_field {Live} low high some = field_law Live 1 (λ b. only_from low high (slice_index b 0)) one_byte (IsFrom low high) (record {
  some = lit≤ tt;
  long = λ v p. refl;
  meant_by = λ v p. in_range low high v p;
  only = λ bytes v len bs is. only_byte low high bytes v len is;
  inhabited = λ _. (low, (omega arith, some));
})

pub two_bytes_field : {Live : Type 0} (low high : ℕ) → low ≤ high → high < 2 ^ 16 → IsField Live (two_bytes_from low high) (to_le_bytes w16) (IsFrom low high) 2
unfolding two_bytes_from
two_bytes_field {Live} low high some small = field_law Live 2 (λ b. only_from low high (from_le_bytes w16 b)) (to_le_bytes w16) (IsFrom low high) (record {
  some = lit≤ tt;
  long = λ v p. refl;
  meant_by = λ v p. rw (from_le_bytes-to_le_bytes_2 v (omega (arith, p.1, small))) (in_range low high v p);
  only = λ bytes v len bs is. let r = range_of low high (from_le_bytes w16 bytes) v is in (sym (le_bytes_2 bytes v len bs (sym r.0)), r.1);
  inhabited = λ _. (low, (omega arith, some));
})

pub four_bytes_field : {Live : Type 0} (low high : ℕ) → low ≤ high → high < 2 ^ 32 → IsField Live (four_bytes_from low high) (to_le_bytes w32) (IsFrom low high) 4
unfolding four_bytes_from
four_bytes_field {Live} low high some small = field_law Live 4 (λ b. only_from low high (from_le_bytes w32 b)) (to_le_bytes w32) (IsFrom low high) (record {
  some = lit≤ tt;
  long = λ v p. refl;
  meant_by = λ v p. rw (from_le_bytes-to_le_bytes_4 v (omega (arith, p.1, small))) (in_range low high v p);
  only = λ bytes v len bs is. let r = range_of low high (from_le_bytes w32 bytes) v is in (sym (le_bytes_4 bytes v len bs (sym r.0)), r.1);
  inhabited = λ _. (low, (omega arith, some));
})

-- a level that may stand beside the place of an entry
abbrev pub FitsLevel : Option Tid → ℕ → Type 0
FitsLevel None v = v ≡ 0
FitsLevel (Some at) v = v < 2 ^ 8

pub level_field : {Live : Type 0} (entry : Option Tid) → IsField Live (level_beside entry) one_byte (FitsLevel entry) 1
unfolding level_beside
level_field None = fitting (λ v. v ≡ 0) (λ v p. omega (arith, p.1)) (λ v p. (omega arith, omega (arith, p))) (byte_field 0 0 (lit≤ tt))
level_field (Some at) = fitting (λ v. v < 2 ^ 8) (λ v p. omega (arith, p.1)) (λ v p. (omega arith, omega (arith, p))) (byte_field 0 255 (lit≤ tt))

-- ---- places and rows

pub length-tid_option_bytes : (o : Option Tid) → length (tid_option_bytes o) ≡ 6
length-tid_option_bytes None = length-pointer_bytes 0xFFFFFFFF 0
length-tid_option_bytes (Some t) = length-pointer_bytes t.block t.off

pub place_field : {Live : Type 0} → IsField Live place tid_bytes (λ _. ⊤) 6
unfolding place
place_field {Live} = field_law Live 6 tid_in tid_bytes (λ _. ⊤) (record {
  some = lit≤ tt;
  long = λ t _. length-pointer_bytes t.block t.off;
  meant_by = λ t _. tid_in-again t;
  only = λ bytes t len bs is. (sym (pointer_bytes-back bytes len bs) ∙ tid_of-spelled (block_in bytes) (off_in bytes) (Some t) (sym is), tt);
  inhabited = λ _. (record { block = 0; off = 1; within_blocks = lit≤ tt; counted_from_one = lit≤ tt; in_two_bytes = lit< tt }, tt);
})

optional_only : (bytes : List ℕ) (o : Option Tid) → length bytes ≡ 6 → AreBytes bytes → tid_option_in bytes ≡ Some o → bytes ≡ tid_option_bytes o
optional_only bytes o len bs is = sym (pointer_bytes-back bytes len bs) ∙ tid_option_of-spelled (block_in bytes) (off_in bytes) (Some o) (sym is)

pub optional_place_field : {Live : Type 0} → IsField Live optional_place tid_option_bytes (λ _. ⊤) 6
unfolding optional_place
optional_place_field {Live} = field_law Live 6 tid_option_in tid_option_bytes (λ _. ⊤) (record {
  some = lit≤ tt;
  long = λ o _. length-tid_option_bytes o;
  meant_by = λ o _. tid_option_in-again o;
  only = λ bytes o len bs is. (optional_only bytes o len bs is, tt);
  inhabited = λ _. (None, tt);
})

pub heap_id_field : {Live : Type 0} → IsField Live heap_id heap_id_bytes (λ _. ⊤) 6
unfolding heap_id
heap_id_field {Live} = field_law Live 6 heap_id_in heap_id_bytes (λ _. ⊤) (record {
  some = lit≤ tt;
  long = λ id _. length-pointer_bytes id.block id.off;
  meant_by = λ id _. heap_id_in-again id;
  only = λ bytes id len bs is. (sym (pointer_bytes-back bytes len bs) ∙ heap_id_of-spelled (block_in bytes) (off_in bytes) (Some id) (sym is), tt);
  inhabited = λ _. (record { block = 0; off = 1; within_blocks = lit< tt; counted_from_one = lit≤ tt; in_two_bytes = lit< tt }, tt);
})

-- ---- packed places

pub packed_field : {Live : Type 0} (count : ℕ) → 1 ≤ count → count ≤ 64000 → IsField Live (packed_places count) packed (λ xs. length xs ≡ count) ((count + 7) / 8)
unfolding packed_places
packed_field {Live} count some few =
    field_law Live ((count + 7) / 8) (λ b. only_if (list_all not (drop count (unpacked b))) (take count (unpacked b))) packed (λ xs. length xs ≡ count) (record {
      some = omega (arith, some);
      long = λ xs len. rw (← len) (length-packed xs);
      meant_by = λ xs len.
          let kept = packed-Packed xs (omega (arith, some, len)) (omega (arith, few, len)) in
          rw (← len) (allowed _ _ (clear_packed (length xs) (packed xs) kept) ∙ ap (λ ys. Some ys) (unpacked-packed xs));
      only = λ bytes xs len bs is.
          let t = told_only (list_all not (drop count (unpacked bytes))) (take count (unpacked bytes)) xs is in
          let kept = packed_clear count bytes some few len t.0 in
          (sym (packed-take count bytes kept bs) ∙ ap packed t.1, sym (ap (λ (ys : List Bool). length ys) t.1) ∙ length-take count bytes kept);
      inhabited = λ _. (replicate count false, length-replicate count false);
    })

-- ---- closed places

-- only that there is none was told
pub alone : {A : Type 0} (x : Option (Option A)) (o : Option A) → none_alone x ≡ Some o → (x ≡ Some o) × (o ≡ None)
unfolding none_alone
alone None o is = absurd cc
alone (Some None) o is = let e = some_is None o is in (ap (λ y. Some y) e, sym e)
alone (Some (Some t)) o is = absurd cc

pub none_told : {A : Type 0} → none_alone {A = A} (Some None) ≡ Some None
unfolding none_alone
none_told = refl

pub no_place_field : {Live : Type 0} → IsField Live no_place tid_option_bytes (λ o. o ≡ None) 6
unfolding no_place
no_place_field {Live} = field_law Live 6 (λ b. none_alone (tid_option_in b)) tid_option_bytes (λ o. o ≡ None) (record {
  some = lit≤ tt;
  long = λ o _. length-tid_option_bytes o;
  meant_by = λ o e. rw e (ap none_alone (tid_option_in-again None) ∙ none_told);
  only = λ bytes o len bs is.
      let a = alone (tid_option_in bytes) o is in
      (optional_only bytes o len bs a.0, a.1);
  inhabited = λ _. (None, refl);
})

-- a closed slot has no place
abbrev pub FitsSlot : Bool → Option Tid → Type 0
FitsSlot false slot = ⊤
FitsSlot true slot = slot ≡ None

pub slot_field : {Live : Type 0} (closed : Bool) → IsField Live (slot_of closed) tid_option_bytes (FitsSlot closed) 6
unfolding slot_of
slot_field false = optional_place_field
slot_field true = no_place_field

-- ---- so many values

module _ {A : Type 0} where
  pub no_more : (v : List A) → length v ≡ 0 → v ≡ []
  no_more [] e = refl
  no_more (x ∷ v) e = absurd (omega arith)

  -- so many values that fit
  abbrev pub AreSo : (A → Type 0) → ℕ → List A → Type 0
  AreSo Fits n v = (length v ≡ n) × AllByRecursion Fits v

  some_more : (Fits : A → Type 0) (n : ℕ) (v : List A) → AreSo Fits (suc n) v → (x : A) × (xs : List A) × (v ≡ x ∷ xs) × Fits x × AreSo Fits n xs
  some_more Fits n [] p = absurd (omega (arith, p.0))
  some_more Fits n (x ∷ xs) p = (x, xs, refl, p.1.0, (omega (arith, p.0), p.1.1))

  pub times_field : {Live : Type 0} (f : Reader A) (spell : A → List ℕ) (Fits : A → Type 0) (k : ℕ) → IsField Live f spell Fits k → (n : ℕ) → IsField Live (times f n) (flat_map spell) (AreSo Fits n) (n * k)
  unfolding times
  times_field f spell Fits k law zero = wider 0 (0 * k) (omega arith) (no_bytes_law (times f zero) [] (flat_map spell) (AreSo Fits zero) (λ bytes. refl) refl (refl, tt) (λ v p. no_more v p.0))
  times_field f spell Fits k law (suc n) =
      wider (k + n * k) (suc n * k) (omega arith) (next_law (λ v vs. v ∷ vs) f (λ _. times f n) law (λ _ _. times_field f spell Fits k law n) (flat_map spell) (AreSo Fits (suc n))
      (λ e p. let m = some_more Fits n e p in (m.0, m.1, sym m.2, m.3, m.4, ap (flat_map spell) m.2 ∙ flat_map-cons spell m.0 m.1))
      (λ v vs p q. ((ap suc q.0, (p, q.1)), flat_map-cons spell v vs)))
