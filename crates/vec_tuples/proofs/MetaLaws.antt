-- The meta tuple is read as it is spelled.
use Rattle.std.specs.Prelude.{⊤}
use Rattle.std.proofs.Common.{◌≡◌, ℕ, ◌*◌, Bool, true, false, cond, eqb, List, [], ◌∷◌, ◌++◌, length, Option, Some, None, refl, sym, ap, ◌∙◌, arith, lit≤, lit<}
use Rattle.std.specs.Prelude.{slice_index}
use Rattle.std.specs.Int.{w16, w32, to_le_bytes}
use Rattle.std.proofs.lemmas.Bool.{eqb-true, eq-eqb}
use Rattle.vec_names.specs.declared.tid.Tid.{Tid}
use Rattle.vec_names.specs.declared.params.Kind.{Kind}
use Rattle.vec_names.specs.declared.params.Kind.TheVariants.{Hnsw, Ivf}
use Rattle.vec_names.specs.declared.params.Ops.{Ops}
use Rattle.vec_names.specs.declared.params.Ops.TheVariants.{Hamming, Jaccard}
use Rattle.vec_names.specs.declared.params.Params.{Params}
use Rattle.vec_names.specs.Params.{IsInRange, IsInRangeOf}
use Rattle.vec_names.specs.Pointer.{tid_option_bytes}
use Rattle.vec_tuples.specs.Spelling.{magic, kind_byte, ops_byte, params_bytes, meta_bytes, IsLevelOf, IsEntryOf, IsHintOf, IsMeta}
use Rattle.vec_tuples.specs.Reading.{kind_in, kind, ops_in, ops_of, m_of, ef_of, lists_of, params, entry_of, hint_of, meta}
use Rattle.byte_fields.proofs.FieldLaws.{IsField, field_law, viewed_law, after_law, then_law}
use Rattle.byte_fields.proofs.EachField.{FitsLevel, level_field, some_is, IsFrom, one_byte, byte_field, two_bytes_field, four_bytes_field, optional_place_field, no_place_field}

-- ---- kinds and distances

single : {A : Type 0} (meant : ℕ → Option A) (code : A → ℕ) (bytes : List ℕ) (v : A) → ((b : ℕ) → meant b ≡ Some v → b ≡ code v) → length bytes ≡ 1 → meant (slice_index bytes 0) ≡ Some v → bytes ≡ one_byte (code v)
single meant code [] v only len is = absurd (omega arith)
single meant code (x ∷ y ∷ rest) v only len is = absurd (omega arith)
single meant code (x ∷ []) v only len is = ap one_byte (only x is)

two_codes : {A : Type 0} (code : A → ℕ) (one two v : A) (byte : ℕ) (p q : Bool) → eqb byte 1 ≡ p → eqb byte 2 ≡ q → code one ≡ 1 → code two ≡ 2 → cond p (Some one) (cond q (Some two) None) ≡ Some v → byte ≡ code v
two_codes code one two v byte true q is1 is2 c1 c2 is = eqb-true byte 1 is1 ∙ sym c1 ∙ ap code (some_is one v is)
two_codes code one two v byte false true is1 is2 c1 c2 is = eqb-true byte 2 is2 ∙ sym c2 ∙ ap code (some_is two v is)
two_codes code one two v byte false false is1 is2 c1 c2 is = absurd cc

one_code : {A : Type 0} (code : A → ℕ) (one v : A) (byte : ℕ) (p : Bool) → eqb byte 1 ≡ p → code one ≡ 1 → cond p (Some one) None ≡ Some v → (byte ≡ code v) × (v ≡ one)
one_code code one v byte true is1 c1 is = (eqb-true byte 1 is1 ∙ sym c1 ∙ ap code (some_is one v is), sym (some_is one v is))
one_code code one v byte false is1 c1 is = absurd cc

kind_again : (k : Kind) → kind_in (kind_byte k) ≡ Some k
unfolding kind_in
kind_again Hnsw = refl
kind_again Ivf = refl

kind_only : (k : Kind) (byte : ℕ) → kind_in byte ≡ Some k → byte ≡ kind_byte k
unfolding kind_in
kind_only k byte is = two_codes kind_byte Hnsw Ivf k byte _ _ refl refl refl refl is

kind_field : IsField ⊤ kind (λ k. one_byte (kind_byte k)) (λ _. ⊤) 1
unfolding kind
kind_field = field_law ⊤ 1 (λ b. kind_in (slice_index b 0)) (λ k. one_byte (kind_byte k)) (λ _. ⊤) (record {
  some = lit≤ tt;
  inhabited = λ _. (Hnsw, tt);
  long = λ k _. refl;
  meant_by = λ k _. kind_again k;
  only = λ bytes k len bs is. (single kind_in kind_byte bytes k (kind_only k) len is, tt);
})

abbrev IsOpsOf : Kind → Ops → Type 0
IsOpsOf Hnsw ops = Unit {0}
IsOpsOf Ivf ops = ops ≡ Hamming

ops_again : (k : Kind) (o : Ops) → IsOpsOf k o → ops_in k (ops_byte o) ≡ Some o
unfolding ops_in
ops_again Hnsw Hamming fits = refl
ops_again Hnsw Jaccard fits = refl
ops_again Ivf o fits = rw fits refl

ops_only : (k : Kind) (o : Ops) (byte : ℕ) → ops_in k byte ≡ Some o → (byte ≡ ops_byte o) × IsOpsOf k o
unfolding ops_in
ops_only Hnsw o byte is = (two_codes ops_byte Hamming Jaccard o byte _ _ refl refl refl refl is, tt)
ops_only Ivf o byte is = one_code ops_byte Hamming o byte _ refl refl is

hamming_of : (k : Kind) → IsOpsOf k Hamming
hamming_of Hnsw = tt
hamming_of Ivf = refl

ops_field : (k : Kind) → IsField ⊤ (ops_of k) (λ o. one_byte (ops_byte o)) (IsOpsOf k) 1
unfolding ops_of
ops_field k = field_law ⊤ 1 (λ b. ops_in k (slice_index b 0)) (λ o. one_byte (ops_byte o)) (IsOpsOf k) (record {
  some = lit≤ tt;
  inhabited = λ _. (Hamming, hamming_of k);
  long = λ o _. refl;
  meant_by = λ o fits. ops_again k o fits;
  only = λ bytes o len bs is. (single (ops_in k) ops_byte bytes o (λ b e. (ops_only k o b e).0) len is, (ops_only k o (slice_index bytes 0) is).1);
})

-- ---- the numbers of each kind

abbrev IsMOf : Kind → ℕ → Type 0
IsMOf Hnsw m = IsFrom 2 100 m
IsMOf Ivf m = IsFrom 0 0 m

m_field : (k : Kind) → IsField ⊤ (m_of k) (to_le_bytes w16) (IsMOf k) 2
unfolding m_of
m_field Hnsw = two_bytes_field 2 100 (lit≤ tt) (lit< tt)
m_field Ivf = two_bytes_field 0 0 (lit≤ tt) (lit< tt)

abbrev IsEfOf : Kind → ℕ → ℕ → Type 0
IsEfOf Hnsw m ef = IsFrom (2 * m) 1000 ef
IsEfOf Ivf m ef = IsFrom 0 0 ef

ef_field : (k : Kind) (m : ℕ) → IsMOf k m → IsField ⊤ (ef_of k m) (to_le_bytes w16) (IsEfOf k m) 2
unfolding ef_of
ef_field Hnsw m p = two_bytes_field (2 * m) 1000 (omega (arith, p.1)) (lit< tt)
ef_field Ivf m p = two_bytes_field 0 0 (lit≤ tt) (lit< tt)

abbrev IsCountOf : Kind → ℕ → Type 0
IsCountOf Hnsw lists = IsFrom 0 0 lists
IsCountOf Ivf lists = IsFrom 1 32768 lists

lists_field : (k : Kind) → IsField ⊤ (lists_of k) (to_le_bytes w32) (IsCountOf k) 4
unfolding lists_of
lists_field Hnsw = four_bytes_field 0 0 (lit≤ tt) (lit< tt)
lists_field Ivf = four_bytes_field 1 32768 (lit≤ tt) (lit< tt)

-- what the fields hold, kind by kind
abbrev FieldsFit : Params → Type 0
FieldsFit p = IsOpsOf p.kind p.ops × IsFrom 1 64000 p.bits × (IsMOf p.kind p.m × IsEfOf p.kind p.m p.ef × IsCountOf p.kind p.lists)

fits_range : (k : Kind) (p : Params) → IsOpsOf k p.ops → IsMOf k p.m → IsEfOf k p.m p.ef → IsCountOf k p.lists → IsInRangeOf k p
fits_range Hnsw p ops m ef lists = record {
  m_low = m.0;
  m_high = m.1;
  ef_low = omega (arith, m.0, ef.0);
  ef_high = ef.1;
  ef_twice_m = ef.0;
  no_lists = omega (arith, lists.1);
}
fits_range Ivf p ops m ef lists = record {
  hamming = ops;
  lists_low = lists.0;
  lists_high = lists.1;
  no_m = omega (arith, m.1);
  no_ef = omega (arith, ef.1);
}

range_fits : (k : Kind) (p : Params) → IsInRangeOf k p → IsOpsOf k p.ops × IsMOf k p.m × IsEfOf k p.m p.ef × IsCountOf k p.lists
range_fits Hnsw p r = (tt, (r.m_low, r.m_high), (r.ef_twice_m, r.ef_high), (omega arith, omega (arith, r.no_lists)))
range_fits Ivf p r = (r.hamming, (omega arith, omega (arith, r.no_m)), (omega arith, omega (arith, r.no_ef)), (r.lists_low, r.lists_high))

pub params_field : IsField ⊤ params params_bytes IsInRange 14
unfolding params
params_field =
    viewed_law _ _
    (after_law kind_field (λ k _. then_law (ops_field k) (then_law (four_bytes_field 1 64000 (lit≤ tt) (lit< tt)) (after_law (m_field k) (λ m p. then_law (ef_field k m p) (lists_field k))))))
    params_bytes IsInRange
    (λ p r.
    let f = range_fits p.kind p r.of_kind in
    ((p.kind, (p.ops, (p.bits, (p.m, (p.ef, p.lists))))), refl, (tt, (f.0, ((r.bits_low, r.bits_high), (f.1, (f.2, f.3))))), refl))
    (λ w f. (record { bits_low = f.1.1.0.0; bits_high = f.1.1.0.1; of_kind = fits_range w.0 _ f.1.0 f.1.1.1.0 f.1.1.1.1.0 f.1.1.1.1.1 }, refl))

-- ---- entry, level and hint

entry_field : (k : Kind) → IsField ⊤ (entry_of k) tid_option_bytes (IsEntryOf k) 6
unfolding entry_of
entry_field Hnsw = optional_place_field
entry_field Ivf = no_place_field

level_fits : (e : Option Tid) (level : ℕ) → IsLevelOf e level → FitsLevel e level
level_fits None level is = eqb-true level 0 is.0
level_fits (Some at) level is = is.1

fits_level : (e : Option Tid) (level : ℕ) → FitsLevel e level → IsLevelOf e level
fits_level None level fits = (eq-eqb level 0 fits, omega (arith, fits))
fits_level (Some at) level fits = (refl, fits)

abbrev FitsHint : Kind → ℕ → Type 0
FitsHint Hnsw hint = IsFrom 1 32768 hint
FitsHint Ivf hint = IsFrom 0 0 hint

hint_field : (k : Kind) → IsField ⊤ (hint_of k) (to_le_bytes w32) (FitsHint k) 4
unfolding hint_of
hint_field Hnsw = four_bytes_field 1 32768 (lit≤ tt) (lit< tt)
hint_field Ivf = four_bytes_field 0 0 (lit≤ tt) (lit< tt)

hint_fits : (k : Kind) (hint : ℕ) → IsHintOf k hint → FitsHint k hint
hint_fits Hnsw hint is = is
hint_fits Ivf hint is = (omega arith, omega (arith, is))

fits_hint : (k : Kind) (hint : ℕ) → FitsHint k hint → IsHintOf k hint
fits_hint Hnsw hint fits = fits
fits_hint Ivf hint fits = omega (arith, fits.1)

-- ---- the whole

-- the magic number and the zero are spelled as they were read
meta_text : (format : ℕ) (p : Params) (entry : Option Tid) (level hint read none : ℕ) → IsFrom magic magic read → IsFrom 0 0 none
    → to_le_bytes w32 magic ++ (to_le_bytes w16 format ++ (params_bytes p ++ (tid_option_bytes entry ++ (level ∷ 0 ∷ to_le_bytes w32 hint))))
    ≡ to_le_bytes w32 read ++ (to_le_bytes w16 format ++ (params_bytes p ++ (tid_option_bytes entry ++ (level ∷ none ∷ to_le_bytes w32 hint))))
meta_text format p entry level hint read none is zero =
    let e : read ≡ magic = omega (arith, is.0, is.1) in
    let z : none ≡ 0 = omega (arith, zero.1) in
    rw (e, z) refl

pub meta_field : IsField ⊤ meta meta_bytes IsMeta 32
unfolding meta meta_bytes
meta_field =
    viewed_law _ _
    (then_law (four_bytes_field magic magic (lit≤ tt) (lit< tt)) (then_law (two_bytes_field 1 2 (lit≤ tt) (lit< tt))
    (after_law params_field (λ p _. after_law (entry_field p.kind) (λ e _. then_law (level_field e) (then_law (byte_field 0 0 (lit≤ tt)) (hint_field p.kind)))))))
    meta_bytes IsMeta
    (λ m r. (
      (magic, (m.format, (m.params, (m.entry, (m.level, (0, m.hint)))))),
      refl,
      ((lit≤ tt, lit≤ tt), ((r.format_low, r.format_high), (r.params, (r.entry, (level_fits m.entry m.level r.level, ((lit≤ tt, lit≤ tt), hint_fits m.params.kind m.hint r.hint)))))),
      refl,
    ))
    (λ w f. (
      record {
        format_low = f.1.0.0;
        format_high = f.1.0.1;
        params = f.1.1.0;
        entry = f.1.1.1.0;
        level = fits_level w.1.1.1.0 w.1.1.1.1.0 f.1.1.1.1.0;
        hint = fits_hint w.1.1.0.kind w.1.1.1.1.1.1 f.1.1.1.1.1.1;
      },
      meta_text w.1.0 w.1.1.0 w.1.1.1.0 w.1.1.1.1.0 w.1.1.1.1.1.1 w.0 w.1.1.1.1.1.0 f.0 f.1.1.1.1.1.0,
    ))
