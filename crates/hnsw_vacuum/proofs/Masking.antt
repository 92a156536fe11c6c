-- Masks of the dead.
use Rattle.std.proofs.Common.{◌≡◌, ℕ, zero, suc, ◌+◌, ◌*◌, ◌/◌, ◌%◌, ◌^◌, ◌<◌, ◌≤◌, Bool, true, false, List, [], ◌∷◌, ◌++◌, drop, length, slice_get, slice_index_or, Some, refl, sym, ap, subst, ◌∙◌, arith}
use Rattle.std.proofs.Math.Nat.{two-pow-succ}
use Rattle.std.proofs.lemmas.Nat.{pow_pos}
use Rattle.std.proofs.lemmas.Option.{same_Some, none-some}
use Rattle.vec_names.specs.declared.heap_id.HeapId.{HeapId}
use Rattle.hnsw_vacuum.specs.declared.judging.Mask.{Mask}
use Rattle.hnsw_vacuum.specs.Masks.{AreJudged, AreNamed, IsMaskOf, dead_in, mask_of, one_if}

pub as_long : (J : HeapId → Bool → Type 0) (ids : List HeapId) (bs : List Bool) → AreJudged J ids bs → length bs ≡ length ids
as_long J [] [] j = refl
as_long J [] (b ∷ bs) j = absurd j
as_long J (id ∷ ids) [] j = absurd j
as_long J (id ∷ ids) (b ∷ bs) j = ap suc (as_long J ids bs j.1)

one_at_most : (b : Bool) → one_if b ≤ 1
one_at_most true = omega arith
one_at_most false = omega arith

-- it names none beyond
pub below : (n : ℕ) (bs : List Bool) → length bs ≤ n → mask_of bs < 2 ^ n
below n [] few = pow_pos n
below zero (b ∷ bs) few = absurd (omega (arith, few))
below (suc n) (b ∷ bs) few = omega (arith, below n bs (omega (arith, few)), two-pow-succ n, one_at_most b)

pub not_more : (bs : List Bool) → dead_in bs ≤ length bs
not_more [] = omega arith
not_more (b ∷ bs) = omega (arith, not_more bs, one_at_most b)

-- ---- one more

pub none_yet : (J : HeapId → Bool → Type 0) (ids : List HeapId) → drop (length ids) ids ≡ [] → IsMaskOf J (drop (length ids) ids) (record { gone = 0; count = 0 })
none_yet J ids none = subst (λ (l : List HeapId). IsMaskOf J l (record { gone = 0; count = 0 })) (sym none)
    (let m : IsMaskOf J [] (record { gone = 0; count = 0 }) = record { answers = []; judged = tt; gone_is = refl; count_is = refl } in m)

drop_one : (k : ℕ) (ids : List HeapId) (id : HeapId) → slice_get ids k ≡ Some id → drop k ids ≡ id ∷ drop (suc k) ids
drop_one k [] id is = absurd (none-some id is)
drop_one zero (x ∷ ids) id is = ap (λ (i : HeapId). i ∷ ids) (same_Some x id is)
drop_one (suc k) (x ∷ ids) id is = drop_one k ids id is

pub one_more : (J : HeapId → Bool → Type 0) (ids : List HeapId) (k : ℕ) (id : HeapId) (b : Bool) (mask new : Mask) → slice_get ids k ≡ Some id → J id b
    → IsMaskOf J (drop (suc k) ids) mask → new.gone ≡ one_if b + 2 * mask.gone → new.count ≡ one_if b + mask.count → IsMaskOf J (drop k ids) new
one_more J ids k id b mask new is j m gone count =
    subst (λ (l : List HeapId). IsMaskOf J l new) (sym (drop_one k ids id is))
    (let r : IsMaskOf J (id ∷ drop (suc k) ids) new = record {
      answers = b ∷ m.answers;
      judged = (j, m.judged);
      gone_is = gone ∙ ap (λ n. one_if b + 2 * n) m.gone_is;
      count_is = count ∙ ap (λ n. one_if b + n) m.count_is;
    } in r)

drop_shorter : (k : ℕ) (ids : List HeapId) → length (drop k ids) ≤ length ids
drop_shorter zero ids = omega arith
drop_shorter (suc k) [] = omega arith
drop_shorter (suc k) (x ∷ ids) = omega (arith, drop_shorter k ids)

drop_less : (k : ℕ) (ids : List HeapId) → k < length ids → length (drop (suc k) ids) < length ids
drop_less k [] low = absurd (omega (arith, low))
drop_less k (x ∷ ids) low = omega (arith, drop_shorter k ids)

pub room_left : (J : HeapId → Bool → Type 0) (ids : List HeapId) (k : ℕ) (mask : Mask) → length ids ≤ 10 → k < length ids → IsMaskOf J (drop (suc k) ids) mask
    → 2 * mask.gone + 1 < 65536
room_left J ids k mask few low m =
    let long : length m.answers ≡ length (drop (suc k) ids) = as_long J (drop (suc k) ids) m.answers m.judged in
    let less : mask_of m.answers < 2 ^ 10 = below 10 m.answers (let s = drop_less k ids low in omega (arith, long, s, few)) in
    omega (arith, m.gone_is, less)

pub count_left : (J : HeapId → Bool → Type 0) (ids : List HeapId) (k : ℕ) (mask : Mask) → length ids ≤ 10 → k < length ids → IsMaskOf J (drop (suc k) ids) mask
    → mask.count + 1 < 256
count_left J ids k mask few low m =
    let long : length m.answers ≡ length (drop (suc k) ids) = as_long J (drop (suc k) ids) m.answers m.judged in
    let s = drop_less k ids low in
    omega (arith, long, s, few, m.count_is, not_more m.answers)

-- ---- what is named was called dead

none_named : (P : HeapId → Type 0) (ids : List HeapId) → AreNamed P 0 ids
none_named P [] = tt
none_named P (id ∷ ids) = ((λ odd. absurd (omega (arith, odd))), subst (λ n. AreNamed P n ids) (let e : 0 ≡ 0 / 2 = omega arith in e) (none_named P ids))

lowest : (J : HeapId → Bool → Type 0) (id : HeapId) (b : Bool) (n : ℕ) → J id b → (one_if b + 2 * n) % 2 ≡ 1 → J id true
lowest J id true n j odd = j
lowest J id false n j odd = absurd (omega (arith, odd))

pub named_dead : (J : HeapId → Bool → Type 0) (ids more : List HeapId) (bs : List Bool) → AreJudged J ids bs → AreNamed (λ id. J id true) (mask_of bs) (ids ++ more)
named_dead J [] more [] j = none_named (λ id. J id true) more
named_dead J [] more (b ∷ bs) j = absurd j
named_dead J (id ∷ ids) more [] j = absurd j
named_dead J (id ∷ ids) more (b ∷ bs) j = (
  lowest J id b (mask_of bs) j.0,
  subst (λ n. AreNamed (λ id. J id true) n (ids ++ more)) (let s = one_at_most b in let e : mask_of bs ≡ (one_if b + 2 * mask_of bs) / 2 = omega (arith, s) in e)
      (named_dead J ids more bs j.1),
)

-- ---- at an index

pub there : (k : ℕ) (ids : List HeapId) (id : HeapId) → k < length ids → id ≡ slice_index_or ids k id → slice_get ids k ≡ Some id
there k [] id low is = absurd (omega (arith, low))
there zero (x ∷ ids) id low is = ap Some (sym is)
there (suc k) (x ∷ ids) id low is = there k ids id (omega (arith, low)) is

pub whole : (J : HeapId → Bool → Type 0) (ids : List HeapId) (k : ℕ) (mask : Mask) → k ≡ 0 → IsMaskOf J (drop k ids) mask → IsMaskOf J ids mask
whole J ids k mask none m = subst (λ n. IsMaskOf J (drop n ids) mask) none m
