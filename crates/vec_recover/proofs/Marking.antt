-- Marks for blocks, one after the other, and the blocks that are marked.
use Rattle.std.proofs.Common.{◌≡◌, ◌≤◌, ◌<◌, ◌⊎◌, ◌↔◌, ◌+◌, ℕ, Bool, List, [], ◌∷◌, ◌++◌, length, nat_lt, true, false, get_or, inl, inr, refl, sym, subst, ◌∙◌, arith}
use Rattle.std.specs.Prelude.{Contains, All}
use Rattle.std.specs.List.{slice_index}
use Rattle.std.specs.List.Sorted.{IsStrictlyIncreasing}
use Rattle.std.proofs.lemmas.List.Elements.{Contains-push, Contains-append_left, Contains-push_cases}
use Rattle.std.proofs.lemmas.Bool.{ltb-true, ltb-false}
use Rattle.std.proofs.lemmas.List.{get_or_append_left, get_or_push, length_push}
use Rattle.std.proofs.lemmas.Option.{get_or_from_slice_get, slice_get-get_or}
use Rattle.index_sizes.specs.declared.limits.TheConstants.{MOST_BLOCKS}
use Rattle.vec_recover.specs.Parts.{AreMarked, AreMarkedMore, AreUpTo, IsMarked}

-- Of those that are to be marked, these are left.
pub record IsMarking (All Left : ℕ → Type 0) (marks : List Bool) : Type 0 where
  pub count : length marks ≡ MOST_BLOCKS
  pub to : (block : ℕ) → IsMarked marks block → (block < MOST_BLOCKS) × All block
  pub from : (block : ℕ) → block < MOST_BLOCKS → All block → IsMarked marks block ⊎ Left block
  pub left : (block : ℕ) → Left block → All block

pub marks_more : (All Is Left : ℕ → Type 0) (marks new : List Bool) → IsMarking All (λ block. Is block ⊎ Left block) marks → AreMarkedMore marks new Is
    → IsMarking All Left new
marks_more All Is Left marks new i m = record {
  count = m.count ∙ i.count;
  to = λ block marked. elim ((m.each block).0 marked) as (λ _. (block < MOST_BLOCKS) × All block) [
    | inl was ↦ i.to block was
    | inr now ↦ (omega (arith, now.1, i.count), i.left block (inl now.0))
  ];
  from = λ block low all. elim (i.from block low all) as (λ _. IsMarked new block ⊎ Left block) [
    | inl was ↦ inl ((m.each block).1 (inl was))
    | inr rest ↦ later block low rest
  ];
  left = λ block rest. i.left block (inr rest);
} where
  later : (block : ℕ) → block < MOST_BLOCKS → Is block ⊎ Left block → IsMarked new block ⊎ Left block
  later block low (inl is) = inl ((m.each block).1 (inr (is, omega (arith, low, i.count))))
  later block low (inr rest) = inr rest

pub marks_end : (All Left : ℕ → Type 0) (marks : List Bool) → IsMarking All Left marks → ((block : ℕ) → Left block → ⊥) → AreMarked marks All
marks_end All Left marks i none = record {
  count = i.count;
  each = λ block. (
    i.to block,
    λ both. elim (i.from block both.0 both.1) as (λ _. IsMarked marks block) [
      | inl marked ↦ marked
      | inr rest ↦ absurd (none block rest)
    ],
  );
}

pub marks_none : (All : ℕ → Type 0) (marks : List Bool) → length marks ≡ MOST_BLOCKS → ((block : ℕ) → IsMarked marks block → ⊥) → IsMarking All All marks
marks_none All marks count none = record {
  count = count;
  to = λ block marked. absurd (none block marked);
  from = λ block low all. inr all;
  left = λ block all. all;
}

-- events behind the images
pub marks_also : (All More : ℕ → Type 0) (marks : List Bool) → AreMarked marks All → IsMarking (λ block. All block ⊎ More block) More marks
marks_also All More marks a = record {
  count = a.count;
  to = λ block marked.
      let b = (a.each block).0 marked in
      (b.0, inl b.1);
  from = λ block low all. by block low all;
  left = λ block more. inr more;
} where
  by : (block : ℕ) → block < MOST_BLOCKS → All block ⊎ More block → IsMarked marks block ⊎ More block
  by block low (inl all) = inl ((a.each block).1 (low, all))
  by block low (inr more) = inr more

-- two blocks are marked one after the other
pub marked_both : (old mid new : List Bool) (a b : ℕ) (Is : ℕ → Type 0) → ((block : ℕ) → Is block ↔ ((block ≡ a) ⊎ (block ≡ b)))
    → AreMarkedMore old mid (λ block. block ≡ a) → AreMarkedMore mid new (λ block. block ≡ b) → AreMarkedMore old new Is
marked_both old mid new a b Is same x y = record {
  count = y.count ∙ x.count;
  each = λ block. (λ marked. to block ((y.each block).0 marked), λ either. from block either);
} where
  was : (block : ℕ) → IsMarked mid block → IsMarked old block ⊎ (Is block × (block < length old))
  was block marked = elim ((x.each block).0 marked) as (λ _. IsMarked old block ⊎ (Is block × (block < length old))) [
    | inl old ↦ inl old
    | inr now ↦ inr ((same block).1 (inl now.0), now.1)
  ]

  to : (block : ℕ) → IsMarked mid block ⊎ ((block ≡ b) × (block < length mid)) → IsMarked old block ⊎ (Is block × (block < length old))
  to block (inl marked) = was block marked
  to block (inr now) = inr ((same block).1 (inr now.0), omega (arith, now.1, x.count))

  from : (block : ℕ) → IsMarked old block ⊎ (Is block × (block < length old)) → IsMarked new block
  from block (inl marked) = (y.each block).1 (inl ((x.each block).1 (inl marked)))
  from block (inr now) = elim ((same block).0 now.0) as (λ _. IsMarked new block) [
    | inl first ↦ (y.each block).1 (inl ((x.each block).1 (inr (first, now.1))))
    | inr other ↦ (y.each block).1 (inr (other, omega (arith, now.1, x.count)))
  ]

pub marked_none : (old : List Bool) (Is : ℕ → Type 0) → ((block : ℕ) → Is block → ⊥) → AreMarkedMore old old Is
marked_none old Is none = record {
  count = refl;
  each = λ block. (λ marked. inl marked, λ either. elim either as (λ _. IsMarked old block) [ inl marked ↦ marked | inr now ↦ absurd (none block now.0) ]);
}

-- ---- the marked blocks up to one

here_in : (list : List ℕ) (k : ℕ) → k < length list → Contains list (slice_index list k)
here_in list k low =
    let there = slice_get-get_or list k 0 low in
    (k, low, get_or_from_slice_get list k (slice_index list k) (slice_index list k) there)

pub rising_more : (list : List ℕ) (block : ℕ) → IsStrictlyIncreasing list → ((b : ℕ) → Contains list b → b < block) → IsStrictlyIncreasing (list ++ block ∷ [])
rising_more list block rising low k within = by (nat_lt (k + 1) (length list)) refl where
  long : k + 1 < length list + 1
  long = omega (arith, within, length_push list block)

  before : (n : ℕ) → n < length list → slice_index (list ++ block ∷ []) n ≡ slice_index list n
  before n inside = get_or_append_left list (block ∷ []) 0 n inside

  by : (b : Bool) → nat_lt (k + 1) (length list) ≡ b → slice_index (list ++ block ∷ []) k < slice_index (list ++ block ∷ []) (k + 1)
  by true e =
      let inside : k + 1 < length list = ltb-true _ _ e in
      omega (arith, before k (omega (arith, inside)), before (k + 1) inside, rising k inside)
  by false e =
      let past : length list ≤ k + 1 = ltb-false _ _ e in
      let last : length list ≡ k + 1 = omega (arith, past, long) in
      let here : slice_index (list ++ block ∷ []) (k + 1) ≡ block = get_or_push list block 0 (k + 1) last in
      let inside : k < length list = omega (arith, last) in
      omega (arith, before k inside, here, low (slice_index list k) (here_in list k inside))

pub up_to_none : (marks : List Bool) → AreUpTo marks 0 []
up_to_none marks = record {
  rising = λ k within. absurd (omega (arith, within));
  each = λ b. (λ there. absurd (omega (arith, there.1)), λ both. absurd (omega (arith, both.0)));
}

pub below_next : (b block : ℕ) → b < block + 1 → (b < block) ⊎ (b ≡ block)
below_next b block low = by (nat_lt b block) refl where
  by : (t : Bool) → nat_lt b block ≡ t → (b < block) ⊎ (b ≡ block)
  by true e = inl (ltb-true _ _ e)
  by false e = inr (omega (arith, low, ltb-false b block e))

pub up_to_marked : (marks : List Bool) (block : ℕ) (list : List ℕ) → AreUpTo marks block list → IsMarked marks block → AreUpTo marks (block + 1) (list ++ block ∷ [])
up_to_marked marks block list a marked = record {
  rising = rising_more list block a.rising (λ b there. ((a.each b).0 there).0);
  each = λ b. (to b, from b);
} where
  to : (b : ℕ) → Contains (list ++ block ∷ []) b → (b < block + 1) × IsMarked marks b
  to b there = elim (Contains-push_cases list block b there) as (λ _. (b < block + 1) × IsMarked marks b) [
    | inl before ↦
        let both = (a.each b).0 before in
        (omega (arith, both.0), both.1)
    | inr last ↦ (omega (arith, last), subst (IsMarked marks) last marked)
  ]

  from : (b : ℕ) → (b < block + 1) × IsMarked marks b → Contains (list ++ block ∷ []) b
  from b both = elim (below_next b block both.0) as (λ _. Contains (list ++ block ∷ []) b) [
    | inl low ↦ Contains-append_left list (block ∷ []) b ((a.each b).1 (low, both.1))
    | inr same ↦ subst (Contains (list ++ block ∷ [])) (sym same) (Contains-push list block)
  ]

pub up_to_unmarked : (marks : List Bool) (block : ℕ) (list : List ℕ) → AreUpTo marks block list → (IsMarked marks block → ⊥) → AreUpTo marks (block + 1) list
up_to_unmarked marks block list a unmarked = record {
  rising = a.rising;
  each = λ b. (λ there. (omega (arith, ((a.each b).0 there).0), ((a.each b).0 there).1), from b);
} where
  from : (b : ℕ) → (b < block + 1) × IsMarked marks b → Contains list b
  from b both = elim (below_next b block both.0) as (λ _. Contains list b) [
    | inl low ↦ (a.each b).1 (low, both.1)
    | inr same ↦ absurd (unmarked (subst (IsMarked marks) same both.1))
  ]

-- all of them are below that block
pub all_below : (marks : List Bool) (block : ℕ) (list : List ℕ) → AreUpTo marks block list → All (λ b. b < block) list
all_below marks block list a = λ k d low. ((a.each (get_or list k d)).0 (k, low, get_or_from_slice_get list k (get_or list k d) (get_or list k d) (slice_get-get_or list k d low))).0
