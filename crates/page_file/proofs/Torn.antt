-- What a torn write leaves, place by place.
use Rattle.std.proofs.Common.{◌≡◌, ◌⊎◌, ℕ, zero, suc, ◌+◌, ◌-◌, ◌*◌, ◌/◌, ◌<◌, ◌≤◌, List, [], ◌∷◌, take, drop, slice_get, refl, sym, ap, ◌∙◌, subst, inl, inr, arith}
use Rattle.page_file.specs.Area.{IsAmong, IsTornIn}
use Rattle.vec_outside.specs.Disk.{IsTorn}

slice_get-take : {X : Type 0} (n k : ℕ) (xs : List X) → k < n → slice_get (take n xs) k ≡ slice_get xs k
slice_get-take zero k xs h = absurd (omega (arith, h))
slice_get-take (suc n) k [] h = refl
slice_get-take (suc n) zero (x ∷ xs) h = refl
slice_get-take (suc n) (suc k) (x ∷ xs) h = slice_get-take n k xs (omega (arith, h))

slice_get-drop : {X : Type 0} (n k : ℕ) (xs : List X) → slice_get (drop n xs) k ≡ slice_get xs (n + k)
slice_get-drop zero k xs = ap (slice_get xs) {x = k} {y = 0 + k} (omega arith)
slice_get-drop (suc n) k [] = refl
slice_get-drop (suc n) k (x ∷ xs) = slice_get-drop n k xs ∙ ap (slice_get (x ∷ xs)) {x = suc (n + k)} {y = suc n + k} (omega arith)

slice_get-from : {X : Type 0} (n k : ℕ) (xs : List X) → n ≤ k → slice_get xs k ≡ slice_get (drop n xs) (k - n)
slice_get-from n k xs h = ap (slice_get xs) {x = k} {y = n + (k - n)} (omega (arith, h)) ∙ sym (slice_get-drop n (k - n) xs)

-- a place outside of the range
apart : (at n k : ℕ) (old new : List ℕ) → IsTorn at n old new → (k < at) ⊎ (at + n ≤ k) → slice_get new k ≡ slice_get old k
apart at n k old new t (inl h) = sym (slice_get-take at k new h) ∙ ap (λ xs. slice_get xs k) t.before ∙ slice_get-take at k old h
apart at n k old new t (inr h) = slice_get-from (at + n) k new h ∙ ap (λ xs. slice_get xs (k - (at + n))) t.after ∙ sym (slice_get-from (at + n) k old h)

-- a place of another block is outside of a block's range
elsewhere : (block k : ℕ) → (k / 8192 ≡ block → ⊥) → (k < 8192 * block) ⊎ (8192 * block + 8192 ≤ k)
elsewhere block k ne = grind arith

pub torn_block : (pairs : List (ℕ × ℕ)) (block : ℕ) (old new : List ℕ) → IsAmong pairs block → IsTorn (8192 * block) 8192 old new → IsTornIn pairs old new
torn_block pairs block old new among t = record {
  elsewhere = λ place out. apart (8192 * block) 8192 place old new t (elsewhere block place (λ is. out (subst (IsAmong pairs) (sym is) among)));
  no_shorter = t.no_shorter;
}

pub torn_nowhere : (pairs : List (ℕ × ℕ)) (bytes : List ℕ) → IsTornIn pairs bytes bytes
torn_nowhere pairs bytes = record { elsewhere = λ place out. refl; no_shorter = omega arith }

pub torn_again : (pairs : List (ℕ × ℕ)) (old mid new : List ℕ) → IsTornIn pairs old mid → IsTornIn pairs mid new → IsTornIn pairs old new
torn_again pairs old mid new first second = record {
  elsewhere = λ place out. second.elsewhere place out ∙ first.elsewhere place out;
  no_shorter = omega (arith, first.no_shorter, second.no_shorter);
}
