-- The first that passes a test, among lists that are joined.
use Rattle.std.proofs.Common.{◌≡◌, ℕ, zero, suc, ◌+◌, ◌<◌, Bool, List, [], ◌∷◌, ◌++◌, take, length, get_or, Option, Some, None, refl, sym, ap, ◌∙◌, append-nil, arith}
use Rattle.std.specs.List.{find, flat_map}
use Rattle.std.specs.Option.{option_map, option_or}
use Rattle.std.proofs.lemmas.List.{take_more}
use Rattle.std.proofs.lemmas.List.Concat.{flat_map-append}
use Rattle.std.proofs.lemmas.List.Folds.{find-append}

map_none : {X B : Type 0} (g : X → B) (o : Option X) → option_map g o ≡ None → o ≡ None
map_none g None h = refl
map_none g (Some x) h = absurd (cc)

first_none : {X : Type 0} (o q : Option X) → option_or o q ≡ None → o ≡ None
first_none None q h = refl
first_none (Some x) q h = absurd (cc)

second_none : {X : Type 0} (o q : Option X) → option_or o q ≡ None → q ≡ None
second_none None q h = h
second_none (Some x) q h = absurd (cc)

map_first : {X B : Type 0} (g : X → B) (o q : Option X) (b : B) → option_map g o ≡ Some b → option_map g (option_or o q) ≡ Some b
map_first g None q b h = absurd (cc)
map_first g (Some x) q b h = h

module _ {X A B : Type 0} (p : A → Bool) (f : X → List A) (g : A → B) where
  -- none so far, and here it is
  found_at : (xs : List X) (i : ℕ) (d : X) (b : B) → i < length xs → find p (flat_map f (take i xs)) ≡ None
      → option_map g (find p (f (get_or xs i d))) ≡ Some b → option_map g (find p (flat_map f xs)) ≡ Some b
  found_at [] i d b h none here = absurd (omega arith)
  found_at (x ∷ xs) zero d b h none here = ap (option_map g) (find-append p (f x) (flat_map f xs)) ∙ map_first g (find p (f x)) (find p (flat_map f xs)) b here
  found_at (x ∷ xs) (suc i) d b h none here =
      let split : option_or (find p (f x)) (find p (flat_map f (take i xs))) ≡ None = sym (find-append p (f x) (flat_map f (take i xs))) ∙ none in
      ap (option_map g) (find-append p (f x) (flat_map f xs) ∙ ap (λ o. option_or o (find p (flat_map f xs))) (first_none _ _ split))
      ∙ found_at xs i d b (omega arith) (second_none _ _ split) here

  pub found_here : (xs : List X) (i : ℕ) (x : X) (b : B) → i < length xs → x ≡ get_or xs i x → find p (flat_map f (take i xs)) ≡ None
      → option_map g (find p (f x)) ≡ Some b → option_map g (find p (flat_map f xs)) ≡ Some b
  found_here xs i x b h is none here = found_at xs i x b h none (ap (λ y. option_map g (find p (f y))) (sym is) ∙ here)

  -- none so far, and none here
  pub none_more : (xs : List X) (i : ℕ) (x : X) → i < length xs → x ≡ get_or xs i x → find p (flat_map f (take i xs)) ≡ None
      → option_map g (find p (f x)) ≡ None → find p (flat_map f (take (i + 1) xs)) ≡ None
  none_more xs i x h is none here =
      let next : flat_map f (take (i + 1) xs) ≡ flat_map f (take i xs) ++ f (get_or xs i x) =
      ap (flat_map f) (take_more xs i x h) ∙ flat_map-append f (take i xs) (get_or xs i x ∷ []) ∙ ap (λ l. flat_map f (take i xs) ++ l) (append-nil (f (get_or xs i x))) in
      ap (find p) (next ∙ ap (λ y. flat_map f (take i xs) ++ f y) (sym is)) ∙ find-append p (flat_map f (take i xs)) (f x)
      ∙ ap (λ o. option_or o (find p (f x))) none ∙ map_none g _ here
