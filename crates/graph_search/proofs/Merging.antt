-- Lists in order of which elements are taken away, or to which some come.
use Rattle.std.proofs.Common.{◌≡◌, Bool, true, false, ◌&&◌, cond, List, [], ◌∷◌, ◌++◌, filter, refl, sym, ap, ◌∙◌, true≢false}
use Rattle.std.specs.Cmp.{IsStrictWeakOrder}
use Rattle.list_values.specs.Ranking.{placed, ranked}
use Rattle.list_values.proofs.Ranks.{NoneLess, Rises, rises_ranked}

module _ {X : Type 0} (lt : X → X → Bool) (o : IsStrictWeakOrder lt) where
  -- one that no element is less than comes first
  placed_first : (x : X) (xs : List X) → NoneLess lt x xs → placed lt x xs ≡ x ∷ xs
  placed_first x [] none = refl
  placed_first x (y ∷ ys) none = ap (λ (b : Bool). cond b (y ∷ placed lt x ys) (x ∷ y ∷ ys)) none.0

  none_less_through : (x y : X) (ys : List X) → lt y x ≡ false → NoneLess lt y ys → NoneLess lt x ys
  none_less_through x y [] h none = tt
  none_less_through x y (z ∷ zs) h none = (o.chain z y x none.0 h, none_less_through x y zs h none.1)

  -- what a filter keeps
  module _ (keeps : X → Bool) where
    none_less_kept : (x : X) (xs : List X) → NoneLess lt x xs → NoneLess lt x (filter keeps xs)
    none_less_kept x [] none = tt
    none_less_kept x (y ∷ ys) none =
        elim (keeps y) as (λ b. NoneLess lt x (cond b (y ∷ filter keeps ys) (filter keeps ys))) [
          | true ↦ (none.0, none_less_kept x ys none.1)
          | false ↦ none_less_kept x ys none.1
        ]

    by_kept : (b : Bool) (x y : X) (zs : List X) → lt y x ≡ true → y ∷ cond b (placed lt x zs) zs ≡ cond b (placed lt x (y ∷ zs)) (y ∷ zs)
    by_kept true x y zs less = sym (ap (λ (c : Bool). cond c (y ∷ placed lt x zs) (x ∷ y ∷ zs)) less)
    by_kept false x y zs less = refl

    behind : (x y : X) (ys : List X) → lt y x ≡ true
        → filter keeps (placed lt x ys) ≡ cond (keeps x) (placed lt x (filter keeps ys)) (filter keeps ys)
        → filter keeps (y ∷ placed lt x ys) ≡ cond (keeps x) (placed lt x (filter keeps (y ∷ ys))) (filter keeps (y ∷ ys))
    behind x y ys less rest =
        elim (keeps y) as (λ b. cond b (y ∷ filter keeps (placed lt x ys)) (filter keeps (placed lt x ys))
        ≡ cond (keeps x) (placed lt x (cond b (y ∷ filter keeps ys) (filter keeps ys))) (cond b (y ∷ filter keeps ys) (filter keeps ys))) [
          | true ↦ ap (λ (z : List X). y ∷ z) rest ∙ by_kept (keeps x) x y (filter keeps ys) less
          | false ↦ rest
        ]

    -- the element placed, or not, by whether it is kept
    kept_placed : (x : X) (ys : List X) → Rises lt ys
        → filter keeps (placed lt x ys) ≡ cond (keeps x) (placed lt x (filter keeps ys)) (filter keeps ys)
    kept_placed x [] rises = refl
    kept_placed x (y ∷ ys) rises =
        elim (lt y x) as (λ b. lt y x ≡ b → filter keeps (cond b (y ∷ placed lt x ys) (x ∷ y ∷ ys))
        ≡ cond (keeps x) (placed lt x (filter keeps (y ∷ ys))) (filter keeps (y ∷ ys))) [
          | true ↦ λ less. behind x y ys less (kept_placed x ys rises.1)
          | false ↦ λ not_less.
              ap (λ (z : List X). cond (keeps x) z (filter keeps (y ∷ ys)))
              (sym (placed_first x (filter keeps (y ∷ ys)) (none_less_kept x (y ∷ ys) (not_less, none_less_through x y ys not_less rises.0))))
        ] refl

    pub kept_ranked : (xs : List X) → filter keeps (ranked lt xs) ≡ ranked lt (filter keeps xs)
    kept_ranked [] = refl
    kept_ranked (x ∷ xs) =
        kept_placed x (ranked lt xs) (rises_ranked lt o xs)
        ∙ elim (keeps x) as (λ b. cond b (placed lt x (filter keeps (ranked lt xs))) (filter keeps (ranked lt xs))
        ≡ ranked lt (cond b (x ∷ filter keeps xs) (filter keeps xs))) [
          | true ↦ ap (placed lt x) (kept_ranked xs)
          | false ↦ kept_ranked xs
        ]

  -- of two the less comes first, in whatever order they are placed
  less_through : (w r x : X) → lt r x ≡ true → lt w r ≡ true → lt w x ≡ false → false ≡ true
  less_through w r x less first none = sym (o.chain w x r none (o.one_way r x less)) ∙ first

  swapped : (r x : X) (ws : List X) → lt r x ≡ true → placed lt r (placed lt x ws) ≡ placed lt x (placed lt r ws)
  swapped r x [] less =
      ap (λ (b : Bool). cond b (x ∷ r ∷ []) (r ∷ x ∷ [])) (o.one_way r x less)
      ∙ sym (ap (λ (b : Bool). cond b (r ∷ x ∷ []) (x ∷ r ∷ [])) less)
  swapped r x (w ∷ ws) less =
      elim (lt w x) as (λ b. lt w x ≡ b → placed lt r (cond b (w ∷ placed lt x ws) (x ∷ w ∷ ws)) ≡ placed lt x (placed lt r (w ∷ ws))) [
        | true ↦ λ wx.
            elim (lt w r) as (λ b. lt w r ≡ b → cond b (w ∷ placed lt r (placed lt x ws)) (r ∷ w ∷ placed lt x ws)
            ≡ placed lt x (cond b (w ∷ placed lt r ws) (r ∷ w ∷ ws))) [
              | true ↦ λ wr.
                  ap (λ (z : List X). w ∷ z) (swapped r x ws less)
                  ∙ sym (ap (λ (b : Bool). cond b (w ∷ placed lt x (placed lt r ws)) (x ∷ w ∷ placed lt r ws)) wx)
              | false ↦ λ wr.
                  sym (ap (λ (b : Bool). cond b (r ∷ placed lt x (w ∷ ws)) (x ∷ r ∷ w ∷ ws)) less
                  ∙ ap (λ (b : Bool). r ∷ cond b (w ∷ placed lt x ws) (x ∷ w ∷ ws)) wx)
            ] refl
        | false ↦ λ wx.
            elim (lt w r) as (λ b. lt w r ≡ b → placed lt r (x ∷ w ∷ ws) ≡ placed lt x (cond b (w ∷ placed lt r ws) (r ∷ w ∷ ws))) [
              | true ↦ λ wr. absurd (true≢false (sym (less_through w r x less wr wx)))
              | false ↦ λ wr.
                  ap (λ (b : Bool). cond b (x ∷ placed lt r (w ∷ ws)) (r ∷ x ∷ w ∷ ws)) (o.one_way r x less)
                  ∙ sym (ap (λ (b : Bool). cond b (r ∷ placed lt x (w ∷ ws)) (x ∷ r ∷ w ∷ ws)) less
                  ∙ ap (λ (b : Bool). r ∷ cond b (w ∷ placed lt x ws) (x ∷ w ∷ ws)) wx)
            ] refl
      ] refl

  moved : (x : X) (rs ys : List X) → ranked lt (placed lt x rs ++ ys) ≡ placed lt x (ranked lt (rs ++ ys))
  moved x [] ys = refl
  moved x (r ∷ rs) ys =
      elim (lt r x) as (λ b. lt r x ≡ b → ranked lt (cond b (r ∷ placed lt x rs) (x ∷ r ∷ rs) ++ ys) ≡ placed lt x (placed lt r (ranked lt (rs ++ ys)))) [
        | true ↦ λ less. ap (placed lt r) (moved x rs ys) ∙ swapped r x (ranked lt (rs ++ ys)) less
        | false ↦ λ _. refl
      ] refl

  -- what is in order already may stand in its order
  pub ranked_more : (xs ys : List X) → ranked lt (ranked lt xs ++ ys) ≡ ranked lt (xs ++ ys)
  ranked_more [] ys = refl
  ranked_more (x ∷ xs) ys = moved x (ranked lt xs) ys ∙ ap (placed lt x) (ranked_more xs ys)

pub filter_twice : {X : Type 0} (p q : X → Bool) (xs : List X) → filter q (filter p xs) ≡ filter (λ x. p x && q x) xs
filter_twice p q [] = refl
filter_twice p q (x ∷ xs) =
    elim (p x) as (λ b. filter q (cond b (x ∷ filter p xs) (filter p xs)) ≡ cond (b && q x) (x ∷ filter (λ x. p x && q x) xs) (filter (λ x. p x && q x) xs)) [
      | true ↦ ap (λ (z : List _). cond (q x) (x ∷ z) z) (filter_twice p q xs)
      | false ↦ filter_twice p q xs
    ]
