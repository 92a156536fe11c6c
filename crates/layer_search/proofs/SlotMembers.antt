-- The slots of a new node: whom they name in which layer, and how many there are.
use Rattle.std.proofs.Common.{◌≡◌, ℕ, zero, suc, ◌+◌, ◌-◌, ◌*◌, ◌/◌, ◌==◌, ◌<◌, ◌≤◌, ◌⊎◌, inl, inr, if◌then◌else◌, Bool, false, List, [], ◌∷◌, ◌++◌, map, min, length, replicate, slice_get, Option, Some, None, sym, ap, subst, ◌∙◌, arith, length-append, add-mul, one-mul}
use Rattle.std.specs.List.{AllByRecursion, cons_option, filter_map}
use Rattle.std.proofs.Math.Nat.{mul-add-div_right}
use Rattle.std.proofs.lemmas.Nat.{div-mul-add}
use Rattle.std.proofs.lemmas.Bool.Decides.{nat_tests}
use Rattle.std.proofs.lemmas.List.{length-map, length-replicate}
use Rattle.std.proofs.lemmas.Option.{none-some, same_Some}
use Rattle.vec_names.specs.declared.tid.Tid.{Tid}
use Rattle.index_sizes.specs.Sizes.{slots_of_level}
use Rattle.vec_graph.specs.Graph.{IsMember}
use Rattle.neighbour_pick.specs.declared.found.Found.{Found}
use Rattle.neighbour_pick.specs.Order.{candidate_of}
use Rattle.neighbour_pick.specs.Selection.{picked}
use Rattle.neighbour_pick.proofs.Selecting.{picks_long}
use Rattle.graph_search.specs.Reads.{Look, Answer}
use Rattle.graph_search.specs.Insert.{InsertLists, Lists, ListsDown, ListsFrom, Newcomer, chosen, layer_part, lists_below, most_in, without}
use Rattle.layer_search.proofs.Steadiness.{all_first, all_second}

-- ---- lists

got_split : {X : Type 0} (xs ys : List X) (i : ℕ) (v : X) → slice_get (xs ++ ys) i ≡ Some v
    → ((i < length xs) × (slice_get xs i ≡ Some v)) ⊎ ((k : ℕ) × (i ≡ length xs + k) × (slice_get ys k ≡ Some v))
got_split [] ys i v is = inr (i, omega arith, is)
got_split (x ∷ xs) ys zero v is = inl (omega arith, is)
got_split (x ∷ xs) ys (suc i) v is =
    elim (got_split xs ys i v is) as (λ _. ((suc i < length (x ∷ xs)) × (slice_get (x ∷ xs) (suc i) ≡ Some v))
    ⊎ ((k : ℕ) × (suc i ≡ length (x ∷ xs) + k) × (slice_get ys k ≡ Some v))) [
      | inl here ↦ inl (omega (arith, here.0), here.1)
      | inr there ↦ inr (there.0, omega (arith, there.1), there.2)
    ]

none_named : (r i : ℕ) (to : Tid) → (let slots : List (Option Tid) = replicate r None in slice_get slots i ≡ Some (Some to)) → ⊥
none_named zero i to is = none-some (Some to) is
none_named (suc r) zero to is = none-some to (same_Some None (Some to) is)
none_named (suc r) (suc i) to is = none_named r i to is

few_at : (es : List Found) (places : List ℕ) → length (filter_map (slice_get es) places) ≤ length places
few_at es [] = omega arith
few_at es (k ∷ places) =
    let rest = few_at es places in
    elim (slice_get es k) as (λ o. length (cons_option o (filter_map (slice_get es) places)) ≤ length (k ∷ places)) [
      | None ↦ omega (arith, rest)
      | Some e ↦ omega (arith, rest)
    ]

-- ---- one layer

module _ (n : Newcomer) (layer : ℕ) (found : List Found) where
  chosen_few : length (chosen n layer found) ≤ most_in n.m layer
  chosen_few =
      let others : List Found = without n.except found in
      let places : List ℕ = picked n.ops (map candidate_of others) (most_in n.m layer) in
      omega (arith, few_at others places, picks_long n.ops (map candidate_of others) (most_in n.m layer))

  part_long : length (layer_part n layer (chosen n layer found)) ≡ most_in n.m layer
  part_long =
      let es : List Found = chosen n layer found in
      let slots : List (Option Tid) = map (λ e. Some e.at) es in
      let rest : List (Option Tid) = replicate (most_in n.m layer - length es) None in
      let a = length-append slots rest in
      let b : length slots ≡ length es = length-map es (λ e. Some e.at) in
      let k : length rest ≡ most_in n.m layer - length es = length-replicate (most_in n.m layer - length es) None in
      let few = chosen_few in
      omega (arith, a, b, k, few)

part_known : (K : Tid → ℕ → Type 0) (layer : ℕ) (es : List Found) (r i : ℕ) (to : Tid) → AllByRecursion (λ (p : ℕ × Found). K p.1.at p.0) (map (λ e. (layer, e)) es)
    → slice_get (map (λ e. Some e.at) es ++ replicate r None) i ≡ Some (Some to) → K to layer
part_known K layer [] r i to all is = absurd (none_named r i to is)
part_known K layer (e ∷ es) r zero to all is = subst (λ (t : Tid). K t layer) (same_Some e.at to (same_Some (Some e.at) (Some to) is)) all.0
part_known K layer (e ∷ es) r (suc i) to all is = part_known K layer es r i to all.1 is

-- ---- the layers

zero_or : (layer : ℕ) → 0 < layer → (layer == 0) ≡ false
zero_or layer above = grind (arith, nat_tests)

most_above : (m layer : ℕ) → most_in m (suc layer) ≡ m
most_above m layer = ap (λ (b : Bool). if b then 2 * m else m) (zero_or (suc layer) (omega arith))

within_part : (m layer i : ℕ) → 1 ≤ m → i < most_in m layer → layer - i / m ≡ layer
within_part m zero i some within = let z : 0 - i / m ≡ 0 = omega arith in z
within_part m (suc layer) i some within =
    let short : i < m = subst (λ k. i < k) (most_above m layer) within in
    let none : (0 * m + i) / m ≡ 0 = div-mul-add 0 m i short in
    let same : 0 * m + i ≡ i = omega arith in
    let gone : i / m ≡ 0 = ap (λ k. k / m) (sym same) ∙ none in
    omega (arith, gone)

one_on : (m k : ℕ) → 1 ≤ m → (m + k) / m ≡ 1 + k / m
one_on m k some = ap (λ x. (x + k) / m) (sym (one-mul m)) ∙ mul-add-div_right some 1 k

module _ (K : Tid → ℕ → Type 0) (n : Newcomer) (some : 1 ≤ n.m) where
  -- behind the slots of a layer above the lowest come those of the layers below
  behind : (layer i k : ℕ) → 0 < layer → i ≡ n.m + k → suc layer - 1 - i / n.m ≡ layer - 1 - k / n.m
  behind layer i k above is =
      let next : i / n.m ≡ 1 + k / n.m = ap (λ x. x / n.m) is ∙ one_on n.m k some in
      omega (arith, next, above)

  down_known : (layers : ℕ) (from : List Found) (reads : List (Look × Answer)) (lists : Lists) → ListsDown n layers from reads lists
      → AllByRecursion (λ (p : ℕ × Found). K p.1.at p.0) lists.picks → (i : ℕ) (to : Tid) → slice_get lists.slots i ≡ Some (Some to) → K to (layers - 1 - i / n.m)
  down_known zero from reads lists down all i to is =
      absurd (none-some (Some to) (ap (λ (l : Lists). slice_get l.slots i) (sym down.1) ∙ is))
  down_known (suc zero) from reads lists down all i to is =
      let es : List Found = chosen n 0 down.found in
      let part : List (Option Tid) = layer_part n 0 es in
      let pairs : List (ℕ × Found) = map (λ e. (0, e)) es in
      let here = subst (AllByRecursion (λ (p : ℕ × Found). K p.1.at p.0)) down.picks_are all in
      let lowest : 1 - 1 - i / n.m ≡ 0 = omega arith in
      elim (got_split part down.below.slots i (Some to) (ap (λ (l : List (Option Tid)). slice_get l i) (sym down.slots_are) ∙ is)) as (λ _. K to (1 - 1 - i / n.m)) [
        | inl at ↦ subst (K to) (sym lowest)
            (part_known K 0 es (most_in n.m 0 - length es) i to (all_first (λ (p : ℕ × Found). K p.1.at p.0) pairs down.below.picks here) at.1)
        | inr at ↦ absurd (none-some (Some to) (ap (λ (l : Lists). slice_get l.slots at.0) (sym down.deeper_is.1) ∙ at.2))
      ]
  down_known (suc (suc layer)) from reads lists down all i to is =
      let es : List Found = chosen n (suc layer) down.found in
      let part : List (Option Tid) = layer_part n (suc layer) es in
      let pairs : List (ℕ × Found) = map (λ e. (suc layer, e)) es in
      let here = subst (AllByRecursion (λ (p : ℕ × Found). K p.1.at p.0)) down.picks_are all in
      let long = part_long n (suc layer) down.found in
      let top : suc (suc layer) - 1 ≡ suc layer = omega arith in
      elim (got_split part down.below.slots i (Some to) (ap (λ (l : List (Option Tid)). slice_get l i) (sym down.slots_are) ∙ is))
      as (λ _. K to (suc (suc layer) - 1 - i / n.m)) [
        | inl at ↦
            let inside : i < most_in n.m (suc layer) = omega (arith, at.0, long) in
            let same : suc (suc layer) - 1 - i / n.m ≡ suc layer = ap (λ k. k - i / n.m) top ∙ within_part n.m (suc layer) i some inside in
            subst (K to) (sym same)
            (part_known K (suc layer) es (most_in n.m (suc layer) - length es) i to (all_first (λ (p : ℕ × Found). K p.1.at p.0) pairs down.below.picks here) at.1)
        | inr at ↦
            let is_behind : i ≡ n.m + at.0 = at.1 ∙ ap (λ k. k + at.0) (long ∙ most_above n.m layer) in
            subst (K to) (sym (behind (suc layer) i at.0 (omega arith) is_behind))
            (down_known (suc layer) _ down.later down.below down.deeper_is (all_second (λ (p : ℕ × Found). K p.1.at p.0) pairs down.below.picks here) at.0 to at.2)
      ]

  from_known : (top : ℕ) (from : List Found) (reads : List (Look × Answer)) (lists : Lists) → ListsFrom n top from reads lists
      → AllByRecursion (λ (p : ℕ × Found). K p.1.at p.0) lists.picks → (i : ℕ) (to : Tid) → slice_get lists.slots i ≡ Some (Some to) → K to (n.level - i / n.m)
  from_known top from reads lists down all i to is =
      let above : ℕ = n.level - top in
      let none : List (Option Tid) = replicate (above * n.m) None in
      let long : length none ≡ above * n.m = length-replicate (above * n.m) None in
      elim (got_split none down.found.slots i (Some to) (ap (λ (l : Lists). slice_get l.slots i) (sym down.lists_are) ∙ is)) as (λ _. K to (n.level - i / n.m)) [
        | inl at ↦ absurd (none_named (above * n.m) i to at.1)
        | inr at ↦
            let is_behind : i ≡ above * n.m + at.0 = at.1 ∙ ap (λ k. k + at.0) long in
            let next : i / n.m ≡ above + at.0 / n.m = ap (λ x. x / n.m) is_behind ∙ mul-add-div_right some above at.0 in
            let same : n.level - i / n.m ≡ min top n.level + 1 - 1 - at.0 / n.m = omega (arith, next) in
            subst (K to) (sym same)
            (down_known (min top n.level + 1) from reads down.found down.down
            (subst (λ (l : Lists). AllByRecursion (λ (p : ℕ × Found). K p.1.at p.0) l.picks) down.lists_are all) at.0 to at.2)
      ]

  below_known : (o : Option ℕ) (from : List Found) (reads : List (Look × Answer)) (lists : Lists) → lists_below n o from reads lists
      → AllByRecursion (λ (p : ℕ × Found). K p.1.at p.0) lists.picks → (i : ℕ) (to : Tid) → slice_get lists.slots i ≡ Some (Some to) → K to (n.level - i / n.m)
  below_known None from reads lists none all i to is =
      absurd (none_named ((n.level + 2) * n.m) i to (ap (λ (l : Lists). slice_get l.slots i) (sym none.1) ∙ is))
  below_known (Some top) from reads lists down all i to is = from_known top from reads lists down all i to is

  -- what is so of each neighbour in its layer is so of each member of the slots
  pub members_so : (reads : List (Look × Answer)) (top : Option ℕ) (lists : Lists) → InsertLists n reads top lists
      → AllByRecursion (λ (p : ℕ × Found). K p.1.at p.0) lists.picks → (layer : ℕ) (to : Tid) → IsMember n.m n.level lists.slots layer to → K to layer
  members_so reads top lists found all layer to m =
      subst (K to) m.within (below_known top found.from found.on lists found.searched all m.slot to m.names)

-- ---- how many there are

module _ (n : Newcomer) where
  down_long : (layers : ℕ) (from : List Found) (reads : List (Look × Answer)) (lists : Lists) → ListsDown n (suc layers) from reads lists
      → length lists.slots ≡ (layers + 2) * n.m
  down_long zero from reads lists down =
      let part = part_long n 0 down.found in
      let all = ap (λ (l : List (Option Tid)). length l) down.slots_are ∙ length-append (layer_part n 0 (chosen n 0 down.found)) down.below.slots in
      let none = ap (λ (l : Lists). length l.slots) down.deeper_is.1 in
      omega (arith, part, all, none)
  down_long (suc layers) from reads lists down =
      let part = part_long n (suc layers) down.found in
      let all = ap (λ (l : List (Option Tid)). length l) down.slots_are ∙ length-append (layer_part n (suc layers) (chosen n (suc layers) down.found)) down.below.slots in
      let rest = down_long layers _ down.later down.below down.deeper_is in
      let more : (suc layers + 2) * n.m ≡ (layers + 2) * n.m + n.m =
      ap (λ k. k * n.m) (let e : suc layers + 2 ≡ (layers + 2) + 1 = omega arith in e) ∙ add-mul (layers + 2) 1 n.m ∙ ap (λ k. (layers + 2) * n.m + k) (one-mul n.m) in
      let here = most_above n.m layers in
      omega (arith, part, all, rest, more, here)

  below_long : (o : Option ℕ) (from : List Found) (reads : List (Look × Answer)) (lists : Lists) → lists_below n o from reads lists
      → length lists.slots ≡ slots_of_level n.m n.level
  below_long None from reads lists none = ap (λ (l : Lists). length l.slots) none.1 ∙ length-replicate ((n.level + 2) * n.m) None
  below_long (Some top) from reads lists down =
      let above : ℕ = n.level - top in
      let low : ℕ = min top n.level in
      let none : List (Option Tid) = replicate (above * n.m) None in
      let long : length none ≡ above * n.m = length-replicate (above * n.m) None in
      let one_more : low + 1 ≡ suc low = omega arith in
      let rest = down_long low from reads down.found (subst (λ (k : ℕ). ListsDown n k from reads down.found) one_more down.down) in
      let all = ap (λ (l : Lists). length l.slots) down.lists_are ∙ length-append none down.found.slots in
      let split : n.level + 2 ≡ above + (low + 2) = omega arith in
      let sum : (n.level + 2) * n.m ≡ above * n.m + (low + 2) * n.m = ap (λ k. k * n.m) split ∙ add-mul above (low + 2) n.m in
      omega (arith, long, rest, all, sum)

  pub slots_long : (reads : List (Look × Answer)) (top : Option ℕ) (lists : Lists) → InsertLists n reads top lists
      → length lists.slots ≡ slots_of_level n.m n.level
  slots_long reads top lists found = below_long top found.from found.on lists found.searched
