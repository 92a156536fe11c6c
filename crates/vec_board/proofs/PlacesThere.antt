-- On which blocks a new node comes to stand.
use Rattle.std.proofs.Common.{◌≡◌, ◌<◌, ◌+◌, ◌&&◌, ℕ, Bool, true, false, cond, find, Option, Some, None, refl, sym, ap, subst, ◌∙◌, ◌⊎◌, inl, inr}
use Rattle.std.specs.Prelude.{nat_le, nat_lt}
use Rattle.std.specs.Option.{option_or}
use Rattle.std.specs.FinMap as fin
use Rattle.std.proofs.lemmas.Option.{same_Some, none-some}
use Rattle.std.proofs.lemmas.Bool.{ltb-true}
use Rattle.vec_names.specs.declared.tid.Tid.{Tid}
use Rattle.vec_names.specs.Order.{tid_cmp, tid_cmp_total}
use Rattle.vec_names.specs.Places.{tid_of}
use Rattle.vec_names.proofs.PlaceLaws.{tid_of-numbers}
use Rattle.vec_graph.specs.declared.place.Place.{Place}
use Rattle.vec_graph.specs.declared.node.Node.{Node}
use Rattle.vec_graph.specs.declared.graph.Graph.{Graph}
use Rattle.vec_graph.specs.Places.{IsOnBlocks, is_reusable, reused, room, element_need, list_need, next_off, fits_one_page, fresh_place, fresh_at, together_on, apart_on, fresh_on, place_on, new_place}
use Rattle.vec_graph.proofs.Placing.{stands_there}

-- a fresh place has the two blocks that it was made of
both_of : (o q : Option Tid) (s : Place) → fresh_place o q ≡ Some s → (o ≡ Some s.at) × (q ≡ Some s.list_at)
both_of (Some at) (Some list_at) s e = let same = same_Some _ s e in (ap (λ (t : Place). Some t.at) same, ap (λ (t : Place). Some t.list_at) same)
both_of (Some at) None s e = absurd (none-some s e)
both_of None q s e = absurd (none-some s e)

fresh_blocks : (block off list_block list_off : ℕ) (s : Place) → fresh_at block off list_block list_off ≡ Some s
    → (s.at.block ≡ block) × (s.list_at.block ≡ list_block)
fresh_blocks block off list_block list_off s e =
    let both = both_of (tid_of block off) (tid_of list_block list_off) s e in
    ((tid_of-numbers block off s.at both.0).0, (tid_of-numbers list_block list_off s.list_at both.1).0)

if_some : {X : Type 0} (b : Bool) (o : Option X) (x : X) → cond b o None ≡ Some x → (b ≡ true) × (o ≡ Some x)
if_some true o x e = (refl, e)
if_some false o x e = absurd (none-some x e)

both_true : (a b : Bool) → (a && b) ≡ true → (a ≡ true) × (b ≡ true)
both_true true b e = (refl, e)
both_true false b e = absurd cc

module _ (g : Graph) (on : IsOnBlocks g) (level : ℕ) (s : Place) where
  abbrev There : Type 0
  There = (s.at.block < g.blocks) × (s.list_at.block < g.blocks)

  together : (b : ℕ) → b < g.blocks → together_on g b level ≡ Some s → There
  together b low is =
      let k = fresh_blocks b (next_off g b) b (next_off g b + 1) s (if_some (nat_le (element_need g + list_need g level) (room g b)) _ s is).1 in
      (subst (λ n. n < g.blocks) (sym k.0) low, subst (λ n. n < g.blocks) (sym k.1) low)

  apart : (b : ℕ) → b < g.blocks → apart_on g b level ≡ Some s → There
  apart b low is =
      let both = if_some (nat_lt (b + 1) g.blocks && (nat_le (element_need g) (room g b) && nat_le (list_need g level) (room g (b + 1)))) _ s is in
      let next = ltb-true (b + 1) g.blocks (both_true _ _ both.0).0 in
      let k = fresh_blocks b (next_off g b) (b + 1) (next_off g (b + 1)) s both.1 in
      (subst (λ n. n < g.blocks) (sym k.0) low, subst (λ n. n < g.blocks) (sym k.1) next)

  fresh : (b : ℕ) → b < g.blocks → fresh_on g b level ≡ Some s → There
  fresh b low is = by (fits_one_page g level) is where
    by : (t : Bool) → cond t (together_on g b level) (apart_on g b level) ≡ Some s → There
    by true e = together b low e
    by false e = apart b low e

  found : (b : ℕ) (o : Option (Tid × Node)) → b < g.blocks → find (is_reusable b level) (fin.entries g.nodes) ≡ o
      → option_or (reused o) (fresh_on g b level) ≡ Some s → There
  found b None low of is = fresh b low is
  found b (Some e) low of is =
      let stands = fin.get-entries g.nodes e.0 ∙ stands_there tid_cmp tid_cmp_total (fin.entries g.nodes) (is_reusable b level) e (fin.entries_sorted g.nodes) of in
      subst (λ (t : Place). (t.at.block < g.blocks) × (t.list_at.block < g.blocks)) (same_Some _ s is) (on e.0 e.1 stands)

  -- on a block that is there, both its tuples stand on such blocks
  pub within_on : (b : ℕ) → place_on g b level ≡ Some s → There
  within_on b is =
      let both = if_some (nat_le 1 b && nat_lt b g.blocks) _ s is in
      found b _ (ltb-true b g.blocks (both_true _ _ both.0).1) refl both.1

  -- on new blocks, it stands on the next of all, and its list there or behind it
  pub placed_new : new_place g level ≡ Some s → (s.at.block ≡ g.blocks) × ((s.list_at.block ≡ g.blocks) ⊎ (s.list_at.block ≡ g.blocks + 1))
  placed_new is = by (fits_one_page g level) is where
    by : (t : Bool) → cond t (fresh_at g.blocks 1 g.blocks 2) (fresh_at g.blocks 1 (g.blocks + 1) 1) ≡ Some s
        → (s.at.block ≡ g.blocks) × ((s.list_at.block ≡ g.blocks) ⊎ (s.list_at.block ≡ g.blocks + 1))
    by true e = let k = fresh_blocks g.blocks 1 g.blocks 2 s e in (k.0, inl k.1)
    by false e = let k = fresh_blocks g.blocks 1 (g.blocks + 1) 1 s e in (k.0, inr k.1)
