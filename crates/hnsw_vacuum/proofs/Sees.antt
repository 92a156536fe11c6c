-- Which rows of the table are taken out of the nodes of a page.
use Rattle.std.proofs.Common.{◌≡◌, ◌≢◌, ◌⊎◌, inl, inr, ℕ, zero, suc, ◌+◌, ◌≤◌, Bool, true, false, List, [], ◌∷◌, ◌++◌, length, take, map, slice_get, Some, refl, sym, ap, subst, ◌∙◌, arith, true≢false}
use Rattle.std.specs.List.{AllByRecursion}
use Rattle.std.proofs.lemmas.Option.{none-some, same_Some}
use Rattle.vec_names.specs.declared.tid.Tid.{Tid}
use Rattle.vec_names.specs.declared.heap_id.HeapId.{HeapId}
use Rattle.vec_history.specs.declared.event.Act.{Act}
use Rattle.vec_history.specs.declared.stage.Stage.TheVariants.{Remove}
use Rattle.vec_history.specs.Acts.{IsActAt}
use Rattle.vec_history.proofs.OneMore.{in_longer}
use Rattle.vec_history.specs.declared.event.Event.{Event}
use Rattle.vec_history.specs.declared.event.Event.TheVariants as event
use Rattle.vec_graph.specs.declared.node.Node.{Node}
use Rattle.vec_graph.specs.declared.graph.Graph.{Graph}
use Rattle.vec_graph.specs.Graph.{node_at}
use Rattle.vec_graph.specs.Shaped as nodes
use Rattle.vec_graph.specs.Legal as history
use Rattle.vec_graph.specs.Effect.{after}
use Rattle.graph_search.specs.Reads.{Seen}
use Rattle.vec_steps.specs.declared.ask.Ask.TheVariants as ask
use Rattle.vec_steps.specs.declared.told.Told.{Told}
use Rattle.vec_steps.specs.Index.{Index, OfNodes, OfLists, IsLegal, IsShaped}
use Rattle.vec_steps.specs.Doing.{Cleaned, Drops, cleaned, step_events}
use Rattle.vec_steps.specs.Telling.{drop_told}
use Rattle.vec_steps.specs.Desks.{Asks, Desk}
use Rattle.vec_steps.specs.Calls.{Acts}
use Rattle.graph_search.specs.Deeds.{IsMadeAt}
use Rattle.hnsw_vacuum.specs.declared.judging.Mask.{Mask}
use Rattle.hnsw_vacuum.specs.declared.tally.Tally.{Tally}
use Rattle.hnsw_vacuum.specs.Masks.{IsMaskOf}
use Rattle.hnsw_vacuum.specs.Courses.{IsStepped, OverGraphs}
use Rattle.hnsw_vacuum.specs.Dropping.{AreSeenApart, DropsNode, MakesDrops, StandsSeen}
use Rattle.hnsw_vacuum.specs.Taking.{IsEntry, IsNamed, IsOfNode, IsOfNodes, IsPlaceOf, IsPlaceOfAny, SeesTo, SeesToOver, TakesEntry}
use Rattle.hnsw_vacuum.proofs.Drops.{Dropping, drop_does, drop_left, may_drop, still_stands}
use Rattle.hnsw_vacuum.proofs.InOrder.{DroppingAll, kept_at, quiet}
use Rattle.hnsw_vacuum.proofs.Entries.{entry_lasts, in_front, named_at, none_named, sees_then}

-- ---- one node

-- the id of this number, as the page told it
told_id : {g : Graph} {s : Seen} {at : Tid} {n : ℕ} {id : HeapId} → IsOfNode s at n → StandsSeen g s.at s.version s.ids → IsEntry g at n id → slice_get s.ids n ≡ Some id
told_id {g} {s} {at} {n} {id} of was e =
    let one : e.node ≡ was.node = same_Some e.node was.node (sym e.stands ∙ ap (node_at g) of.same ∙ was.there.stands) in
    in_front s.ids was.more n id of.told (ap (λ (l : List HeapId). slice_get l n) (sym was.front) ∙ ap (λ (m : Node). slice_get m.ids n) (sym one) ∙ e.is)

-- nothing was done, since none can be dead
nothing_seen : {J : HeapId → Bool → Type 0} {s : Seen} {g : Graph} {acts : List Act} {desk : ℕ}
    → ((at : Tid) (n : ℕ) (id : HeapId) → IsOfNode s at n → IsEntry (after g acts) at n id → (J id false → ⊥) → ⊥) → SeesTo J (IsOfNode s) (IsPlaceOf s) g acts acts desk
nothing_seen none = record {
  taken = λ at n id of e dead. absurd (none at n id of e dead);
  kept = λ at n id apart e. e;
}

pub deleted_seen : {stands : Index → Type 0} {acts : List Act} {desk : ℕ} (J : HeapId → Bool → Type 0) (s : Seen) → s.deleted ≡ true → (base : Index)
    → Dropping stands acts desk s base → SeesToOver J (IsOfNode s) (IsPlaceOf s) acts acts desk base
deleted_seen J s deleted (OfNodes g) o = record { so = nothing_seen (λ at n id of e dead. absurd (true≢false (sym deleted ∙ of.not_deleted))) }
deleted_seen J s deleted (OfLists g) o = absurd o.so

pub alive_seen : {stands : Index → Type 0} {acts : List Act} {desk : ℕ} (J : HeapId → Bool → Type 0) (s : Seen) (mask : Mask) → s.deleted ≡ false → IsMaskOf J s.ids mask
    → mask.gone ≡ 0 → (base : Index) → Dropping stands acts desk s base → SeesToOver J (IsOfNode s) (IsPlaceOf s) acts acts desk base
alive_seen J s mask alive m none (OfNodes g) o = record {
  so = nothing_seen (λ at n id of e dead.
      none_named n (subst (IsNamed n) (sym m.gone_is ∙ none) (named_at J s.ids m.answers n id m.judged (told_id of (o.so.stands alive) e) dead)));
}
alive_seen J s mask alive m none (OfLists g) o = absurd o.so

pub due_seen : {stands : Index → Type 0} {acts : List Act} {desk : ℕ} (J : HeapId → Bool → Type 0) (s : Seen) (before now : Tally) → now ≡ record before { due = true }
    → now.due ≡ false → (base : Index) → Dropping stands acts desk s base → SeesToOver J (IsOfNode s) (IsPlaceOf s) acts acts desk base
due_seen J s before now is going base o = absurd (true≢false (sym (ap (λ (t : Tally). t.due) is) ∙ going))

-- a Drop was asked for
module _ {stands : Index → Type 0} {d : Desk} {old new : List Act} {told : Told} (J : HeapId → Bool → Type 0) (s : Seen) (mask : Mask) (alive : s.deleted ≡ false)
    (m : IsMaskOf J s.ids mask) (some : mask.gone ≢ 0)
    (is : IsStepped (Asks stands d old (ask.Drop s.at s.version mask.gone)) d old new (ask.Drop s.at s.version mask.gone) told) {before now : Tally}
    (x : MakesDrops J (Dropping stands old d.number s) d old new (DropsNode J s before now)) where
  drop_act : (g : Graph) → Dropping stands old d.number s (OfNodes g) → nodes.IsShaped g → history.IsLegal g new → IsActAt new told.at d.number (event.Drop s.at s.version mask.gone)
  drop_act g o shaped legal =
      let left = drop_left J s mask alive m some is g shaped legal o.so (is.made.says (OfNodes g) (may_drop J s mask alive m some (OfNodes g) o)) in
      let made : IsMadeAt new d.number told.at (step_events d.params (cleaned (Drops s.at s.version mask.gone) (drop_told told.word told.left))) =
      (let h = (drop_does J s mask alive m some is).happened (OfNodes g) o in h.0.made) in
      subst (λ (r : Cleaned). IsMadeAt new d.number told.at (step_events d.params (cleaned (Drops s.at s.version mask.gone) r))) left made

  node_taken : (g : Graph) → Dropping stands old d.number s (OfNodes g) → nodes.IsShaped g → history.IsLegal g new → (at : Tid) (n : ℕ) (id : HeapId) → IsOfNode s at n
      → IsEntry (after g old) at n id → (J id false → ⊥) → TakesEntry g old new d.number at n id
  node_taken g o shaped legal at n id of e dead =
      let was = still_stands J s mask alive m some is g shaped legal o.so in
      let id_is = told_id of (o.so.stands alive) e in
      let t : TakesEntry g old new d.number s.at n id = record {
        position = told.at;
        since = let here = is.made.came.here in omega (arith, here);
        version = s.version;
        gone = mask.gone;
        made = drop_act g o shaped legal;
        entry = record {
          node = was.node;
          stands = was.there.stands;
          not_deleted = was.there.not_deleted;
          is = subst (λ (l : List HeapId). slice_get l n ≡ Some id) (sym was.front) (in_longer s.ids was.more n id id_is);
        };
        named = subst (IsNamed n) (sym m.gone_is) (named_at J s.ids m.answers n id m.judged id_is dead);
      } in
      subst (λ (q : Tid). TakesEntry g old new d.number q n id) (sym of.same) t

  pub node_seen : (base : Index) → Dropping stands old d.number s base → IsShaped base → IsLegal base new
      → SeesToOver J (IsOfNode s) (IsPlaceOf s) old new d.number base
  node_seen (OfNodes g) o shaped legal = record {
    so = record {
      taken = node_taken g o shaped legal;
      kept = λ at n id apart e.
          entry_lasts g shaped legal x.made.does.acts Remove (quiet d.params x.course x.made.only) o.so.phase at n id (kept_at J g shaped legal x at (λ e. apart (sym e))) e;
    };
  }
  node_seen (OfLists g) o shaped legal = absurd o.so

-- ---- nodes in turn

pub none_seen : {J : HeapId → Bool → Type 0} {acts : List Act} {desk : ℕ} {stands : Index → Type 0} {So : Graph → Type 0} (base : Index) → OverGraphs stands So base
    → SeesToOver J (IsOfNodes []) (IsPlaceOfAny []) acts acts desk base
none_seen (OfNodes g) o = record { so = record { taken = λ at n id of e dead. absurd of; kept = λ at n id apart e. e } }
none_seen (OfLists g) o = absurd o.so

-- two calls after each other, by the same desk
pub both_seen : {J : HeapId → Bool → Type 0} {A B C : Tid → ℕ → Type 0} {TA TB TC : Tid → Type 0} {old mid new : List Act} {d e : Desk} {es : List Event} → e ≡ d
    → length old ≤ length mid → Acts e.number mid new es → ((at : Tid) (n : ℕ) → C at n → A at n ⊎ ((TA at → ⊥) × B at n))
    → ((at : Tid) → (TC at → ⊥) → (TA at → ⊥) × (TB at → ⊥)) → (base : Index) → SeesToOver J A TA old mid d.number base → SeesToOver J B TB mid new e.number base
    → SeesToOver J C TC old new d.number base
both_seen {J} {B = B} {TB = TB} {mid = mid} {new = new} same longer x which apart (OfNodes g) first second = record {
  so = sees_then x.more longer x.all which apart first.so (subst (λ (k : Desk). SeesTo J B TB g mid new k.number) same second.so);
}
both_seen same longer x which apart (OfLists g) first second = absurd first.so

any_front : (xs ys : List Seen) (at : Tid) → IsPlaceOfAny xs at → IsPlaceOfAny (xs ++ ys) at
any_front [] ys at any = absurd any
any_front (x ∷ xs) ys at (inl same) = inl same
any_front (x ∷ xs) ys at (inr any) = inr (any_front xs ys at any)

any_last : (xs : List Seen) (s : Seen) (at : Tid) → IsPlaceOf s at → IsPlaceOfAny (xs ++ s ∷ []) at
any_last [] s at same = inl same
any_last (x ∷ xs) s at same = inr (any_last xs s at same)

last_or_front : (xs : List Seen) (s : Seen) (at : Tid) (n : ℕ) → IsOfNodes (xs ++ s ∷ []) at n → IsOfNodes xs at n ⊎ IsOfNode s at n
last_or_front [] s at n (inl of) = inr of
last_or_front [] s at n (inr of) = absurd of
last_or_front (x ∷ xs) s at n (inl of) = inl (inl of)
last_or_front (x ∷ xs) s at n (inr of) =
    elim (last_or_front xs s at n of) as (λ _. IsOfNodes (x ∷ xs) at n ⊎ IsOfNode s at n) [
      | inl front ↦ inl (inr front)
      | inr last ↦ inr last
    ]

of_one_more : (xs : List Seen) (s : Seen) → (IsPlaceOfAny xs s.at → ⊥) → (at : Tid) (n : ℕ) → IsOfNodes (xs ++ s ∷ []) at n
    → IsOfNodes xs at n ⊎ ((IsPlaceOfAny xs at → ⊥) × IsOfNode s at n)
of_one_more xs s apart at n of =
    elim (last_or_front xs s at n of) as (λ _. IsOfNodes xs at n ⊎ ((IsPlaceOfAny xs at → ⊥) × IsOfNode s at n)) [
      | inl front ↦ inl front
      | inr last ↦ inr (λ any. apart (subst (IsPlaceOfAny xs) last.same any), last)
    ]

all_at : {X : Type 0} (P : X → Type 0) (xs : List X) (y : X) (ys : List X) → AllByRecursion P (xs ++ y ∷ ys) → P y
all_at P [] y ys all = all.0
all_at P (x ∷ xs) y ys all = all_at P xs y ys all.1

apart_front : (xs : List Seen) (s : Seen) (ys : List Seen) → AreSeenApart (xs ++ s ∷ ys) → IsPlaceOfAny xs s.at → ⊥
apart_front [] s ys apart any = any
apart_front (x ∷ xs) s ys apart (inl same) = all_at (λ (t : Seen). t.at ≡ x.at → ⊥) xs s ys apart.0 same
apart_front (x ∷ xs) s ys apart (inr any) = apart_front xs s ys apart.1 any

-- the nodes before this one, and this one
pub next_seen : {stands : Index → Type 0} {J : HeapId → Bool → Type 0} {old mid new : List Act} {d e : Desk} {es : List Event} (all front next left : List Seen) (s : Seen)
    → e ≡ d → length old ≤ length mid → Acts e.number mid new es → all ≡ front ++ left → left ≡ s ∷ next → (base : Index) → DroppingAll stands old d.number all base
    → SeesToOver J (IsOfNodes front) (IsPlaceOfAny front) old mid d.number base → SeesToOver J (IsOfNode s) (IsPlaceOf s) mid new e.number base
    → SeesToOver J (IsOfNodes (front ++ s ∷ [])) (IsPlaceOfAny (front ++ s ∷ [])) old new d.number base
next_seen all front next left s same longer x all_is left_is (OfNodes g) o first second =
    let apart : IsPlaceOfAny front s.at → ⊥ = apart_front front s next
    (subst (λ (l : List Seen). AreSeenApart (front ++ l)) left_is (subst AreSeenApart all_is o.so.apart)) in
    both_seen same longer x (of_one_more front s apart)
    (λ at not. (λ any. not (any_front front (s ∷ []) at any), λ same. not (any_last front s at same))) (OfNodes g) first second
next_seen all front next left s same longer x all_is left_is (OfLists g) o first second = absurd first.so

take_one : {X Y : Type 0} (f : X → Y) (k : ℕ) (xs : List X) (x : X) → slice_get xs k ≡ Some x → take (suc k) (map f xs) ≡ take k (map f xs) ++ f x ∷ []
take_one f k [] x is = absurd (none-some x is)
take_one f zero (y ∷ xs) x is = ap (λ z. f z ∷ []) (same_Some y x is)
take_one f (suc k) (y ∷ xs) x is = ap (λ l. f y ∷ l) (take_one f k xs x is)

pub take_next : {X Y : Type 0} (f : X → Y) (k : ℕ) (xs : List X) (x : X) → slice_get xs k ≡ Some x → take k (map f xs) ++ f x ∷ [] ≡ take (k + 1) (map f xs)
take_next f k xs x is =
    let e : suc k ≡ k + 1 = omega arith in
    sym (take_one f k xs x is) ∙ ap (λ n. take n (map f xs)) e

pub seen_of_all : {J : HeapId → Bool → Type 0} {old new : List Act} {desk : ℕ} {front all : List Seen} → front ≡ all → (base : Index)
    → SeesToOver J (IsOfNodes front) (IsPlaceOfAny front) old new desk base → SeesToOver J (IsOfNodes all) (IsPlaceOfAny all) old new desk base
seen_of_all {J} {old} {new} {desk} is base x = subst (λ (l : List Seen). SeesToOver J (IsOfNodes l) (IsPlaceOfAny l) old new desk base) is x

pub take_whole : {X Y : Type 0} (f : X → Y) (k : ℕ) (xs : List X) → length xs ≤ k → take k (map f xs) ≡ map f xs
take_whole f zero [] h = refl
take_whole f (suc k) [] h = refl
take_whole f zero (x ∷ xs) h = absurd (omega (arith, h))
take_whole f (suc k) (x ∷ xs) h = ap (λ l. f x ∷ l) (take_whole f k xs (omega (arith, h)))
