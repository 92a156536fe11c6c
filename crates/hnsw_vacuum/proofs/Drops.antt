-- Dead rows of one node.
use Rattle.std.proofs.Common.{◌≡◌, ◌≢◌, inl, inr, ℕ, zero, suc, ◌+◌, ◌<◌, ◌==◌, ◌||◌, ◌^◌, not, if◌then◌else◌, Bool, true, false, List, [], ◌∷◌, ◌++◌, take, length, Option, refl, sym, ap, subst, ◌∙◌, arith}
use Rattle.std.proofs.lemmas.Bool.Decides.{nat_tests}
use Rattle.std.proofs.lemmas.List.{length-append, take_at}
use Rattle.list_values.specs.Masks.{kept}
use Rattle.vec_names.specs.declared.tid.Tid.{Tid}
use Rattle.vec_names.specs.declared.heap_id.HeapId.{HeapId}
use Rattle.vec_history.specs.declared.event.Act.{Act}
use Rattle.vec_history.specs.declared.stage.Stage.TheVariants.{Remove}
use Rattle.vec_history.proofs.ByActs.{cut}
use Rattle.vec_graph.specs.declared.node.Node.{Node}
use Rattle.vec_graph.specs.declared.graph.Graph.{Graph}
use Rattle.vec_graph.specs.Graph.{node_at}
use Rattle.vec_graph.specs.Shaped as nodes
use Rattle.vec_graph.specs.Legal.{IsAllowed}
use Rattle.vec_graph.specs.Legal as history
use Rattle.vec_graph.specs.Effect.{after}
use Rattle.graph_search.specs.Reads.{Seen}
use Rattle.graph_search.specs.Deeds.{is_stale}
use Rattle.vec_steps.specs.declared.ask.Ask.TheVariants as ask
use Rattle.vec_steps.specs.declared.told.Told.{Told}
use Rattle.vec_steps.specs.declared.told.Word.{Word}
use Rattle.vec_steps.specs.declared.told.Word.TheVariants as word
use Rattle.vec_steps.specs.Index.{Index, OfNodes, OfLists, IsLegal, IsShaped}
use Rattle.vec_steps.specs.Doing.{Step, cleaned, faulted, Cleaned, Drops, Left, Outdated, drop_reply}
use Rattle.vec_steps.specs.Telling.{drop_told}
use Rattle.vec_steps.specs.Desks.{Asks, Desk}
use Rattle.vec_steps.specs.Calls.{Acts, Does}
use Rattle.vec_steps.proofs.Following.{one_step}
use Rattle.hnsw_vacuum.specs.declared.judging.Mask.{Mask}
use Rattle.hnsw_vacuum.specs.declared.tally.Tally.{Tally}
use Rattle.hnsw_vacuum.specs.Masks.{AreJudged, AreNamed, IsMaskOf, dead_in}
use Rattle.hnsw_vacuum.specs.Tallies.{ChangesOnce, IsIdle, is_spent}
use Rattle.hnsw_vacuum.specs.Courses.{IsStepped, Making, OverGraphs}
use Rattle.hnsw_vacuum.specs.Dropping.{DropsNamed, DropsNode, IsDeadDrop, IsOfDrops, MakesDrops, MayDrop, NamesDead, StandsSeen, TakesDead, counts_drop, ids_asked}
use Rattle.hnsw_vacuum.proofs.Masking.{as_long, below, named_dead}
use Rattle.hnsw_vacuum.proofs.Lasts.{seen_lasts}
use Rattle.hnsw_vacuum.proofs.Stopped.{making_none}

-- the bases over which a node may lose rows
abbrev pub Dropping : (Index → Type 0) → List Act → ℕ → Seen → Index → Type 0
Dropping stands acts desk s = OverGraphs stands (λ g. MayDrop g acts desk s)

-- ---- nothing is asked

pub drops_nothing : {over : Index → Type 0} {d : Desk} (J : HeapId → Bool → Type 0) (acts : List Act) {P : List Step → Type 0} → P [] → MakesDrops J over d acts acts P
drops_nothing J acts p = record { course = []; made = making_none acts; is = p; traced = refl }

pub none_of_deleted : {over : Index → Type 0} {d : Desk} (J : HeapId → Bool → Type 0) (acts : List Act) (s : Seen) (t : Tally) → s.deleted ≡ true
    → MakesDrops J over d acts acts (DropsNode J s t t)
none_of_deleted J acts s t deleted =
    let none : DropsNode J s t t [] = record {
      answers = [];
      judged = subst (λ b. AreJudged J (ids_asked b s.ids) []) (sym deleted) tt;
      drops = record { same = refl; none = refl };
    } in
    drops_nothing J acts none

judged_all : (J : HeapId → Bool → Type 0) (s : Seen) (bs : List Bool) → s.deleted ≡ false → AreJudged J s.ids bs → AreJudged J (ids_asked s.deleted s.ids) bs
judged_all J s bs alive j = subst (λ b. AreJudged J (ids_asked b s.ids) bs) (sym alive) j

pub none_dead : {over : Index → Type 0} {d : Desk} (J : HeapId → Bool → Type 0) (acts : List Act) (s : Seen) (mask : Mask) (t : Tally) → s.deleted ≡ false
    → IsMaskOf J s.ids mask → mask.gone ≡ 0 → MakesDrops J over d acts acts (DropsNode J s t t)
none_dead J acts s mask t alive m none =
    let idle : IsIdle t t [] = record { same = refl; none = refl } in
    let is : DropsNode J s t t [] = record {
      answers = m.answers;
      judged = judged_all J s m.answers alive m.judged;
      drops = subst (λ n. DropsNamed s n (dead_in m.answers) t t []) (sym none ∙ m.gone_is) idle;
    } in
    drops_nothing J acts is

-- ---- a Drop is due

named_some : (s : Seen) (n dead : ℕ) (before now : Tally) (steps : List Step) → n ≢ 0 → ChangesOnce (Drops s.at s.version n) (counts_drop dead) before now steps
    → DropsNamed s n dead before now steps
named_some s zero dead before now steps some c = absurd (some refl)
named_some s (suc n) dead before now steps some c = c

changes_node : (J : HeapId → Bool → Type 0) (s : Seen) (mask : Mask) (before now : Tally) (steps : List Step) → s.deleted ≡ false → (m : IsMaskOf J s.ids mask)
    → mask.gone ≢ 0 → ChangesOnce (Drops s.at s.version mask.gone) (counts_drop mask.count) before now steps → DropsNode J s before now steps
changes_node J s mask before now steps alive m some c = record {
  answers = m.answers;
  judged = judged_all J s m.answers alive m.judged;
  drops = subst (λ n. DropsNamed s n (dead_in m.answers) before now steps) m.gone_is
      (subst (λ n. DropsNamed s mask.gone n before now steps) m.count_is (named_some s mask.gone mask.count before now steps some c));
}

pub drop_due : {over : Index → Type 0} {d : Desk} (J : HeapId → Bool → Type 0) (acts : List Act) (s : Seen) (mask : Mask) (t now : Tally) → s.deleted ≡ false
    → IsMaskOf J s.ids mask → mask.gone ≢ 0 → is_spent t.left ≡ true → now ≡ record t { due = true } → MakesDrops J over d acts acts (DropsNode J s t now)
drop_due J acts s mask t now alive m some spent is =
    let due : ChangesOnce (Drops s.at s.version mask.gone) (counts_drop mask.count) t now [] = inl (record { spent = spent; now_is = is; none = refl }) in
    drops_nothing J acts (changes_node J s mask t now [] alive m some due)

-- ---- a Drop is asked for

pub of_fault : (count : ℕ) → IsOfDrops (faulted count)
of_fault count = tt

pub dead_fault : (J : HeapId → Bool → Type 0) (base : Index) (acts : List Act) (count : ℕ) → TakesDead J base acts (faulted count)
dead_fault J (OfNodes g) acts count = tt
dead_fault J (OfLists g) acts count = tt

of_drops : (at : Tid) (version gone left : ℕ) (w : Word) → IsOfDrops (cleaned (Drops at version gone) (drop_told w left))
of_drops at version gone left word.Done = tt
of_drops at version gone left word.Meta = tt
of_drops at version gone left word.Node = tt
of_drops at version gone left word.List = tt
of_drops at version gone left word.Page = tt
of_drops at version gone left word.Rows = tt
of_drops at version gone left word.Centres = tt
of_drops at version gone left word.Gone = tt
of_drops at version gone left word.NoRoom = tt
of_drops at version gone left word.Full = tt
of_drops at version gone left word.Stale = tt
of_drops at version gone left word.Changed = tt
of_drops at version gone left word.NotJoined = tt
of_drops at version gone left word.Busy = tt

-- with one mask, of a node that is not deleted
module _ {stands : Index → Type 0} {d : Desk} {old : List Act} (J : HeapId → Bool → Type 0) (s : Seen) (mask : Mask) (alive : s.deleted ≡ false)
    (m : IsMaskOf J s.ids mask) (some : mask.gone ≢ 0) where
  pub may_drop : (base : Index) → Dropping stands old d.number s base → Asks stands d old (ask.Drop s.at s.version mask.gone) base
  may_drop (OfNodes g) o =
      let was = o.so.stands alive in
      let long : length m.answers ≡ length s.ids = as_long J s.ids m.answers m.judged in
      let more : length was.node.ids ≡ length s.ids + length was.more = ap (λ (l : List HeapId). length l) was.front ∙ length-append s.ids was.more in
      record {
        stood = o.stood;
        may = record {
          phase = o.so.phase;
          node = was.node;
          there = was.there;
          names_some = some;
          names_no_others = subst (λ n. n < 2 ^ length was.node.ids) (sym m.gone_is) (below (length was.node.ids) m.answers (omega (arith, long, more)));
        };
      }
  may_drop (OfLists g) o = absurd o.so

  module _ {new : List Act} {told : Told}
      (is : IsStepped (Asks stands d old (ask.Drop s.at s.version mask.gone)) d old new (ask.Drop s.at s.version mask.gone) told) where
    -- the history right before the step
    before : take told.at new ≡ old ++ is.made.came.others
    before =
        ap (take told.at) is.made.came.all
        ∙ take_at (old ++ is.made.came.others) _ told.at (length-append old is.made.came.others ∙ sym is.made.came.here)

    so_far : Acts d.number old (take told.at new) []
    so_far = record { more = is.made.came.others; all = before; own_are = is.made.came.foreign }

    same_is : (a b : ℕ) → a ≡ b → (a == b) ≡ true
    same_is a b e = grind (arith, nat_tests)

    fresh : (n : Node) → n.version ≡ s.version → n.deleted ≡ false → is_stale n s.version ≡ false
    fresh n same not_deleted =
        ap (λ b. b || not (n.version == s.version)) not_deleted ∙ ap not (same_is n.version s.version same)

    -- the node stands right before the Drop as it was read
    pub still_stands : (g : Graph) → nodes.IsShaped g → history.IsLegal g new → MayDrop g old d.number s → StandsSeen (after g (take told.at new)) s.at s.version s.ids
    still_stands g shaped legal may =
        seen_lasts g (cut (IsAllowed g) new told.at legal) so_far Remove tt may.phase s.at tt shaped s.version s.ids (may.stands alive)

    left_by : (g : Graph) (was : StandsSeen (after g (take told.at new)) s.at s.version s.ids)
        → drop_told told.word told.left ≡ drop_reply (node_at (after g (take told.at new)) s.at) s.version mask.gone
        → drop_told told.word told.left ≡ Left (length (kept mask.gone was.node.ids))
    left_by g was says =
        says ∙ ap (λ (o : Option Node). drop_reply o s.version mask.gone) was.there.stands
        ∙ ap (λ b. if b then Outdated else Left (length (kept mask.gone was.node.ids))) (fresh was.node was.there.of_version was.there.not_deleted)

    -- so it is not outdated
    pub drop_left : (g : Graph) (shaped : nodes.IsShaped g) (legal : history.IsLegal g new) (may : MayDrop g old d.number s)
        → drop_told told.word told.left ≡ drop_reply (node_at (after g (take told.at new)) s.at) s.version mask.gone
        → drop_told told.word told.left ≡ Left (length (kept mask.gone (still_stands g shaped legal may).node.ids))
    drop_left g shaped legal may says = left_by g (still_stands g shaped legal may) says

    taken_by : (g : Graph) (was : StandsSeen (after g (take told.at new)) s.at s.version s.ids)
        → drop_told told.word told.left ≡ drop_reply (node_at (after g (take told.at new)) s.at) s.version mask.gone
        → IsDeadDrop J (after g (take told.at new)) (cleaned (Drops s.at s.version mask.gone) (drop_told told.word told.left))
    taken_by g was says =
        let named : AreNamed (λ id. J id true) mask.gone was.node.ids =
        subst (λ (l : List HeapId). AreNamed (λ id. J id true) mask.gone l) (sym was.front)
        (subst (λ n. AreNamed (λ id. J id true) n (s.ids ++ was.more)) (sym m.gone_is) (named_dead J s.ids was.more m.answers m.judged)) in
        let names : NamesDead J (after g (take told.at new)) s.at mask.gone = record { node = was.node; stands = was.there.stands; dead = named } in
        subst (λ (r : Cleaned). IsDeadDrop J (after g (take told.at new)) (cleaned (Drops s.at s.version mask.gone) r)) (sym (left_by g was says)) names

    takes : (base : Index) → IsShaped base → IsLegal base new → Dropping stands old d.number s base
        → TakesDead J base (take told.at new) (cleaned (Drops s.at s.version mask.gone) (drop_told told.word told.left))
    takes (OfNodes g) shaped legal o = taken_by g (still_stands g shaped legal o.so) (is.made.says (OfNodes g) (may_drop (OfNodes g) o))
    takes (OfLists g) shaped legal o = absurd o.so

    pub drop_does : Does (Dropping stands old d.number s) d old new ((told.at, cleaned (Drops s.at s.version mask.gone) (drop_told told.word told.left)) ∷ [])
    drop_does = one_step may_drop is.made

    pub drop_made : ((base : Index) → Dropping stands old d.number s base → IsShaped base) → ((base : Index) → Dropping stands old d.number s base → IsLegal base new)
        → Making IsOfDrops (TakesDead J) (Dropping stands old d.number s) d old new
        ((told.at, cleaned (Drops s.at s.version mask.gone) (drop_told told.word told.left)) ∷ [])
    drop_made shaped legal = record {
      does = drop_does;
      only = (of_drops s.at s.version mask.gone told.left told.word, tt);
      so = λ base o. (takes base (shaped base o) (legal base o) o, tt);
    }

    pub dead_dropped : ((base : Index) → Dropping stands old d.number s base → IsShaped base) → ((base : Index) → Dropping stands old d.number s base → IsLegal base new)
        → (before now : Tally) → is_spent before.left ≡ false → now ≡ counts_drop mask.count (drop_told told.word told.left) before
        → MakesDrops J (Dropping stands old d.number s) d old new (DropsNode J s before now)
    dead_dropped shaped legal before now within counted = record {
      course = (told.at, cleaned (Drops s.at s.version mask.gone) (drop_told told.word told.left)) ∷ [];
      made = drop_made shaped legal;
      is = changes_node J s mask before now (cleaned (Drops s.at s.version mask.gone) (drop_told told.word told.left) ∷ []) alive m some
          (inr (record { within = within; reply = drop_told told.word told.left; now_is = counted; steps_are = refl }));
      traced = refl;
    }
