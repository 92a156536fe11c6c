-- What each kind of change is told, and the event that it makes.
use Rattle.std.proofs.Common.{◌≡◌, ℕ, ◌+◌, ◌^◌, ◌<◌, ◌≤◌, true, false, Bool, List, length, get_or, Option, Some, None, refl, sym, ap, ap₂, subst, ◌∙◌, arith}
use Rattle.std.specs.Prelude.{nat_le, if◌then◌else◌, All}
use Rattle.std.specs.Option.{option_map, option_and_then}
use Rattle.std.proofs.lemmas.Bool.{leb-true}
use Rattle.std.proofs.lemmas.Option.{slice_get-get_or}
use Rattle.index_sizes.specs.declared.limits.TheConstants.{MOST_BLOCKS}
use Rattle.vec_names.specs.declared.tid.Tid.{Tid}
use Rattle.vec_names.specs.declared.heap_id.HeapId.{HeapId}
use Rattle.vec_names.specs.declared.params.Params.{Params}
use Rattle.vec_names.specs.Places.{tid_of}
use Rattle.vec_names.proofs.PlaceLaws.{tid_of-some}
use Rattle.page_bytes.specs.Content.{Content, IsPage}
use Rattle.vec_tuples.specs.Reading.{links}
use Rattle.vec_graph.specs.declared.place.Place.{Place}
use Rattle.vec_graph.specs.declared.graph.Graph.{Graph}
use Rattle.vec_graph.specs.Places.{fits_one_page, fresh_place, fresh_at, new_blocks, new_place, place_on}
use Rattle.page_bytes.specs.declared.kind.PageKind.TheVariants.{Hnsw}
use Rattle.graph_pages.specs.Standing.{Stands}
use Rattle.page_redo.specs.Growing.{fresh_page}
use Rattle.graph_search.specs.Deeds.{join_reply, place_reply, slot_in}
use Rattle.graph_search.specs.Deeds as deed
use Rattle.ivf_graph.specs.declared.graph.IvfGraph.{IvfGraph}
use Rattle.ivf_pages.specs.Standing.{Stands as StandsForLists}
use Rattle.vec_steps.specs.declared.ask.NewNode.{NewNode}
use Rattle.vec_steps.specs.declared.ask.Ask.{Ask}
use Rattle.vec_steps.specs.declared.ask.Ask.TheVariants as ask
use Rattle.vec_steps.specs.declared.told.Told.{Told}
use Rattle.vec_steps.specs.declared.told.Word.{Word}
use Rattle.vec_steps.specs.declared.told.Word.TheVariants as word
use Rattle.vec_steps.specs.Index.{OfNodes, OfLists}
use Rattle.vec_steps.specs.Doing.{Ended, Relists, Drops, Marks, Adds, Extends, cleaned_events, placed_events, step_events, clear_reply, drop_reply, extend_reply}
use Rattle.vec_steps.specs.Telling.{step_of, node_of, put_told, put_new_told, join_told, link_told, clear_told, drop_told, add_told, extend_told, place_told}
use Rattle.vec_steps.specs.Calls.{made_by}
use Rattle.page_sets.specs.Sets.{PageMap, HasPages}
use Rattle.page_sets.specs.Telling.{read_on, next_on}
use Rattle.page_words.specs.declared.making.Making.{Making}
use Rattle.page_words.specs.declared.making.Making.TheVariants as making
use Rattle.page_words.specs.Placing.{place_with}
use Rattle.page_words.specs.Deciding.{events_of, asked_of, MayChange, MayChangeLists, SaysNow, head_node, head_read, links_clear, links_link, page_add, made_by_word, made_slot, made_at}
use Rattle.page_words.proofs.NodeWords.{head_says, links_clear_say, links_link_say}
use Rattle.page_words.proofs.RowWords.{add_says as row_says, next_says}
use Rattle.page_words.proofs.PutWords.{place_says}

-- ---- events

module _ (p : Params) (q : Ask) (t : Told) where
  abbrev pub Made : Making → Type 0
  Made m = made_by p (step_of q t Ended) ≡ events_of q m

made_as : (p : Params) (q r : Ask) (t : Told) (m n : Making) → q ≡ r → m ≡ n → Made p r t n → Made p q t m
made_as p q r t m n is same made =
    subst (λ (x : Ask). made_by p (step_of x t Ended) ≡ events_of x m) (sym is)
    (subst (λ (y : Making). made_by p (step_of r t Ended) ≡ events_of r y) (sym same) made)

module _ (p : Params) (q : Ask) (t : Told) (m : Making) where
  pub join_made : (at : Tid) (version : ℕ) (id : HeapId) → q ≡ ask.Join at version id → m ≡ made_by_word t.word → Made p q t m
  join_made at version id is same = made_as p q (ask.Join at version id) t m (made_by_word t.word) is same (by_word t.word)
    where
      by_word : (w : Word) → deed.reply_events p.m (deed.Joins at version id) (join_told w) ≡ events_of (ask.Join at version id) (made_by_word w)
      by_word word.Done = refl
      by_word word.NotJoined = refl
      by_word _ = refl

  pub link_made : (at list_at : Tid) (level version layer slot : ℕ) (held : Option Tid) (to : Tid) → q ≡ ask.Link at list_at level version layer slot held to
      → m ≡ made_slot t.word (slot_in p.m level layer slot) → Made p q t m
  link_made at list_at level version layer slot held to is same =
      made_as p q (ask.Link at list_at level version layer slot held to) t m (made_slot t.word (slot_in p.m level layer slot)) is same (by_word t.word)
    where
      by_word : (w : Word) → deed.reply_events p.m (deed.Links at list_at level version layer slot held to) (link_told w)
          ≡ events_of (ask.Link at list_at level version layer slot held to) (made_slot w (slot_in p.m level layer slot))
      by_word word.Done = refl
      by_word word.Changed = refl
      by_word _ = refl

  pub relist_made : (at list_at : Tid) (version : ℕ) (lists : List (Option Tid)) → q ≡ ask.Relist at list_at version lists → m ≡ made_by_word t.word → Made p q t m
  relist_made at list_at version lists is same = made_as p q (ask.Relist at list_at version lists) t m (made_by_word t.word) is same (by_word t.word)
    where
      by_word : (w : Word) → cleaned_events (Relists at list_at version lists) (clear_told w) ≡ events_of (ask.Relist at list_at version lists) (made_by_word w)
      by_word word.Done = refl
      by_word _ = refl

  pub drop_made : (at : Tid) (version gone : ℕ) → q ≡ ask.Drop at version gone → m ≡ made_by_word t.word → Made p q t m
  drop_made at version gone is same = made_as p q (ask.Drop at version gone) t m (made_by_word t.word) is same (by_word t.word)
    where
      by_word : (w : Word) → cleaned_events (Drops at version gone) (drop_told w t.left) ≡ events_of (ask.Drop at version gone) (made_by_word w)
      by_word word.Done = refl
      by_word _ = refl

  pub mark_made : (at list_at : Tid) (version : ℕ) → q ≡ ask.Mark at list_at version → m ≡ made_by_word t.word → Made p q t m
  mark_made at list_at version is same = made_as p q (ask.Mark at list_at version) t m (made_by_word t.word) is same (by_word t.word)
    where
      by_word : (w : Word) → cleaned_events (Marks at list_at version) (clear_told w) ≡ events_of (ask.Mark at list_at version) (made_by_word w)
      by_word word.Done = refl
      by_word _ = refl

  pub add_made : (block : ℕ) (id : HeapId) (bits : List Bool) → q ≡ ask.Add block id bits → m ≡ made_by_word t.word → Made p q t m
  add_made block id bits is same = made_as p q (ask.Add block id bits) t m (made_by_word t.word) is same (by_word t.word)
    where
      by_word : (w : Word) → placed_events (Adds block id bits) (add_told w t.next) ≡ events_of (ask.Add block id bits) (made_by_word w)
      by_word word.Done = refl
      by_word _ = refl

  pub entry_made : (to : Option Tid) (level : ℕ) → q ≡ ask.Entry to level → m ≡ making.Asked → Made p q t m
  entry_made to level is same = made_as p q (ask.Entry to level) t m making.Asked is same (by_entry to)
    where
      by_entry : (to : Option Tid) → Made p (ask.Entry to level) t making.Asked
      by_entry None = refl
      by_entry (Some to) = refl

  pub put_made : (block : ℕ) (node : NewNode) → q ≡ ask.Put block node → m ≡ made_at (place_told t.word t.tid t.list_at t.version) → Made p q t m
  put_made block node is same =
      made_as p q (ask.Put block node) t m (made_at (place_told t.word t.tid t.list_at t.version)) is same (by_place (place_told t.word t.tid t.list_at t.version))
    where
      by_place : (o : Option Place) → step_events p (put_told (node_of node) block o) ≡ events_of (ask.Put block node) (made_at o)
      by_place None = refl
      by_place (Some place) = refl

  pub put_new_made : (node : NewNode) → q ≡ ask.PutNew node → m ≡ made_at (place_told t.word t.tid t.list_at t.version) → Made p q t m
  put_new_made node is same =
      made_as p q (ask.PutNew node) t m (made_at (place_told t.word t.tid t.list_at t.version)) is same (by_place (place_told t.word t.tid t.list_at t.version))
    where
      by_place : (o : Option Place) → step_events p (put_new_told (node_of node) t o) ≡ events_of (ask.PutNew node) (made_at o)
      by_place None = refl
      by_place (Some place) = refl

pub extend_made : (p : Params) (q : Ask) (t : Told) (m : Making) (list last : ℕ) (id : HeapId) (bits : List Bool) → q ≡ ask.Extend list last id bits
    → placed_events (Extends list last id bits) (extend_told t.word t.tid t.next) ≡ events_of (ask.Extend list last id bits) m → Made p q t m
extend_made p q t m list last id bits is made = made_as p q (ask.Extend list last id bits) t m m is refl made

-- ---- places on new blocks

tid_there : (block off : ℕ) → block ≤ 32767 → 1 ≤ off → off < 2 ^ 16 → (at : Tid) × (tid_of block off ≡ Some at)
tid_there block off low some few =
    let at : Tid = record { block = block; off = off; within_blocks = low; counted_from_one = some; in_two_bytes = few } in (at, tid_of-some at)

-- where the index may have so many blocks more, there is a place on them
place_there : (g : Graph) (level : ℕ) → g.blocks + new_blocks g level ≤ MOST_BLOCKS → (place : Place) × (new_place g level ≡ Some place)
place_there g level fits = by_test (fits_one_page g level) fits
  where
    by_test : (b : Bool) → g.blocks + (if b then 1 else 2) ≤ MOST_BLOCKS
        → (place : Place) × ((if b then fresh_at g.blocks 1 g.blocks 2 else fresh_at g.blocks 1 (g.blocks + 1) 1) ≡ Some place)
    by_test true low =
        let a = tid_there g.blocks 1 (omega (arith, low)) (omega arith) (omega arith) in
        let b = tid_there g.blocks 2 (omega (arith, low)) (omega arith) (omega arith) in
        (record { at = a.0; list_at = b.0; version = 1 }, ap₂ fresh_place a.1 b.1)
    by_test false low =
        let a = tid_there g.blocks 1 (omega (arith, low)) (omega arith) (omega arith) in
        let b = tid_there (g.blocks + 1) 1 (omega (arith, low)) (omega arith) (omega arith) in
        (record { at = a.0; list_at = b.0; version = 1 }, ap₂ fresh_place a.1 b.1)

-- ---- what a graph says

module _ (p : Params) (set : PageMap) (pages : List Content) (g : Graph) (few : length pages ≤ MOST_BLOCKS) (all : All IsPage pages) (s : Stands pages g) (same : g.params ≡ p)
    (q : Ask) (t : Told) (has : HasPages set pages (asked_of q)) (may : MayChange g q) where
  abbrev pub Says : Type 0
  Says = SaysNow p (OfNodes g) (step_of q t Ended)

  says_as : (r : Ask) → q ≡ r → SaysNow p (OfNodes g) (step_of r t Ended) → Says
  says_as r is says = subst (λ (x : Ask). SaysNow p (OfNodes g) (step_of x t Ended)) (sym is) says

  has_as : (r : Ask) → q ≡ r → HasPages set pages (asked_of r)
  has_as r is = subst (λ (x : Ask). HasPages set pages (asked_of x)) is has

  may_as : (r : Ask) → q ≡ r → MayChange g r
  may_as r is = subst (MayChange g) is may

  pub join_says : (at : Tid) (version : ℕ) (id : HeapId) (held : Option Content) → q ≡ ask.Join at version id → held ≡ set at.block
      → join_told t.word ≡ join_reply (option_map head_node (head_read p held at.off)) version → Says
  join_says at version id held is here told =
      let r = ask.Join at version id in
      says_as r is (told ∙ head_says pages g p all s same (λ o. join_reply o version) (λ e l. refl) held at (here ∙ (has_as r is).0))

  pub drop_says : (at : Tid) (version gone : ℕ) (held : Option Content) → q ≡ ask.Drop at version gone → held ≡ set at.block
      → drop_told t.word t.left ≡ drop_reply (option_map head_node (head_read p held at.off)) version gone → Says
  drop_says at version gone held is here told =
      let r = ask.Drop at version gone in
      says_as r is (told ∙ head_says pages g p all s same (λ o. drop_reply o version gone) (λ e l. refl) held at (here ∙ (has_as r is).0))

  pub mark_says : (at list_at : Tid) (version : ℕ) (held : Option Content) → q ≡ ask.Mark at list_at version → held ≡ set at.block
      → clear_told t.word ≡ clear_reply (option_map head_node (head_read p held at.off)) version → Says
  mark_says at list_at version held is here told =
      let r = ask.Mark at list_at version in
      says_as r is (told ∙ head_says pages g p all s same (λ o. clear_reply o version) (λ e l. refl) held at (here ∙ (has_as r is).0))

  pub relist_says : (at list_at : Tid) (version : ℕ) (lists : List (Option Tid)) (held : Option Content) → q ≡ ask.Relist at list_at version lists → held ≡ set list_at.block
      → clear_told t.word ≡ links_clear (read_on (links p) held list_at.off) version → Says
  relist_says at list_at version lists held is here told =
      let r = ask.Relist at list_at version lists in
      let m = may_as r is in
      says_as r is (told ∙ links_clear_say pages g p all s same held at list_at m.0 version (here ∙ (has_as r is).0) m.1)

  pub link_says : (at list_at : Tid) (level version layer slot : ℕ) (was : Option Tid) (to : Tid) (held : Option Content)
      → q ≡ ask.Link at list_at level version layer slot was to → held ≡ set list_at.block
      → link_told t.word ≡ links_link p.m (read_on (links p) held list_at.off) level version layer slot was → Says
  link_says at list_at level version layer slot was to held is here told =
      let r = ask.Link at list_at level version layer slot was to in
      let m = may_as r is in
      says_as r is (told ∙ links_link_say pages g p all s same held at list_at level version layer slot was (here ∙ (has_as r is).0) m.0 m.2)

  pub entry_says : (to : Option Tid) (level : ℕ) → q ≡ ask.Entry to level → Says
  entry_says to level is = says_as (ask.Entry to level) is (by_entry to)
    where
      by_entry : (to : Option Tid) → SaysNow p (OfNodes g) (step_of (ask.Entry to level) t Ended)
      by_entry None = refl
      by_entry (Some to) = refl

  pub put_says : (block : ℕ) (node : NewNode) (held behind : Option Content) → q ≡ ask.Put block node → held ≡ set block → (block < g.blocks → behind ≡ set (block + 1))
      → place_told t.word t.tid t.list_at t.version ≡ option_and_then (λ (c : Content). place_with p block node.level c behind) held → Says
  put_says block node held behind is here after told =
      let r = ask.Put block node in
      let h = has_as r is in
      let m = may_as r is in
      let low : block < length pages = omega (arith, m.1, s.blocks) in
      let there = slice_get-get_or pages block (fresh_page Hnsw) low in
      let c = get_or pages block (fresh_page Hnsw) in
      let place : place_told t.word t.tid t.list_at t.version ≡ place_on g block node.level =
      told ∙ ap (option_and_then (λ (c : Content). place_with p block node.level c behind)) (here ∙ h.0 ∙ there)
      ∙ place_says pages g p few all s same block node.level c there m.0 behind (after m.1 ∙ h.1.0) m.1 in
      says_as r is (by_place (place_told t.word t.tid t.list_at t.version) (ap place_reply place))
    where
      by_place : (o : Option Place) → place_reply o ≡ place_reply (place_on g block node.level) → SaysNow p (OfNodes g) (Some (put_told (node_of node) block o))
      by_place None e = e
      by_place (Some place) e = e

  pub put_new_says : (node : NewNode) (blocks : ℕ) → q ≡ ask.PutNew node → blocks ≡ g.blocks → t.blocks ≡ blocks → t.need ≡ new_blocks g node.level
      → place_told t.word t.tid t.list_at t.version ≡ (if nat_le (g.blocks + new_blocks g node.level) MOST_BLOCKS then new_place g node.level else None) → Says
  put_new_says node blocks is count counted need told = says_as (ask.PutNew node) is (by_place (place_told t.word t.tid t.list_at t.version) told)
    where
      full : (test : Bool) (o : Option Place) → (test ≡ true → (place : Place) × (o ≡ Some place)) → None ≡ (if test then o else None)
          → (if test then place_reply o else deed.Full) ≡ deed.Full
      full true o there e = let place = there refl in let both : None ≡ Some place.0 = e ∙ place.1 in absurd (none_some place.0 both)
        where
          none_some : (x : Place) → None ≡ Some x → ⊥
          none_some x e = absurd cc
      full false o there e = refl

      placed : (test : Bool) (o : Option Place) (place : Place) → Some place ≡ (if test then o else None)
          → deed.Placed place ≡ (if test then place_reply o else deed.Full)
      placed true o place e = ap place_reply e
      placed false o place e = absurd cc

      by_place : (o : Option Place) → o ≡ (if nat_le (g.blocks + new_blocks g node.level) MOST_BLOCKS then new_place g node.level else None)
          → SaysNow p (OfNodes g) (Some (put_new_told (node_of node) t o))
      by_place None e = record {
        full = full (nat_le (g.blocks + new_blocks g node.level) MOST_BLOCKS) (new_place g node.level)
            (λ fits. place_there g node.level (leb-true (g.blocks + new_blocks g node.level) MOST_BLOCKS fits)) e;
        blocks_are = counted ∙ count;
        need_is = need;
      }
      by_place (Some place) e = placed (nat_le (g.blocks + new_blocks g node.level) MOST_BLOCKS) (new_place g node.level) place e

-- ---- what lists say

module _ (p : Params) (set : PageMap) (pages : List Content) (g : IvfGraph) (all : All IsPage pages) (s : StandsForLists p pages g)
    (q : Ask) (t : Told) (has : HasPages set pages (asked_of q)) (may : MayChangeLists g q) where
  abbrev pub SaysToo : Type 0
  SaysToo = SaysNow p (OfLists g) (step_of q t Ended)

  pub add_says : (block : ℕ) (id : HeapId) (bits : List Bool) (held : Option Content) → q ≡ ask.Add block id bits → held ≡ set block
      → add_told t.word t.next ≡ page_add held (length bits) → SaysToo
  add_says block id bits held is here told =
      let r = ask.Add block id bits in
      let h = subst (λ (x : Ask). HasPages set pages (asked_of x)) is has in
      let m = subst (MayChangeLists g) is may in
      subst (λ (x : Ask). SaysNow p (OfLists g) (step_of x t Ended)) (sym is)
      (told ∙ row_says p pages g all s block m.0 held (length bits) m.1 (here ∙ h.0))

  pub extend_says : (list last : ℕ) (id : HeapId) (bits : List Bool) (held : Option Content) (blocks : ℕ) → q ≡ ask.Extend list last id bits → held ≡ set last
      → blocks ≡ g.blocks → extend_told t.word t.tid t.next ≡ extend_reply (next_on held) blocks → SaysToo
  extend_says list last id bits held blocks is here count told =
      let h = subst (λ (x : Ask). HasPages set pages (asked_of x)) is has in
      let m = subst (MayChangeLists g) is may in
      subst (λ (x : Ask). SaysNow p (OfLists g) (step_of x t Ended)) (sym is)
      (told ∙ ap₂ extend_reply (next_says p pages g all s last m.0 held m.1 (here ∙ h.0)) count)
