-- Looks at rows: what they ask, and what they tell.
use Rattle.std.proofs.Common.{◌≡◌, ◌≤◌, ℕ, zero, suc, true, false, List, [], ◌∷◌, ◌++◌, map, length, slice_get, Option, Some, None, refl, sym, ap, subst, ◌∙◌, arith, take_all}
use Rattle.std.specs.Prelude.{◌==◌, Bool, cond, find}
use Rattle.std.specs.List.{flat_map}
use Rattle.std.specs.Option.{option_map}
use Rattle.std.proofs.lemmas.Bool.Decides.{nat_tests}
use Rattle.std.proofs.lemmas.Option.{same_Some, none-some}
use Rattle.vec_history.specs.declared.event.Act.{Act}
use Rattle.vec_history.specs.declared.event.Event.{Event}
use Rattle.vec_history.specs.Acts.{IsRising}
use Rattle.ivf_graph.specs.declared.list.IvfList.{IvfList}
use Rattle.ivf_graph.specs.declared.graph.IvfGraph.{IvfGraph}
use Rattle.ivf_graph.specs.Graph.{Part, Row, rows_on, AreBlocksOwn}
use Rattle.ivf_graph.specs.Effect.{after, state_after}
use Rattle.ivf_graph.specs.Legal as history
use Rattle.ivf_graph.specs.Lasting.{numbers}
use Rattle.ivf_graph.specs.Looks as list
use Rattle.ivf_graph.specs.Looks.{next_on, seen_from}
use Rattle.ivf_graph.specs.Looks.Look.{AtRows}
use Rattle.ivf_graph.specs.Looks.Answer.{OfRows}
use Rattle.ivf_graph.proofs.OnceFound.{next_slot, slot_later}
use Rattle.vec_steps.specs.declared.ask.Ask.{Ask}
use Rattle.vec_steps.specs.declared.ask.Ask.TheVariants as ask
use Rattle.vec_steps.specs.declared.told.Told.{Told}
use Rattle.vec_steps.specs.declared.fault.StepFault.TheVariants as fault
use Rattle.vec_steps.specs.Index.{Index, OfNodes, OfLists, IsShaped, IsLegal}
use Rattle.vec_steps.specs.Doing.{Step, viewed}
use Rattle.vec_steps.specs.Telling.{row_told}
use Rattle.vec_steps.specs.Desks.{Asks, Desk}
use Rattle.vec_steps.specs.Calls.{Acts, Happened, HappenedAt, Stepped}
use Rattle.vec_steps.proofs.Following.{acts_longer, one_step}
use Rattle.vec_steps.proofs.Lasting.{front_is}
use Rattle.ivf_ops.specs.Standing.{IsChained, IsThere, OverBlock}
use Rattle.ivf_ops.specs.Viewing.{AreViews, MadeViews}
use Rattle.ivf_ops.proofs.Views.{IsAskOfLook, no_event}

-- ---- a block of a chain has rows

same_is : (a b : ℕ) → a ≡ b → (a == b) ≡ true
same_is a b e = grind (arith, nat_tests)

abbrev HasRows : List Part → ℕ → Type 0
HasRows ps b = (rows : List Row) × (option_map (λ (p : Part). p.1) (find (λ p. p.0 == b) ps) ≡ Some rows)

one_more : (p : Part) (ps : List Part) (b : ℕ) → HasRows ps b → HasRows (p ∷ ps) b
one_more p ps b h = by_test (p.0 == b)
  where
    by_test : (t : Bool) → (rows : List Row) × (option_map (λ (q : Part). q.1) (cond t (Some p) (find (λ q. q.0 == b) ps)) ≡ Some rows)
    by_test true = (p.1, refl)
    by_test false = h

in_parts : (chain rest : List Part) (i b : ℕ) → slice_get (map (λ (p : Part). p.0) chain) i ≡ Some b → HasRows (chain ++ rest) b
in_parts [] rest i b is = absurd (none-some b is)
in_parts (p ∷ chain) rest zero b is = (
  p.1,
  ap (λ (t : Bool). option_map (λ (q : Part). q.1) (cond t (Some p) (find (λ q. q.0 == b) (chain ++ rest)))) (same_is p.0 b (same_Some p.0 b is)),
)
in_parts (p ∷ chain) rest (suc i) b is = one_more p (chain ++ rest) b (in_parts chain rest i b is)

in_rest : (front : List Part) (ps : List Part) (b : ℕ) → HasRows ps b → HasRows (front ++ ps) b
in_rest [] ps b h = h
in_rest (p ∷ front) ps b h = one_more p (front ++ ps) b (in_rest front ps b h)

in_lists : (ls : List IvfList) (j i b : ℕ) (l : IvfList) → slice_get ls j ≡ Some l → slice_get (numbers l) i ≡ Some b
    → HasRows (flat_map (λ (m : IvfList). m.chain) ls) b
in_lists [] j i b l is slot = absurd (none-some l is)
in_lists (m ∷ ls) zero i b l is slot =
    in_parts m.chain (flat_map (λ (k : IvfList). k.chain) ls) i b
    (ap (λ (k : IvfList). slice_get (numbers k) i) (same_Some m l is) ∙ slot)
in_lists (m ∷ ls) (suc j) i b l is slot = in_rest m.chain (flat_map (λ (k : IvfList). k.chain) ls) b (in_lists ls j i b l is slot)

rows_of_chained : (g : IvfGraph) (b : ℕ) → IsChained g b → (rows : List Row) × (rows_on g b ≡ Some rows)
rows_of_chained g b c = in_lists g.lists c.list c.place b c.of_list c.is_list c.is

pub rows_ask : {stands : Index → Type 0} {d : Desk} {acts : List Act} (block : ℕ) (base : Index) → OverBlock stands acts (Some block) base
    → Asks stands d acts (ask.Rows block) base
rows_ask block (OfNodes g) o = absurd o.there
rows_ask {acts = acts} block (OfLists g) o = record { stood = o.stood; may = rows_of_chained (after g acts) block o.there }

-- ---- what lasts

module _ (g : IvfGraph) (acts : List Act) (legal : history.IsLegal g acts) (own : AreBlocksOwn g) where
  at_end : (b : ℕ) → IsChained (state_after g acts (length acts)) b → IsChained (after g acts) b
  at_end b c = subst (λ (l : List Act). IsChained (after g l) b) (take_all (length acts) acts (omega arith)) c

  chained_since : (n : ℕ) → n ≤ length acts → (b : ℕ) → IsChained (state_after g acts n) b → IsChained (after g acts) b
  chained_since n met b c =
      let s = slot_later g acts legal own n (length acts) c.list c.place b met (record { of_list = c.of_list; is_list = c.is_list; is = c.is }) in
      at_end b (record { list = c.list; place = c.place; of_list = s.of_list; is_list = s.is_list; is = s.is })

  chained_next : (m n : ℕ) → m ≤ n → n ≤ length acts → (b y : ℕ) → IsChained (state_after g acts m) b
      → next_on (state_after g acts n) b ≡ Some y → IsChained (after g acts) y
  chained_next m n later met b y c e =
      let here = slot_later g acts legal own m n c.list c.place b later (record { of_list = c.of_list; is_list = c.is_list; is = c.is }) in
      let s = next_slot g acts legal own n c.list c.place b y here e in
      chained_since n met y (record { list = c.list; place = suc c.place; of_list = s.of_list; is_list = s.is_list; is = s.is })

-- a block that had its place before a call has it after the call
pub there_later : {desk : ℕ} {old new : List Act} {es : List Event} (block : ℕ) (base : Index) → IsShaped base → IsLegal base new
    → Acts desk old new es → IsThere old (Some block) base → IsThere new (Some block) base
there_later block (OfNodes g) shaped legal x there = absurd there
there_later {old = old} {new = new} block (OfLists g) shaped legal x there =
    chained_since g new legal shaped (length old) (acts_longer x) block (subst (λ (l : List Act). IsChained (after g l) block) (sym (front_is x)) there)

-- ---- one look

pub rows_looked : {stands : Index → Type 0} {d : Desk} {old new : List Act} {before now : List ℕ} {left : Ask} {told : Told} (block : ℕ)
    → Stepped (Asks stands d old (ask.Rows block)) d old new (ask.Rows block) left told → now ≡ before ++ told.at ∷ []
    → MadeViews (OverBlock stands old (Some block)) d old new before now ((AtRows block, OfRows (map row_told told.rows) told.next) ∷ [])
rows_looked {told = told} block s traced = record {
  course = (told.at, viewed (AtRows block) (Some (OfRows (map row_told told.rows) told.next))) ∷ [];
  does = one_step (rows_ask block) s;
  is = record { are = (refl, tt); traced = traced };
}

pub of_rows : (block : ℕ) → IsAskOfLook (ask.Rows block)
of_rows block d base acts fault.Memory cause h = h
of_rows block d base acts (fault.Disk count) cause h = h
of_rows block d base acts (fault.LogFull used size) cause h =
    no_event d (AtRows block) (OfRows (map row_told cause.told.rows) cause.told.next) cause.step cause.event cause.would cause.makes

told_next : (o : Option (List Row)) (rows : List list.RowSeen) (next of_block : Option ℕ)
    → Some (OfRows rows next) ≡ option_map (λ rs. OfRows (seen_from 1 rs) of_block) o → of_block ≡ next
told_next None rows next of_block is = absurd (none-some (OfRows rows next) (sym is))
told_next (Some rs) rows next of_block is = let same = same_Some (OfRows rows next) (OfRows (seen_from 1 rs) of_block) is in cc

-- the block that a look told to be the next has a place too
pub next_there : {over : Index → Type 0} {d : Desk} {old new : List Act} {before now : List ℕ} (block : ℕ) (rows : List list.RowSeen)
    (next : Option ℕ) → ((base : Index) → over base → IsShaped base) → ((base : Index) → over base → IsLegal base new)
    → ((base : Index) → over base → IsThere old (Some block) base)
    → MadeViews over d old new before now ((AtRows block, OfRows rows next) ∷ []) → (base : Index) → over base → IsThere new next base
next_there block rows None shaped legal there m base o = tt
next_there block rows (Some y) shaped legal there m (OfNodes g) o = absurd (there (OfNodes g) o)
next_there {over = over} {d} {old} {new} block rows (Some y) shaped legal there m (OfLists g) o =
    by_course m.course m.is.are (m.does.happened (OfLists g) o) m.does.rises
  where
    by_course : (course : List (ℕ × Step)) → AreViews course ((AtRows block, OfRows rows (Some y)) ∷ []) → Happened (OfLists g) new d course
        → IsRising (length old) (map (λ s. s.0) course) (length new) → IsChained (after g new) y
    by_course [] are h r = absurd are
    by_course (s ∷ course) are h r =
        let at = subst (HappenedAt (OfLists g) new d s.0) are.0 h.0 in
        chained_next g new (legal (OfLists g) o) (shaped (OfLists g) o) (length old) s.0 r.0 at.within block y
        (subst (λ (l : List Act). IsChained (after g l) block) (sym (front_is m.does.acts)) (there (OfLists g) o))
        (told_next (rows_on (state_after g new s.0) block) rows (Some y) (next_on (state_after g new s.0) block) at.says)
