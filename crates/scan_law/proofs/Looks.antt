-- What a look of a desk tells that holds Scan, at a place that it has touched.
use Rattle.std.proofs.Common.{◌≡◌, ℕ, ◌<◌, ◌≤◌, ◌||◌, ◌==◌, not, nat_lt, Bool, true, false, cond, List, [], ◌∷◌, length, take, Option, Some, None, sym, ap, subst, ◌∙◌, arith, length-take, eq-eqb}
use Rattle.std.proofs.lemmas.Option.{same_Some, slice_get_within}
use Rattle.vec_names.specs.declared.tid.Tid.{Tid}
use Rattle.vec_names.specs.declared.heap_id.HeapId.{HeapId}
use Rattle.vec_names.specs.declared.params.Ops.{Ops}
use Rattle.bit_dist.specs.Distances.{distance_of}
use Rattle.list_values.proofs.Parts.{in_part, in_whole}
use Rattle.vec_history.specs.declared.event.Act.{Act}
use Rattle.vec_history.specs.declared.gate.Gate.TheVariants.{Scan}
use Rattle.vec_history.specs.declared.gate.Hold.{Hold}
use Rattle.vec_history.specs.Gates.{HoldsSince}
use Rattle.vec_graph.specs.declared.node.Node.{Node}
use Rattle.vec_graph.specs.declared.graph.Graph.{Graph}
use Rattle.vec_graph.specs.Graph.{node_at, layer_slots, HasMember}
use Rattle.vec_graph.specs.Effect.{state_after}
use Rattle.vec_graph.specs.Legal.{IsLegal}
use Rattle.vec_graph.specs.Sound.{IsSound, IsAsHigh}
use Rattle.vec_graph.specs.Shaped.{IsShaped}
use Rattle.vec_graph.proofs.Shaping.{on_blocks_of, shaped_after}
use Rattle.vec_history.proofs.ByActs.{cut}
use Rattle.vec_graph.specs.Legal.{IsAllowed}
use Rattle.neighbour_pick.specs.declared.found.Found.{Found}
use Rattle.neighbour_pick.proofs.Choosing.{All_of}
use Rattle.graph_search.specs.Reads.{AtNode, AtList, Answer, Gone, OfNode, OfList, node_answer, list_answer, answer_of}
use Rattle.graph_search.specs.Search.{element_of, named_in, filled}
use Rattle.graph_search.proofs.WhereFrom.{all_weaker}
use Rattle.graph_law.specs.Touching.{IsTouchedAt, as_entry, as_member}
use Rattle.graph_law.proofs.Touched.{touched_within}
use Rattle.graph_law.proofs.Entering.{entry_high}
use Rattle.graph_law.proofs.Facts.{scan_same}
use Rattle.graph_law.proofs.ActByAct.{scan_not_deleted, scan_high}
use Rattle.scan_law.specs.Reading.{places_named}
use Rattle.scan_law.proofs.Lists.{layer_members}

-- the element that a look at a node tells
pub node_element : Ops → List Bool → Tid → Node → Found
node_element ops query at u = record {
  at = at;
  list_at = u.list_at;
  level = u.level;
  version = u.version;
  dist = distance_of ops query u.bits;
  ids = record { items = u.ids };
  bits = u.bits;
}

-- a look at a node tells it
node_told : (layer : ℕ) (u : Node) → u.deleted ≡ false → nat_lt u.level layer ≡ false
    → node_answer (Some u) layer None ≡ OfNode u.level u.version u.list_at u.ids u.bits
node_told layer u there high =
    ap (λ (b : Bool). cond b Gone (OfNode u.level u.version u.list_at u.ids u.bits))
    (ap (λ (b : Bool). b || (nat_lt u.level layer || not true)) there ∙ ap (λ (b : Bool). b || not true) high)

node_is_told : (level version : ℕ) (list_at : Tid) (ids : List HeapId) (bits : List Bool) → OfNode level version list_at ids bits ≡ Gone → ⊥
node_is_told level version list_at ids bits is = absurd cc

list_is_told : (slots : List (Option Tid)) → OfList slots ≡ Gone → ⊥
list_is_told slots is = absurd cc

list_told : (m layer version : ℕ) (u : Node) → u.deleted ≡ false → u.version ≡ version
    → list_answer m (Some u) version layer ≡ OfList (layer_slots m u.level layer u.slots)
list_told m layer version u there same =
    ap (λ (b : Bool). cond b Gone (OfList (layer_slots m u.level layer u.slots)))
    (ap (λ (b : Bool). b || not (u.version == version)) there ∙ ap not (eq-eqb u.version version same))

not_below : (layer level : ℕ) → layer ≤ level → nat_lt level layer ≡ false
not_below layer level high = grind arith

module _ (base : Graph) (shaped : IsShaped base) (sound : IsSound base) (acts : List Act) (legal : IsLegal base acts) (desk since until : ℕ) (hold : Hold)
    (reached : until ≤ length acts) (holds : HoldsSince (take until acts) desk Scan hold since) where
  -- it held the gate at each position before
  pub holds_at : (n : ℕ) → since < n → n ≤ until → HoldsSince (take n acts) desk Scan hold since
  holds_at n later low = record {
    taken = in_part n acts since _ later (in_whole until acts since _ holds.taken);
    kept = λ i a behind is of.
        let early : i < length (take n acts) = slice_get_within (take n acts) i a is in
        holds.kept i a behind (in_part until acts i a (omega (arith, early, length-take n acts, low)) (in_whole n acts i a is)) of;
  }

  -- a place that may be looked at from this position on: it was touched, and the node there reaches up to the layer
  pub record CanBeRead (n layer : ℕ) (q : Tid) : Type 0 where
    pub position : ℕ
    pub before : position ≤ n
    pub touched : IsTouchedAt base acts since position q
    pub high : (j : ℕ) → n ≤ j → j ≤ until → IsAsHigh (state_after base acts j) q layer

  -- an element as it was read by this position: what stood there when it was touched has its version, and reaches up to the layer
  pub record WasRead (n layer : ℕ) (e : Found) : Type 0 where
    pub position : ℕ
    pub before : position ≤ n
    pub touched : IsTouchedAt base acts since position e.at
    pub node : Node
    pub stood : node_at (state_after base acts position) e.at ≡ Some node
    pub version : node.version ≡ e.version
    pub high : layer ≤ node.level

  pub can_later : (n k layer : ℕ) (q : Tid) → n ≤ k → CanBeRead n layer q → CanBeRead k layer q
  can_later n k layer q later c = record {
    position = c.position;
    before = omega (arith, c.before, later);
    touched = c.touched;
    high = λ j from to. c.high j (omega (arith, from, later)) to;
  }

  pub was_later : (n k layer lower : ℕ) (e : Found) → n ≤ k → lower ≤ layer → WasRead n layer e → WasRead k lower e
  was_later n k layer lower e later low w = record {
    position = w.position;
    before = omega (arith, w.before, later);
    touched = w.touched;
    node = w.node;
    stood = w.stood;
    version = w.version;
    high = omega (arith, w.high, low);
  }

  -- ---- a look at a node

  pub record IsNodeTold (n layer : ℕ) (at : Tid) (told : Answer) : Type 0 where
    pub node : Node
    pub is : told ≡ OfNode node.level node.version node.list_at node.ids node.bits
    pub not_gone : told ≡ Gone → ⊥
    pub names_none : places_named told ≡ []
    pub read : (ops : Ops) (query : List Bool) → (e : Found) × (element_of ops query at told ≡ e ∷ []) × WasRead n layer e

  pub node_look : (n k layer : ℕ) (at : Tid) (told : Answer) → CanBeRead n layer at → n ≤ k → k ≤ until
      → told ≡ answer_of (state_after base acts k) (AtNode at layer None) → IsNodeTold k layer at told
  unfolding node_element
  node_look n k layer at told c later low is =
      let within = touched_within base acts since c.position at c.touched in
      let behind : since < k = omega (arith, within.0, c.before, later) in
      let here : c.position ≤ k = omega (arith, c.before, later) in
      let on = on_blocks_of base shaped in
      let stands = scan_not_deleted base on sound acts legal k desk since c.position hold at (omega (arith, low, reached)) (holds_at k behind low) c.touched here in
      let tall = c.high k later low in
      let was = scan_not_deleted base on sound acts legal c.position desk since c.position hold at within.1
      (holds_at c.position within.0 (omega (arith, here, low))) c.touched (omega arith) in
      let kept = scan_same base on sound acts legal k desk since c.position hold at was.node (omega (arith, low, reached)) (holds_at k behind low) c.touched here was.stands in
      let u : Node = stands.node in
      let high : layer ≤ u.level = subst (λ (x : Node). layer ≤ x.level) (same_Some tall.node u (sym tall.stands ∙ stands.stands)) tall.reaches in
      let same : kept.node ≡ u = same_Some kept.node u (sym kept.stands ∙ stands.stands) in
      let version : u.version ≡ was.node.version = subst (λ (x : Node). x.version ≡ was.node.version) same kept.same.version in
      let level : u.level ≡ was.node.level = subst (λ (x : Node). x.level ≡ was.node.level) same kept.same.level in
      let told_is : told ≡ OfNode u.level u.version u.list_at u.ids u.bits =
      is ∙ ap (λ (o : Option Node). node_answer o layer None) stands.stands ∙ node_told layer u stands.not_deleted (not_below layer u.level high) in
      record {
        node = u;
        is = told_is;
        not_gone = λ gone. absurd (node_is_told _ _ _ _ _ (sym told_is ∙ gone));
        names_none = ap places_named told_is;
        read = λ ops query. (
          node_element ops query at u,
          ap (element_of ops query at) told_is,
          record {
            position = c.position;
            before = here;
            touched = c.touched;
            node = was.node;
            stood = was.stands;
            version = sym version;
            high = omega (arith, high, level);
          },
        );
      }

  -- ---- a look at a list

  pub record IsListTold (n layer : ℕ) (told : Answer) : Type 0 where
    pub slots : List (Option Tid)
    pub is : told ≡ OfList slots
    pub not_gone : told ≡ Gone → ⊥
    pub touched : All_of (IsTouchedAt base acts since n) (places_named told)
    pub members : All_of (CanBeRead n layer) (named_in told)

  pub list_look : (n k layer : ℕ) (e : Found) (told : Answer) → WasRead n layer e → n ≤ k → k ≤ until
      → told ≡ answer_of (state_after base acts k) (AtList e.at e.list_at e.level e.version layer) → IsListTold k layer told
  list_look n k layer e told w later low is =
      let within = touched_within base acts since w.position e.at w.touched in
      let behind : since < k = omega (arith, within.0, w.before, later) in
      let here : w.position ≤ k = omega (arith, w.before, later) in
      let met : k ≤ length acts = omega (arith, low, reached) in
      let on = on_blocks_of base shaped in
      let kept = scan_same base on sound acts legal k desk since w.position hold e.at w.node met (holds_at k behind low) w.touched here w.stood in
      let u : Node = kept.node in
      let m : ℕ = (state_after base acts k).params.m in
      let shape = (shaped_after base shaped (take k acts) (cut (IsAllowed base) acts k legal)).nodes e.at u kept.stands in
      let high : layer ≤ u.level = omega (arith, w.high, kept.same.level) in
      let each = layer_members m u.level layer u.slots shape.as_many high in
      let told_is : told ≡ OfList (layer_slots m u.level layer u.slots) =
      is ∙ ap (λ (o : Option Node). list_answer m o e.version layer) kept.stands
      ∙ list_told m layer e.version u kept.same.not_deleted (kept.same.version ∙ w.version) in
      let touches : (q : Tid) → HasMember (state_after base acts k) e.at layer q → IsTouchedAt base acts since k q =
      (λ q has. as_member w.position k e.at layer q w.touched here met has) in
      record {
        slots = layer_slots m u.level layer u.slots;
        is = told_is;
        not_gone = λ gone. absurd (list_is_told _ (sym told_is ∙ gone));
        touched = subst (λ (a : Answer). All_of (IsTouchedAt base acts since k) (places_named a)) (sym told_is)
            (all_weaker _ (IsTouchedAt base acts since k) (filled (layer_slots m u.level layer u.slots))
            (λ q member. touches q (record { node = u; stands = kept.stands; member = member })) each);
        members = subst (λ (a : Answer). All_of (CanBeRead k layer) (named_in a)) (sym told_is)
            (all_weaker _ (CanBeRead k layer) (filled (layer_slots m u.level layer u.slots))
            (λ q member.
            let has : HasMember (state_after base acts k) e.at layer q = record { node = u; stands = kept.stands; member = member } in
            record {
              position = k;
              before = omega arith;
              touched = touches q has;
              high = λ j from to. scan_high base on sound acts legal j desk since w.position k layer hold e.at q (omega (arith, to, reached))
                  (holds_at j (omega (arith, behind, from)) to) w.touched here from has;
            }) each);
      }

  -- ---- the entry point

  pub entry_look : (n : ℕ) (at : Tid) → since < n → n ≤ until → (state_after base acts n).entry ≡ Some at → CanBeRead n (state_after base acts n).level at
  entry_look n at later low is = record {
    position = n;
    before = omega arith;
    touched = as_entry n at later (omega (arith, low, reached)) is;
    high = λ j from to. entry_high base shaped acts legal j n at from is;
  }
