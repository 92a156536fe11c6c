-- Slots as looks told them.
use Rattle.std.proofs.Common.{◌≡◌, ℕ, ◌+◌, ◌<◌, Bool, false, List, [], ◌∷◌, ◌++◌, take, length, get_or, Option, Some, None, refl, sym, ap, subst, ◌∙◌, append-nil, append_assoc, length-append}
use Rattle.vec_names.specs.declared.tid.Tid.{Tid}
use Rattle.vec_names.specs.declared.params.Ops.{Ops}
use Rattle.vec_history.specs.declared.event.Act.{Act}
use Rattle.neighbour_pick.specs.declared.found.SlotSeen.{SlotSeen}
use Rattle.graph_search.specs.Reads.{Look, Answer, AtNode}
use Rattle.graph_search.specs.Search.{element_of}
use Rattle.graph_search.specs.Insert.{AreSlots, IsSlot, empty, gone, member}
use Rattle.search_sets.proofs.Fronts.{take_more}
use Rattle.vec_steps.specs.declared.told.Told.{Told}
use Rattle.vec_steps.specs.declared.told.Word.{Word}
use Rattle.vec_steps.specs.declared.told.Word.TheVariants as word
use Rattle.vec_steps.specs.Index.{Index}
use Rattle.vec_steps.specs.Desks.{Desk}
use Rattle.vec_steps.specs.Telling.{node_told}
use Rattle.layer_search.specs.Linking.{AreSlotsLong, LooksSlot, LooksSlots, SeesMember, SeesSlot, SeesWithout}
use Rattle.layer_search.proofs.Looks.{looks_none, looks_then}
use Rattle.layer_search.proofs.Steadiness.{all_both}

-- ---- one slot

pub without_put : {at : Option Tid} {long : ℕ} {was seen : List SlotSeen} (one : SlotSeen) → seen ≡ was ++ one ∷ [] → one.at ≡ at → one.live ≡ false
    → length one.bits ≡ long → SeesWithout at long was seen
without_put one put at_is not_live as_long = record { one = one; at_is = at_is; not_live = not_live; as_long = as_long; put = put }

module _ (ops : Ops) (owner : List Bool) (at : Tid) where
  no_node : (w : Word) (o : Option Tid) (t : Told) → (w ≡ word.Node → ⊥) → element_of ops owner at (node_told w o t) ≡ []
  no_node word.Node o t never = absurd (never refl)
  no_node _ o t never = refl

  no_list : (w : Word) (t : Told) → element_of ops owner at (node_told w None t) ≡ []
  no_list word.Node t = refl
  no_list _ t = refl

module _ (ops : Ops) (owner : List Bool) (layer : ℕ) {was seen : List SlotSeen} where
  pub empty_seen : SeesWithout None (length owner) was seen → SeesSlot ops owner layer None [] was seen
  empty_seen w = record { one = w.one; is_slot = empty w.one w.at_is; as_long = w.as_long; put = w.put }

  module _ (at : Tid) where
    gone_seen : (told : Answer) → element_of ops owner at told ≡ [] → SeesWithout (Some at) (length owner) was seen
        → SeesSlot ops owner layer (Some at) ((AtNode at layer None, told) ∷ []) was seen
    gone_seen told none w = record { one = w.one; is_slot = gone at told w.one w.at_is none w.not_live; as_long = w.as_long; put = w.put }

    pub other_seen : (w : Word) (o : Option Tid) (t : Told) → (w ≡ word.Node → ⊥) → SeesWithout (Some at) (length owner) was seen
        → SeesSlot ops owner layer (Some at) ((AtNode at layer None, node_told w o t) ∷ []) was seen
    other_seen w o t never s = gone_seen (node_told w o t) (no_node ops owner at w o t never) s

    pub nowhere_seen : (w : Word) (o : Option Tid) (t : Told) → o ≡ None → SeesWithout (Some at) (length owner) was seen
        → SeesSlot ops owner layer (Some at) ((AtNode at layer None, node_told w o t) ∷ []) was seen
    nowhere_seen w o t is s = gone_seen (node_told w o t) (subst (λ (p : Option Tid). element_of ops owner at (node_told w p t) ≡ []) (sym is) (no_list ops owner at w t)) s

    pub member_seen : (w : Word) (o : Option Tid) (list_at : Tid) (t : Told) → w ≡ word.Node → o ≡ Some list_at → length owner ≡ length t.bits
        → SeesMember ops owner at t was seen → SeesSlot ops owner layer (Some at) ((AtNode at layer None, node_told w o t) ∷ []) was seen
    member_seen w o list_at t is_node is_there long s =
        subst (λ (v : Word). SeesSlot ops owner layer (Some at) ((AtNode at layer None, node_told v o t) ∷ []) was seen) (sym is_node)
        (subst (λ (p : Option Tid). SeesSlot ops owner layer (Some at) ((AtNode at layer None, node_told word.Node p t) ∷ []) was seen) (sym is_there)
        (record {
          one = s.one;
          is_slot = member at (node_told word.Node (Some list_at) t) _ s.one s.at_is refl s.live_is s.dist_is s.bits_are;
          as_long = ap (λ (l : List Bool). length l) s.bits_are ∙ sym long;
          put = s.put;
        }))

-- ---- slots in their order

slots_more : (ops : Ops) (owner : List Bool) (layer : ℕ) (slots : List (Option Tid)) (slot : Option Tid) (reads more : List (Look × Answer))
    (seen : List SlotSeen) (one : SlotSeen) → AreSlots ops owner layer slots reads seen → IsSlot ops owner layer slot more one
    → AreSlots ops owner layer (slots ++ slot ∷ []) (reads ++ more) (seen ++ one ∷ [])
slots_more ops owner layer [] slot reads more seen one are is = (
  more,
  [],
  one,
  [],
  ap (λ (l : List (Look × Answer)). l ++ more) are.0 ∙ sym (append-nil more),
  ap (λ (l : List SlotSeen). l ++ one ∷ []) are.1,
  is,
  (refl, refl),
)
slots_more ops owner layer (s ∷ slots) slot reads more seen one are is = (
  are.0,
  are.1 ++ more,
  are.2,
  are.3 ++ one ∷ [],
  ap (λ (l : List (Look × Answer)). l ++ more) are.4 ∙ append_assoc are.0 are.1 more,
  ap (λ (l : List SlotSeen). l ++ one ∷ []) are.5,
  are.6,
  slots_more ops owner layer slots slot are.1 more are.3 one are.7 is,
)

pub slots_none : {over : Index → Type 0} {d : Desk} (acts : List Act) (trace : List ℕ) (ops : Ops) (owner : List Bool) (layer : ℕ)
    → LooksSlots over d acts acts trace trace ops owner layer [] []
slots_none acts trace ops owner layer = record { reads = []; made = looks_none acts trace; are = (refl, refl); long = tt; many = refl }

pub slots_then : {over later : Index → Type 0} {d e : Desk} {old mid new : List Act} {before amid now : List ℕ} (ops : Ops) (owner : List Bool) (layer : ℕ)
    (slots : List (Option Tid)) (k : ℕ) (slot : Option Tid) {was seen : List SlotSeen} → e ≡ d → ((base : Index) → over base → later base) → k < length slots
    → slot ≡ get_or slots k slot → LooksSlots over d old mid before amid ops owner layer (take k slots) was
    → LooksSlot later e mid new amid now ops owner layer slot was seen → LooksSlots over d old new before now ops owner layer (take (k + 1) slots) seen
slots_then {over} {later} {d} {e} {old} {mid} {new} {before} {amid} {now} ops owner layer slots k slot {was} {seen} same on within is so s =
    let one : SlotSeen = s.sees.one in
    let n : ℕ = length owner in
    record {
      reads = so.reads ++ s.reads;
      made = looks_then same on so.made s.made;
      are = subst (λ (l : List (Option Tid)). AreSlots ops owner layer l (so.reads ++ s.reads) seen) (sym (take_more slots k slot within is))
          (subst (λ (l : List SlotSeen). AreSlots ops owner layer (take k slots ++ slot ∷ []) (so.reads ++ s.reads) l) (sym s.sees.put)
          (slots_more ops owner layer (take k slots) slot so.reads s.reads was one so.are s.sees.is_slot));
      long = subst (AreSlotsLong n) (sym s.sees.put) (all_both (λ (x : SlotSeen). length x.bits ≡ n) was (one ∷ []) so.long (s.sees.as_long, tt));
      many = ap (λ (l : List SlotSeen). length l) s.sees.put ∙ length-append was (one ∷ []) ∙ ap (λ (j : ℕ). j + 1) so.many
          ∙ sym (ap (λ (l : List (Option Tid)). length l) (take_more slots k slot within is) ∙ length-append (take k slots) (slot ∷ []));
    }
