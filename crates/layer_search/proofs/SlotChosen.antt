-- A neighbour is looked at, a slot is chosen, and the neighbour is asked.
use Rattle.std.proofs.Common.{◌≡◌, ℕ, ◌*◌, ◌==◌, ◌<◌, ◌≤◌, if◌then◌else◌, true, false, List, [], ◌∷◌, length, slice_get, Option, Some, None, refl, sym, ap, subst, ◌∙◌, arith, append-nil}
use Rattle.std.specs.Prelude.{IfSome, IsTrue}
use Rattle.std.specs.List.{All}
use Rattle.std.proofs.lemmas.List.Elements.{All-from_recursion, All-weaker}
use Rattle.vec_names.specs.declared.tid.Tid.{Tid}
use Rattle.vec_history.specs.declared.event.Act.{Act}
use Rattle.neighbour_pick.specs.declared.found.Found.{Found}
use Rattle.neighbour_pick.specs.declared.found.SlotSeen.{SlotSeen}
use Rattle.neighbour_pick.specs.Slots.{slot_of}
use Rattle.neighbour_pick.proofs.Choosing.{slot_inside}
use Rattle.graph_search.specs.Reads.{Answer, Gone, OfList}
use Rattle.graph_search.specs.Deeds.{Links, asked, looks_of}
use Rattle.graph_search.specs.Insert.{Target, entrant_to, held_in, list_look, most_in}
use Rattle.search_sets.specs.declared.spot.Spot.{Spot}
use Rattle.search_sets.specs.Standing.{spot_of}
use Rattle.vec_steps.specs.declared.ask.Ask.{Ask}
use Rattle.vec_steps.specs.declared.ask.Ask.TheVariants as ask
use Rattle.vec_steps.specs.declared.told.Told.{Told}
use Rattle.vec_steps.specs.declared.told.Word.{Word}
use Rattle.vec_steps.specs.declared.told.Word.TheVariants as word
use Rattle.vec_steps.specs.declared.fault.StepFault.{StepFault}
use Rattle.vec_steps.specs.declared.fault.OpFault.{OpFault}
use Rattle.vec_steps.specs.Faults.{op_fault}
use Rattle.vec_steps.specs.Index.{Index}
use Rattle.vec_steps.specs.Doing.{did}
use Rattle.vec_steps.specs.Telling.{link_told, list_told}
use Rattle.vec_steps.specs.Desks.{Asks, Desk}
use Rattle.vec_steps.specs.Calls.{Failed, Stepped}
use Rattle.vec_steps.proofs.Following.{fault_does, one_step}
use Rattle.layer_search.specs.Looking.{MadeLooks}
use Rattle.layer_search.specs.Running as run
use Rattle.layer_search.specs.Linking.{AreSlotsLong, AsksLink, ChoosesSlot, IsAnswered, LooksSlots, StoppedBy, chosen, gone, of_changed, of_done, of_stale, tried_told}
use Rattle.layer_search.proofs.Looks.{looks_then}

-- ---- the choice

told_gone : (w : Word) (t : Told) → (w ≡ word.List → ⊥) → list_told w t ≡ Gone
told_gone word.List t never = absurd (never refl)
told_gone _ t never = refl

told_list : (w : Word) (t : Told) (slots : List (Option Tid)) → w ≡ word.List → slots ≡ t.tids → list_told w t ≡ OfList slots
told_list w t slots is same = ap (λ (v : Word). list_told v t) is ∙ ap OfList (sym same)

inside : (t : Target) (e : Found) (layer m : ℕ) (seen : List SlotSeen) (o : Option ℕ) → o ≡ slot_of t.ops seen (entrant_to t e) → length seen ≡ most_in m layer
    → IfSome o (λ slot. slot < most_in m layer)
inside t e layer m seen None is many = tt
inside t e layer m seen (Some k) is many = subst (λ (n : ℕ). k < n) many (slot_inside t.ops seen (entrant_to t e) k (sym is))

module _ {over : Index → Type 0} {d : Desk} {old mid : List Act} {before amid : List ℕ} (t : Target) (e : Found) (layer m : ℕ) (slots : List (Option Tid))
    (spot : Spot) (w : Word) (told : Told) (there : spot ≡ spot_of e)
    (list : MadeLooks over d old mid before amid ((run.list_look spot layer, list_told w told) ∷ [])) where
  at_element : (a : Answer) → list_told w told ≡ a → MadeLooks over d old mid before amid ((list_look e layer, a) ∷ [])
  at_element a is =
      subst (λ (b : Answer). MadeLooks over d old mid before amid ((list_look e layer, b) ∷ [])) is
      (subst (λ (s : Spot). MadeLooks over d old mid before amid ((run.list_look s layer, list_told w told) ∷ [])) there list)

  pub list_gone : (w ≡ word.List → ⊥) → ChoosesSlot over d old mid before amid t e layer m slots None
  list_gone never = record {
    reads = (list_look e layer, Gone) ∷ [];
    made = at_element Gone (told_gone w told never);
    is_chosen = gone;
    within = tt;
  }

  pub slot_chosen : {later : Index → Type 0} {f : Desk} {new : List Act} {now : List ℕ} (seen : List SlotSeen) (choice : Option ℕ) → f ≡ d
      → ((base : Index) → over base → later base) → w ≡ word.List → slots ≡ told.tids → length slots ≡ most_in m layer
      → LooksSlots later f mid new amid now t.ops e.bits layer slots seen → choice ≡ slot_of t.ops seen (entrant_to t e)
      → ChoosesSlot over d old new before now t e layer m slots choice
  slot_chosen seen choice same on is_list same_slots many s is = record {
    reads = (list_look e layer, OfList slots) ∷ s.reads;
    made = looks_then same on (at_element (OfList slots) (told_list w told slots is_list same_slots)) s.made;
    is_chosen = chosen choice (looks_of ((list_look e layer, OfList slots) ∷ s.reads))
        (record { reads = s.reads; seen = seen; slots_are = s.are; choice_is = is; deeds_are = refl });
    within = inside t e layer m seen choice is (s.many ∙ many);
  }

-- ---- the ask

word_answered : (w : Word) → IsAnswered (tried_told w) (link_told w)
word_answered word.Done = of_done
word_answered word.Changed = of_changed
word_answered _ = of_stale

module _ {over stands : Index → Type 0} {d : Desk} {old new : List Act} (to : Tid) (e : Found) (layer slot : ℕ) (slots : List (Option Tid))
    (held : Option Tid) (held_is : held ≡ held_in (slice_get slots slot))
    (asks : (base : Index) → over base → Asks stands d old (ask.Link e.at e.list_at e.level e.version layer slot held to) base) where
  pub link_stepped : (left : Ask) (told : Told) → Stepped (Asks stands d old (ask.Link e.at e.list_at e.level e.version layer slot held to)) d old new
      (ask.Link e.at e.list_at e.level e.version layer slot held to) left told → AsksLink over d old new to e layer slot slots (tried_told told.word)
  link_stepped left told s = record {
    reply = link_told told.word;
    made = λ trace. record {
      course = (told.at, did (asked (Links e.at e.list_at e.level e.version layer slot held to) (link_told told.word))) ∷ [];
      does = one_step asks s;
      is = record {
        are = (ap (λ (h : Option Tid). did (asked (Links e.at e.list_at e.level e.version layer slot h to) (link_told told.word))) held_is, tt);
        only = (refl, tt);
        traced = sym (append-nil trace);
      };
    };
    answered = word_answered told.word;
  }

  pub link_failed : (f : StepFault) (end : OpFault) → end ≡ op_fault f → Failed (Asks stands d old (ask.Link e.at e.list_at e.level e.version layer slot held to)) d old new
      (ask.Link e.at e.list_at e.level e.version layer slot held to) f → StoppedBy to over d old new end
  link_failed f end end_is s = record {
    course = [];
    only = tt;
    at = s.at;
    step_fault = f;
    fault_is = end_is;
    does = fault_does s;
    of_log = λ base o h. record {
      at = e.at;
      list_at = e.list_at;
      level = e.level;
      version = e.version;
      layer = layer;
      slot = slot;
      held = held;
      cause = s.cause base (asks base o);
    };
  }

-- ---- what the choice asks

pub most_some : (m layer : ℕ) → 1 ≤ m → 1 ≤ most_in m layer
most_some m layer some = elim (layer == 0) as (λ b. 1 ≤ (if b then 2 * m else m)) [ true ↦ omega (arith, some) | false ↦ some ]

pub most_few : (m layer : ℕ) → m ≤ 100 → most_in m layer ≤ 200
most_few m layer few = elim (layer == 0) as (λ b. (if b then 2 * m else m) ≤ 200) [ true ↦ omega (arith, few) | false ↦ omega (arith, few) ]

pub slots_alike : (n k : ℕ) (seen slice : List SlotSeen) → slice ≡ seen → n ≡ k → AreSlotsLong n seen
    → All (λ s. IsTrue s.live → length s.bits ≡ k) slice
slots_alike n k seen slice same is long =
    subst (All (λ s. IsTrue s.live → length s.bits ≡ k)) (sym same)
    (All-weaker (λ (s : SlotSeen). length s.bits ≡ n) (λ (s : SlotSeen). IsTrue s.live → length s.bits ≡ k) (λ s as_long live. as_long ∙ is) seen
    (All-from_recursion (λ (s : SlotSeen). length s.bits ≡ n) seen long))
