-- The first insert of an empty index.
use Rattle.std.proofs.Common.{◌≡◌, ℕ, Bool, cond, not, ◌&&◌, ◌==◌, List, [], ◌∷◌, ◌++◌, None, refl, sym, ap, ◌∙◌}
use Rattle.std.proofs.Math.Bool.{and-false}
use Rattle.std.proofs.lemmas.Bool.{eq-eqb}
use Rattle.vec_names.specs.declared.tid.Tid.{Tid}
use Rattle.vec_names.specs.declared.heap_id.HeapId.{HeapId}
use Rattle.vec_names.specs.declared.params.Params.{Params}
use Rattle.vec_names.specs.Levels.{level_of}
use Rattle.vec_history.specs.declared.gate.Gate.TheVariants.{Update}
use Rattle.vec_history.specs.declared.gate.Hold.TheVariants.{Shared, Alone}
use Rattle.vec_graph.specs.declared.place.Place.{Place}
use Rattle.graph_search.specs.Deeds.{PutsNew, Enters, Hints, Takes, Releases, Done, Placed, Deed, asked, events_of}
use Rattle.graph_search.specs.Insert.{hinting, PutsNode, Put, InsertCourse, meta_look, alone, newcomer, WholeInsert}
use Rattle.graph_search.specs.Examples.{no_entry_reads, no_lists, empty_meta, first_node, first_insert, first_events}
use Rattle.graph_search.proofs.NoEntry.{lists_of_none}

no_hint : (level : ℕ) (at : Tid) → at.block ≡ 1 → hinting level 1 at ≡ []
no_hint level at e =
    ap (λ (b : Bool). cond b (asked (Hints at.block) Done ∷ []) []) (ap (λ (b : Bool). (level == 0) && not b) (eq-eqb at.block 1 e) ∙ and-false (level == 0))

module _ (params : Params) (id : HeapId) (bits : List Bool) (word : ℕ) (place : Place) (first_block : place.at.block ≡ 1) where
  put_and_entered : List Deed
  put_and_entered = asked (PutsNew (first_node params id bits word)) (Placed place) ∷ asked (Enters place.at (level_of word params.m)) Done ∷ []

  puts : PutsNode (newcomer params bits word) id 1 1 None (no_lists (newcomer params bits word)) place put_and_entered
  unfolding put_and_entered
  puts = record {
    put = asked (PutsNew (first_node params id bits word)) (Placed place) ∷ [];
    placed = refl;
    back = [];
    linked_back = refl;
    deeds_are = sym (ap (λ (h : List Deed). put_and_entered ++ h) (no_hint (level_of word params.m) place.at first_block));
  }

  course : InsertCourse (newcomer params bits word) id 1 1 (Put place) (meta_look empty_meta ∷ put_and_entered)
  course = record {
    reads = no_entry_reads 1 1;
    top = None;
    lists = no_lists (newcomer params bits word);
    found = lists_of_none (newcomer params bits word) 1 1;
    joins = [];
    taken = None;
    asked_to_join = (refl, refl);
    rest = put_and_entered;
    ends = puts;
    deeds_are = refl;
  }

  pub first_whole : WholeInsert params id bits word (Put place) (first_insert params id bits word place)
  unfolding put_and_entered
  first_whole = record {
    told = empty_meta;
    front = asked (Takes Update Shared) Done ∷ meta_look empty_meta ∷ asked (Releases Update) Done
        ∷ asked (Takes Update Alone) Done ∷ meta_look empty_meta ∷ [];
    opens = alone empty_meta refl;
    under = meta_look empty_meta ∷ put_and_entered;
    course = course;
    deeds_are = refl;
  }

pub first_made : (params : Params) (id : HeapId) (bits : List Bool) (word : ℕ) (place : Place)
    → events_of params.m (first_insert params id bits word place) ≡ first_events params id bits word place
first_made params id bits word place = refl
