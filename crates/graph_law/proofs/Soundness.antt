-- Sound graphs, by a set of places that is closed.
use Rattle.std.proofs.Common.{ℕ}
use Rattle.vec_names.specs.declared.tid.Tid.{Tid}
use Rattle.vec_graph.specs.declared.graph.Graph.{Graph}
use Rattle.vec_graph.specs.Graph.{IsUndeletedAt, HasMember}
use Rattle.graph_law.specs.Reaching.{IsRootWith, is_entry, is_live, is_more, IsSoundWith}
use Rattle.vec_graph.specs.Sound.{IsReachedFrom, from_root, through, IsSoundFrom, IsRoot, root_entry, root_live, IsSound, IsAsHigh}

module _ (g : Graph) (Root : Tid → Type 0) where
  -- roots that are reached themselves reach nothing further
  module _ (Other : Tid → Type 0) (reached : (at : Tid) → Other at → IsReachedFrom g Root at) where
    pub reached_through : (at : Tid) → IsReachedFrom g Other at → IsReachedFrom g Root at
    reached_through at (from_root _ r) = reached at r
    reached_through to (through at layer _ r m) = through at layer to (reached_through at r) m

    pub sound_through : IsSoundFrom g Root → IsSoundFrom g Other
    sound_through sound = record {
      not_deleted = λ at r. sound.not_deleted at (reached_through at r);
      high_enough = λ at layer to r m. sound.high_enough at layer to (reached_through at r) m;
    }

  -- a set that has the roots, is closed under slots, and is as it should
  module _ (Part : Tid → Type 0) (roots : (at : Tid) → Root at → Part at)
      (closed : (at : Tid) (layer : ℕ) (to : Tid) → Part at → HasMember g at layer to → Part to × IsAsHigh g to layer)
      (good : (at : Tid) → Part at → IsUndeletedAt g at) where
    pub in_part : (at : Tid) → IsReachedFrom g Root at → Part at
    in_part at (from_root _ r) = roots at r
    in_part to (through at layer _ r m) = (closed at layer to (in_part at r) m).0

    pub sound_by : IsSoundFrom g Root
    sound_by = record {
      not_deleted = λ at r. good at (in_part at r);
      high_enough = λ at layer to r m. (closed at layer to (in_part at r) m).1;
    }

-- ---- sound graphs are those that are sound from no further places

root_as : (g : Graph) (More : Tid → Type 0) (at : Tid) → IsRoot g at → IsReachedFrom g (IsRootWith g More) at
root_as g More at (root_entry _ e) = from_root at (is_entry at e)
root_as g More at (root_live _ l) = from_root at (is_live at l)

pub sound_of : (g : Graph) (More : Tid → Type 0) → IsSoundWith g More → IsSound g
sound_of g More sound = sound_through g (IsRootWith g More) (IsRoot g) (root_as g More) sound

-- where there is nothing more
module _ (g : Graph) (More : Tid → Type 0) (none : (at : Tid) → More at → ⊥) where
  back : (at : Tid) → IsRootWith g More at → IsReachedFrom g (IsRoot g) at
  back at (is_entry _ e) = from_root at (root_entry at e)
  back at (is_live _ l) = from_root at (root_live at l)
  back at (is_more _ m) = absurd (none at m)

  pub sound_with : IsSound g → IsSoundWith g More
  sound_with sound = sound_through g (IsRoot g) (IsRootWith g More) back sound
