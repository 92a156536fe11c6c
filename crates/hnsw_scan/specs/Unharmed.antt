-- What the law of the graph says of the reads of one call.
use Rattle.std.specs.Prelude.{◌≡◌, ◌≤◌, ℕ, List, slice_get, Some, Contains}
use Rattle.vec_names.specs.declared.tid.Tid.{Tid}
use Rattle.vec_history.specs.declared.event.Event.TheVariants as event
use Rattle.vec_history.specs.declared.event.Act.{Act}
use Rattle.vec_history.specs.Acts.{IsActAt}
use Rattle.graph_search.specs.Reads.{Look, Answer, Gone}
use Rattle.scan_law.specs.Reading.{places_named}

-- No vacuum harmed these reads: none is Gone, and no act marks a place that one of them names, from
-- the position of that read up to that of any other read of the call. The act of number k comes at
-- position k.
pub record AreUnharmed (acts : List Act) (positions : List ℕ) (reads : List (Look × Answer)) : Type 0 where
  pub not_gone : (i : ℕ) (look : Look) → slice_get reads i ≡ Some (look, Gone) → ⊥
  pub not_marked : (i j named read : ℕ) (look : Look) (told : Answer) (at : Tid) → slice_get reads i ≡ Some (look, told)
      → slice_get positions i ≡ Some named → Contains (places_named told) at → slice_get positions j ≡ Some read
      → (k marker version : ℕ) (list_at : Tid) → named ≤ k → k ≤ read → IsActAt acts k marker (event.Mark at list_at version) → ⊥
