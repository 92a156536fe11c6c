-- A meta tuple that is changed is one.
use Rattle.std.proofs.Common.{◌≡◌, ℕ, ◌≤◌, true, Option}
use Rattle.vec_names.specs.declared.tid.Tid.{Tid}
use Rattle.vec_names.specs.declared.params.Kind.{Kind}
use Rattle.vec_names.specs.declared.params.Kind.TheVariants.{Hnsw, Ivf}
use Rattle.vec_tuples.specs.Spelling.{IsEntryOf, IsHintOf}
use Rattle.page_redo.specs.PageTuples.{is_graph}

pub entry_of_graph : (k : Kind) (to : Option Tid) → is_graph k ≡ true → IsEntryOf k to
entry_of_graph Hnsw to is = tt
entry_of_graph Ivf to is = absurd cc

pub hint_of_graph : (k : Kind) (block : ℕ) → is_graph k ≡ true → 1 ≤ block → block ≤ 32768 → IsHintOf k block
hint_of_graph Hnsw block is low high = (low, high)
hint_of_graph Ivf block is low high = absurd cc
