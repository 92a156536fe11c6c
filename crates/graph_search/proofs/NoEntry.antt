-- Where there is nowhere to begin.
use Rattle.std.proofs.Common.{◌≡◌, ◌++◌, ℕ, Bool, true, List, [], None, refl}
use Rattle.vec_names.specs.declared.tid.Tid.{Tid}
use Rattle.vec_names.specs.declared.params.Ops.{Ops}
use Rattle.graph_search.specs.Reads.{Look, Answer, Gone}
use Rattle.graph_search.specs.Descent.{Descent, no_entry, entry_gone}
use Rattle.graph_search.specs.Scan.{FirstBatch}
use Rattle.graph_search.specs.Insert.{Newcomer, InsertLists}
use Rattle.graph_search.specs.Examples.{no_entry_reads, gone_entry_reads, nothing_found, no_lists}

module _ (ops : Ops) (query : List Bool) (ef : ℕ) (reads : List (Look × Answer)) (down : Descent ops query 0 reads None []) where
  pub empty_batch : (on : List (Look × Answer)) → on ≡ reads ++ [] → FirstBatch ops query ef on [] true (nothing_found ops query)
  empty_batch on e = record {
    down = reads;
    top = None;
    from = [];
    descent = down;
    on = [];
    searched = (refl, refl, refl);
    reads_are = e;
    end_is = refl;
  }

module _ (n : Newcomer) (reads : List (Look × Answer)) (down : Descent n.ops n.bits n.level reads None []) where
  pub empty_lists : (on : List (Look × Answer)) → on ≡ reads ++ [] → InsertLists n on None (no_lists n)
  empty_lists on e = record {
    down = reads;
    from = [];
    descent = down;
    on = [];
    searched = (refl, refl);
    reads_are = e;
  }

pub scan_of_none : (ops : Ops) (query : List Bool) (ef hint blocks : ℕ)
    → FirstBatch ops query ef (no_entry_reads hint blocks) [] true (nothing_found ops query)
scan_of_none ops query ef hint blocks = empty_batch ops query ef (no_entry_reads hint blocks) (no_entry 0 hint blocks) (no_entry_reads hint blocks) refl

pub scan_of_gone : (ops : Ops) (query : List Bool) (ef : ℕ) (at : Tid) (level hint blocks : ℕ)
    → FirstBatch ops query ef (gone_entry_reads at level hint blocks) [] true (nothing_found ops query)
scan_of_gone ops query ef at level hint blocks =
    empty_batch ops query ef (gone_entry_reads at level hint blocks) (entry_gone at level hint blocks Gone refl) (gone_entry_reads at level hint blocks) refl

pub lists_of_none : (n : Newcomer) (hint blocks : ℕ) → InsertLists n (no_entry_reads hint blocks) None (no_lists n)
lists_of_none n hint blocks = empty_lists n (no_entry_reads hint blocks) (no_entry 0 hint blocks) (no_entry_reads hint blocks) refl

pub lists_of_gone : (n : Newcomer) (at : Tid) (level hint blocks : ℕ)
    → InsertLists n (gone_entry_reads at level hint blocks) None (no_lists n)
lists_of_gone n at level hint blocks =
    empty_lists n (gone_entry_reads at level hint blocks) (entry_gone at level hint blocks Gone refl) (gone_entry_reads at level hint blocks) refl
