use Rattle.std.proofs.Common.{List, sym, subst}
use Rattle.vec_outside.specs.Disk.{IsKept}
use Rattle.vec_outside.specs.Areas.{bytes_of}
use Rattle.vec_outside.specs.MemDisk.{Leaves, disk_of}
use Rattle.vec_outside.specs.declared.timeline.Call.{Call}
use Rattle.vec_outside.proofs.InMemory.{elapses_same, kept_sync, synced_others}
use Rattle.vec_outside.proofs.timeline.Timeline.sync.Goals as goal

pub returns-in_err-push_front-clause-time : goal.returns-in_err-push_front-clause-time
returns-in_err-push_front-clause-time c = elapses_same (bytes_of c.args.self.now.areas) c.args.self.now.done.items _ c.in_err-push_front.ensures.items

pub returns-clause-kept : goal.returns-clause-kept
returns-clause-kept c =
    let now = bytes_of c.args.self.now.areas in
    let calls = c.args.self.now.done.items in
    subst (λ (l : List Call). IsKept (disk_of now calls) (disk_of now l)) (sym {A = List Call} c.in_ok-push_front.ensures.items) (kept_sync c.args.area now calls)

pub returns-clause-other_leaves : goal.returns-clause-other_leaves
returns-clause-other_leaves c other bytes ne left =
    let now = bytes_of c.args.self.now.areas other in
    subst (λ (l : List Call). Leaves other now l bytes) (sym {A = List Call} c.in_ok-push_front.ensures.items) (synced_others c.args.area other now c.args.self.now.done.items bytes ne left)
