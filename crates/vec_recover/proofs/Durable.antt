-- Areas that are durable: what a crash leaves is what a read gives.
use Rattle.std.proofs.Common.{◌≡◌, ◌≤◌, Option, Some, None, Result, Ok, Err, OnOk, IfOk, IfSome, sym, subst, ◌∙◌}
use Rattle.std.proofs.Math.Path.{fun_ext}
use Rattle.vec_outside.specs.Disk.{Disk, Image, IsDurable, IsImage, IsKept}
use Rattle.vec_outside.specs.declared.disks.Area.{Area}
use Rattle.vec_outside.specs.declared.disks.Area.TheVariants.{Pages, Log0, Log1}
use Rattle.page_log.specs.BothLogs.{IsStanding, alone, held_of, other_log}
use Rattle.page_log.specs.Opening.{ReadsAs}
use Rattle.page_log.specs.Parts.{at_end}
use Rattle.page_log.specs.declared.opening_fault.OpenFault.{OpenFault}
use Rattle.page_log.proofs.Reopened.{read_stands}
use Rattle.loaded_index.specs.Loading.{CanGoOn}
use Rattle.vec_recover.specs.declared.reading.ReadIndex.{ReadIndex}
use Rattle.vec_recover.specs.Recovering.{IsRecovered, Recovery}
use Rattle.vec_recover.specs.Telling.{HasSealBehind, IsOpening, Tells}

pub durable_kept : (area : Area) (old new : Disk) → IsKept old new → IsDurable area old → IsDurable area new
durable_kept area old new kept durable bytes left = durable bytes (kept.leaves area bytes left) ∙ sym (kept.seen area)

pub each_durable : (disk : Disk) → IsDurable Pages disk → IsDurable Log0 disk → IsDurable Log1 disk → (area : Area) → IsDurable area disk
each_durable disk pages log0 log1 Pages = pages
each_durable disk pages log0 log1 Log0 = log0
each_durable disk pages log0 log1 Log1 = log1

-- the areas that were read
seen_as : (old new : Disk) → IsKept old new → new.seen ≡ old.seen
seen_as old new kept = fun_ext (λ area. kept.seen area)

module _ (old mid new : Disk) (first : IsKept old mid) (then : IsKept mid new) (durable : (area : Area) → IsDurable area mid) where
  image_is : (image : Image) → IsImage new image → image ≡ mid.seen
  image_is image is = fun_ext (λ area. durable area (image area) (then.leaves area (image area) (is area)))

  -- what is told of the areas is told of each image
  pub told_of_each : (r : Result (Option ReadIndex) OpenFault) → IsOpening mid.seen r → (image : Image) → IsImage new image → IsOpening image r
  told_of_each r told image is = subst (λ (i : Image). IsOpening i r) (sym (image_is image is)) told

  pub told_before : (r : Result (Option ReadIndex) OpenFault) → IsOpening mid.seen r → IsOpening old.seen r
  told_before r told = subst (λ (i : Image). IsOpening i r) (seen_as old mid first) told

  -- the log goes on behind its batches
  pub goes_on_behind : (r : ReadIndex) → CanGoOn r.loaded → (recovery : Recovery) → Tells r recovery → IsRecovered old.seen recovery
      → HasSealBehind old.seen recovery.epoch
      → IsStanding (alone (at_end r.loaded.area r.loaded.end r.loaded.used)) new (held_of new.seen recovery.epoch)
  goes_on_behind r goes recovery tells is behind =
      let epoch = recovery.epoch in
      let same : new.seen ≡ old.seen = seen_as mid new then ∙ seen_as old mid first in
      let still = λ (area : Area). durable_kept area mid new then (durable area) in
      let reads = subst (λ (i : Image). ReadsAs i (Ok (Some epoch))) (sym same) is.begins.reads in
      let past = subst (λ (i : Image). HasSealBehind i epoch) (sym same) behind in
      let stands = read_stands new epoch (still epoch.area) (still (other_log epoch.area)) past.other reads is.whole past.behind
      (subst (λ n. n ≤ 268435456) tells.used goes.used) in
      rw (tells.area, tells.end, tells.used) stands

  pub told_of_all : (r : Result (Option ReadIndex) OpenFault) → IsOpening mid.seen r → OnOk r ((image : Image) → IsImage new image → IsOpening image r)
  told_of_all (Ok read) told = told_of_each (Ok read) told
  told_of_all (Err fault) told = tt

  abbrev pub GoesOnBehind : ReadIndex → Type 0
  GoesOnBehind r = (recovery : Recovery) → Tells r recovery → IsRecovered old.seen recovery → HasSealBehind old.seen recovery.epoch
      → IsStanding (alone (at_end r.loaded.area r.loaded.end r.loaded.used)) new (held_of new.seen recovery.epoch)

  pub all_go_on : (r : Result (Option ReadIndex) OpenFault) → IfOk r (λ read. IfSome read (λ x. CanGoOn x.loaded))
      → IfOk r (λ read. IfSome read GoesOnBehind)
  all_go_on (Ok (Some x)) goes = goes_on_behind x goes
  all_go_on (Ok None) goes = tt
  all_go_on (Err fault) goes = tt
