-- How the moments of several calls are joined.
use Rattle.std.proofs.Common.{◌∙◌, inl, inr, ⊎_elim, ℕ, List, refl, arith}
use Rattle.vec_outside.specs.Disk.{Disk, Image, IsImage, IsTorn, Elapses, IsKept, LeavesOnly}

-- bytes that were not written
pub torn_none : (at n : ℕ) (bytes : List ℕ) → IsTorn at n bytes bytes
torn_none at n bytes = record { before = refl; after = refl; no_shorter = omega arith; no_longer = omega arith }

-- before the first call
pub started : (disk : Disk) (P : Image → Type 0) → ((image : Image) → disk.left_since disk.moment image → IsImage disk image)
    → ((image : Image) → IsImage disk image → P image) → LeavesOnly disk disk P
started disk P only_now here = record { later = omega arith; each = λ image left. here image (only_now image left); before = λ t image le left. inl left }

-- one call more, after which a crash leaves what has P
pub goes_on : (old mid new : Disk) (P : Image → Type 0) → LeavesOnly old mid P → Elapses mid new
    → ((image : Image) → IsImage new image → P image) → LeavesOnly old new P
goes_on old mid new P so_far time here = record {
  later = omega (arith, so_far.later, time.later);
  each = λ image left. ⊎_elim (so_far.each image) (here image) (time.nothing_else old.moment image so_far.later left);
  before = λ t image le left. ⊎_elim (so_far.before t image le) (λ now. inr (here image now)) (time.nothing_else t image (omega (arith, le, so_far.later)) left);
}

-- what holds of the moments of two runs holds of one run after the other
pub joined : (old mid new : Disk) (P Q : Image → Type 0) → LeavesOnly old mid P → LeavesOnly mid new Q
    → ((image : Image) → Q image → P image) → LeavesOnly old new P
joined old mid new P Q first second weaker = record {
  later = omega (arith, first.later, second.later);
  each = λ image left. ⊎_elim (first.each image) (weaker image) (second.before old.moment image first.later left);
  before = λ t image le left. ⊎_elim (first.before t image le) (λ now. inr (weaker image now)) (second.before t image (omega (arith, le, first.later)) left);
}

pub weakened : (old new : Disk) (P Q : Image → Type 0) → LeavesOnly old new P → ((image : Image) → P image → Q image) → LeavesOnly old new Q
weakened old new P Q run weaker = record {
  later = run.later;
  each = λ image left. weaker image (run.each image left);
  before = λ t image le left. ⊎_elim (λ was. inl was) (λ has. inr (weaker image has)) (run.before t image le left);
}

-- two calls after which the same is read
pub kept_on : (old mid new : Disk) → IsKept old mid → IsKept mid new → IsKept old new
kept_on old mid new first second = record {
  seen = λ area. second.seen area ∙ first.seen area;
  leaves = λ area bytes left. first.leaves area bytes (second.leaves area bytes left);
}

-- one call more of a run that writes nothing
pub reads_on : (old mid new : Disk) → LeavesOnly old mid (IsImage old) → IsKept old new → Elapses mid new → LeavesOnly old new (IsImage old)
reads_on old mid new so_far kept time = goes_on old mid new (IsImage old) so_far time (λ image is area. kept.leaves area (image area) (is area))
