-- What a run of calls keeps of every image of an area.
use Rattle.std.proofs.Common.{inl, inr, ⊎_elim, ℕ, List, Result, Ok, Err, OnOk}
use Rattle.vec_outside.specs.declared.disks.Area.{Area}
use Rattle.vec_outside.specs.Disk.{Disk, Image, IsImage, IsTorn, IsTornImage, IsWritten, Elapses, LeavesOnly}
use Rattle.vec_outside.proofs.Moments.{torn_none, started, goes_on, weakened, joined}
use Rattle.page_log.specs.Aside.{AreAll, Keeps}
use Rattle.page_log.specs.Steps.{OnlyReads}
use Rattle.page_log.proofs.OtherAreas.{keeps_reading, keeps_writing, keeps_on}

pub keeps_read : (Is : List ℕ → Type 0) (area : Area) (old new : Disk) → OnlyReads old new → Keeps Is area old new
keeps_read Is area old new only = record {
  others = keeps_reading area old new only;
  stays = λ all bytes left. all bytes (only.kept.leaves area bytes left);
  moments = λ all. weakened old new (IsImage old) (λ image. Is (image area)) only.moments (λ image is. all (image area) (is area));
}

-- the moments of one write
pub write_moments : (area : Area) (at n : ℕ) (old new : Disk) → ((image : Image) → old.left_since old.moment image → IsImage old image)
    → IsWritten area at n old new → Elapses old new → LeavesOnly old new (IsTornImage area at n old)
write_moments area at n old new only_now written time =
    goes_on old old new (IsTornImage area at n old)
    (started old (IsTornImage area at n old) only_now (λ image is. record {
      torn = (image area, is area, torn_none at n (image area));
      others = λ other apart. is other;
    }))
    time
    (λ image is. record {
      torn = written.leaves (image area) (is area);
      others = λ other apart. written.other_leaves other (image other) apart (is other);
    })

-- what a write may tear
pub keeps_torn : (Is : List ℕ → Type 0) (area : Area) (at n : ℕ) (old new : Disk) → IsWritten area at n old new → LeavesOnly old new (IsTornImage area at n old)
    → ((was bytes : List ℕ) → old.leaves area was → Is was → IsTorn at n was bytes → Is bytes) → Keeps Is area old new
keeps_torn Is area at n old new written moments stays = record {
  others = keeps_writing area at n old new written moments;
  stays = λ all bytes left. let from = written.leaves bytes left in stays from.0 bytes from.1 (all from.0 from.1) from.2;
  moments = λ all. weakened old new (IsTornImage area at n old) (λ image. Is (image area)) moments
      (λ image torn. stays torn.torn.0 (image area) torn.torn.1 (all torn.torn.0 torn.torn.1) torn.torn.2);
}

pub keeps_both : (Is : List ℕ → Type 0) (area : Area) (old mid new : Disk) → Keeps Is area old mid → Keeps Is area mid new → Keeps Is area old new
keeps_both Is area old mid new first second = record {
  others = keeps_on area old mid new first.others second.others;
  stays = λ all. second.stays (first.stays all);
  moments = λ all. joined old mid new (λ image. Is (image area)) (λ image. Is (image area)) (first.moments all) (second.moments (first.stays all)) (λ image is. is);
}

-- first this is kept, and then what is stronger
pub keeps_then : (Is Then : List ℕ → Type 0) (area : Area) (old mid new : Disk) → Keeps Is area old mid → AreAll Then area mid → Keeps Then area mid new
    → ((bytes : List ℕ) → Then bytes → Is bytes) → Keeps Is area old new
keeps_then Is Then area old mid new first all second weaker = record {
  others = keeps_on area old mid new first.others second.others;
  stays = λ was bytes left. weaker bytes (second.stays all bytes left);
  moments = λ was. joined old mid new (λ image. Is (image area)) (λ image. Then (image area)) (first.moments was) (second.moments all) (λ image is. weaker (image area) is);
}

-- two things that hold of the moments hold together
pub both : (old new : Disk) (P Q : Image → Type 0) → LeavesOnly old new P → LeavesOnly old new Q → LeavesOnly old new (λ image. P image × Q image)
both old new P Q first second = record {
  later = first.later;
  each = λ image left. (first.each image left, second.each image left);
  before = λ t image le left. ⊎_elim (λ was. inl was) (λ p. ⊎_elim (λ was. inl was) (λ q. inr (p, q)) (second.before t image le left)) (first.before t image le left);
}

-- where not every image was so
pub keeps_none : (Is : List ℕ → Type 0) (area : Area) (at n : ℕ) (old new : Disk) → IsWritten area at n old new → LeavesOnly old new (IsTornImage area at n old)
    → (AreAll Is area old → (was : List ℕ) → old.leaves area was → ⊥) → Keeps Is area old new
keeps_none Is area at n old new written moments none = record {
  others = keeps_writing area at n old new written moments;
  stays = λ all bytes left. let from = written.leaves bytes left in absurd (none all from.0 from.1);
  moments = λ all. weakened old new (IsTornImage area at n old) (λ image. Is (image area)) moments (λ image torn. absurd (none all torn.torn.0 torn.torn.1));
}

-- ---- exits

pub both_ok : {T E A B C : Type 0} (r : Result T E) → OnOk r A → OnOk r B → (A → B → C) → OnOk r C
both_ok (Ok x) a b join = join a b
both_ok (Err e) a b join = tt

pub told_ok : {T E A : Type 0} (B : Type 0) (r : Result T E) → (A → OnOk r B) → OnOk r (A → B)
told_ok B (Ok x) is = is
told_ok B (Err e) is = tt
