-- A block of the page area, and a run of calls that read it.
use Rattle.std.proofs.Common.{◌≡◌, ℕ, ◌+◌, ◌*◌, ◌<◌, List, length, drop, ap, subst, arith, length-drop}
use Rattle.std.proofs.lemmas.List.{length-take}
use Rattle.page_bytes.specs.Content.{Content, IsPage}
use Rattle.page_bytes.specs.Decoding.{Spells}
use Rattle.page_bytes.specs.Spelling.{spelling}
use Rattle.page_bytes.proofs.Whole.{length-spelling}
use Rattle.page_file.specs.Area.{block_of}
use Rattle.vec_outside.specs.Disk.{Disk, Image, IsImage, IsKept, IsWritten, Elapses, LeavesOnly}
use Rattle.vec_outside.proofs.Moments.{started, goes_on, kept_on}
use Rattle.vec_outside.specs.declared.disks.Area.{Area}

pub length-page : (page : Content) → IsPage page → length (spelling page) ≡ 8192
length-page page is = length-spelling page is.room

-- where the area ends before a block does, no page stands there
pub none_past_end : (area : List ℕ) (block : ℕ) (page : Content) → length area < 8192 * block + 8192 → ¬ Spells (block_of area block) page
none_past_end area block page short spells =
    absurd (omega (arith, short, length-page page spells.page, ap length spells.same, length-take 8192 (drop (8192 * block) area), length-drop (8192 * block) area))

pub same_range : (area : Area) (at at' n n' : ℕ) (old new : Disk) → at ≡ at' → n ≡ n' → IsWritten area at n old new → IsWritten area at' n' old new
same_range area at at' n n' old new same_at same_n w = subst (λ i. IsWritten area i n' old new) same_at (subst (λ i. IsWritten area at i old new) same_n w)

pub read_once : (old new : Disk) → ((image : Image) → old.left_since old.moment image → IsImage old image) → IsKept old new → Elapses old new
    → LeavesOnly old new (IsImage old)
read_once old new only_now kept time = goes_on old old new (IsImage old) (started old (IsImage old) only_now (λ image is. is)) time (λ image is area. kept.leaves area (image area) (is area))

pub read_twice : (old mid new : Disk) → ((image : Image) → old.left_since old.moment image → IsImage old image) → IsKept old mid → Elapses old mid
    → IsKept mid new → Elapses mid new → LeavesOnly old new (IsImage old)
read_twice old mid new only_now kept time kept' time' =
    goes_on old mid new (IsImage old) (read_once old mid only_now kept time) time' (λ image is area. (kept_on old mid new kept kept').leaves area (image area) (is area))
