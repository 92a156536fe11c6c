-- Pages that are written one after the other: what holds before the pairs that are left.
use Rattle.std.proofs.Common.{◌≡◌, ◌⊎◌, ℕ, zero, suc, ◌+◌, ◌*◌, ◌≤◌, List, ◌∷◌, length, take, drop, slice_get, Some, ◌++◌, refl, sym, ap, ◌∙◌, inl, inr, arith, length-append, length-drop}
use Rattle.std.proofs.lemmas.List.{length-take}
use Rattle.page_bytes.specs.Content.{Content}
use Rattle.page_bytes.specs.Spelling.{spelling}
use Rattle.page_file.specs.Area.{IsAmong, IsRising, LeavesNoGap, with_pages, bytes_of, IsTornImage, IsWritten}
use Rattle.page_file.proofs.Torn.{torn_block, torn_nowhere, torn_again}
use Rattle.vec_outside.specs.Disk as outside
use Rattle.vec_outside.specs.Disk.{Disk, Image, IsImage, Elapses, LeavesOnly, spliced}
use Rattle.vec_outside.proofs.Moments.{started, goes_on}
use Rattle.vec_outside.specs.declared.disks.Area.TheVariants.{Pages}

pub record IsGoing (told : Type 0) (pages : List Content) (pairs rest : List (ℕ × ℕ)) (old now : Disk) : Type 0 where
  pub among : (block : ℕ) → IsAmong rest block → IsAmong pairs block
  pub rising : IsRising rest
  pub no_gap : told → LeavesNoGap rest (length (now.seen Pages))
  pub bytes : told → with_pages pages rest (now.seen Pages) ≡ with_pages pages pairs (old.seen Pages)
  pub written : IsWritten pairs old now
  pub moments : LeavesOnly old now (IsTornImage pairs old)

written_none : (pairs : List (ℕ × ℕ)) (disk : Disk) → IsWritten pairs disk disk
written_none pairs disk = record {
  seen = torn_nowhere pairs (disk.seen Pages);
  leaves = λ bytes left. (bytes, left, torn_nowhere pairs bytes);
  other_seen = λ other ne. refl;
  other_leaves = λ other bytes ne left. left;
}

written_image : (pairs : List (ℕ × ℕ)) (old now : Disk) → IsWritten pairs old now → (image : Image) → IsImage now image → IsTornImage pairs old image
written_image pairs old now w image is = record {
  torn = w.leaves (image Pages) (is Pages);
  others = λ other ne. w.other_leaves other (image other) ne (is other);
}

-- before the first
pub begins : (told : Type 0) (pages : List Content) (pairs : List (ℕ × ℕ)) (disk : Disk) → IsRising pairs → (told → LeavesNoGap pairs (length (disk.seen Pages)))
    → ((image : Image) → disk.left_since disk.moment image → IsImage disk image) → IsGoing told pages pairs pairs disk disk
begins told pages pairs disk rising no_gap only_now = record {
  among = λ block is. is;
  rising = rising;
  no_gap = no_gap;
  bytes = λ t. refl;
  written = written_none pairs disk;
  moments = started disk (IsTornImage pairs disk) only_now (written_image pairs disk disk (written_none pairs disk));
}

written_more : (pairs : List (ℕ × ℕ)) (block : ℕ) (old mid new : Disk) → IsAmong pairs block → IsWritten pairs old mid
    → outside.IsWritten Pages (8192 * block) 8192 mid new → IsWritten pairs old new
written_more pairs block old mid new among w one = record {
  seen = torn_again pairs _ _ _ w.seen (torn_block pairs block _ _ among one.seen);
  leaves = λ bytes left.
      let mine = one.leaves bytes left in
      let was = w.leaves mine.0 mine.1 in
      (was.0, was.1, torn_again pairs was.0 mine.0 bytes was.2 (torn_block pairs block mine.0 bytes among mine.2));
  other_seen = λ other ne. one.other_seen other ne ∙ w.other_seen other ne;
  other_leaves = λ other bytes ne left. w.other_leaves other bytes ne (one.other_leaves other bytes ne left);
}

-- After one write more, whether it succeeded or not.
pub written_on : (told : Type 0) (pages : List Content) (pairs rest : List (ℕ × ℕ)) (pair : ℕ × ℕ) (old mid new : Disk)
    → IsGoing told pages pairs (pair ∷ rest) old mid → outside.IsWritten Pages (8192 * pair.0) 8192 mid new → IsWritten pairs old new
written_on told pages pairs rest pair old mid new going one = written_more pairs pair.0 old mid new (going.among pair.0 (inl refl)) going.written one

pub moments_on : (told : Type 0) (pages : List Content) (pairs rest : List (ℕ × ℕ)) (pair : ℕ × ℕ) (old mid new : Disk)
    → IsGoing told pages pairs (pair ∷ rest) old mid → outside.IsWritten Pages (8192 * pair.0) 8192 mid new → Elapses mid new → LeavesOnly old new (IsTornImage pairs old)
moments_on told pages pairs rest pair old mid new going one time =
    goes_on old mid new (IsTornImage pairs old) going.moments time (written_image pairs old new (written_on told pages pairs rest pair old mid new going one))

-- the next write begins at most at the area's end
pub next_within : (rest : List (ℕ × ℕ)) (pair : ℕ × ℕ) (len : ℕ) → IsRising (pair ∷ rest) → LeavesNoGap (pair ∷ rest) len → 8192 * pair.0 ≤ len
next_within rest pair len rising no_gap = within pair.0 refl
  where
    here : (block : ℕ) → block + 1 ≡ pair.0 → IsAmong (pair ∷ rest) block ⊎ (8192 * (block + 1) ≤ len) → 8192 * pair.0 ≤ len
    here block is (inl (inl same)) = omega (arith, is, same)
    here block is (inl (inr later)) = omega (arith, is, rising.0 block later)
    here block is (inr long) = omega (arith, is, long)

    within : (block : ℕ) → block ≡ pair.0 → 8192 * pair.0 ≤ len
    within zero is = omega (arith, is)
    within (suc block) is = here block (omega (arith, is)) (no_gap block (inl (omega (arith, is))))

length-spliced : (old : List ℕ) (at : ℕ) (bytes : List ℕ) → at ≤ length old → (length old ≤ length (spliced old at bytes)) × (at + length bytes ≤ length (spliced old at bytes))
length-spliced old at bytes h =
    let all = length-append (take at old ++ bytes) (drop (at + length bytes) old) in
    let front = length-append (take at old) bytes in
    (omega (arith, h, all, front, length-take at old, length-drop (at + length bytes) old), omega (arith, h, all, front, length-take at old))

no_gap_on : (rest : List (ℕ × ℕ)) (pair : ℕ × ℕ) (len more : ℕ) → LeavesNoGap (pair ∷ rest) len → len ≤ more → 8192 * (pair.0 + 1) ≤ more → LeavesNoGap rest more
no_gap_on rest pair len more no_gap longer reach block below = here (no_gap block (inr below))
  where
    here : IsAmong (pair ∷ rest) block ⊎ (8192 * (block + 1) ≤ len) → IsAmong rest block ⊎ (8192 * (block + 1) ≤ more)
    here (inl (inl same)) = inr (omega (arith, same, reach))
    here (inl (inr later)) = inl later
    here (inr long) = inr (omega (arith, long, longer))

-- one page more
pub goes_further : (told : Type 0) (pages : List Content) (pairs rest : List (ℕ × ℕ)) (pair : ℕ × ℕ) (page : Content) (old mid new : Disk)
    → IsGoing told pages pairs (pair ∷ rest) old mid → slice_get pages pair.1 ≡ Some page → length (spelling page) ≡ 8192
    → outside.IsWritten Pages (8192 * pair.0) 8192 mid new → Elapses mid new
    → (told → new.seen Pages ≡ spliced (mid.seen Pages) (8192 * pair.0) (spelling page)) → IsGoing told pages pairs rest old new
goes_further told pages pairs rest pair page old mid new going is size one time bytes = record {
  among = λ block is. going.among block (inr is);
  rising = going.rising.1;
  no_gap = λ t.
      let longer = length-spliced (mid.seen Pages) (8192 * pair.0) (spelling page) (next_within rest pair _ going.rising (going.no_gap t)) in
      let same = ap length (bytes t) in
      no_gap_on rest pair (length (mid.seen Pages)) (length (new.seen Pages)) (going.no_gap t) (omega (arith, longer.0, same)) (omega (arith, longer.1, same, size));
  bytes = λ t.
      ap (with_pages pages rest) (bytes t ∙ ap (λ page. spliced (mid.seen Pages) (8192 * pair.0) (bytes_of page)) (sym is)) ∙ going.bytes t;
  written = written_on told pages pairs rest pair old mid new going one;
  moments = moments_on told pages pairs rest pair old mid new going one time;
}
