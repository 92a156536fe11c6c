-- A batch by its front: its seal and its length.
use Rattle.std.proofs.Common.{◌≡◌, ◌≢◌, ℕ, zero, suc, get_or, drop-drop, ◌+◌, ◌-◌, ◌<◌, ◌≤◌, ◌^◌, min, List, [], ◌∷◌, ◌++◌, length, take, drop, refl, sym, ap, ◌∙◌, subst, arith, length-append, length-drop, append-nil}
use Rattle.std.specs.Int.{w32, to_le_bytes, from_le_bytes}
use Rattle.std.proofs.lemmas.List.{length-take, take-append-drop}
use Rattle.std.proofs.Math.Path.{fun_ext}
use Rattle.std.proofs.lemmas.Nat.{from_le_bytes-to_le_bytes_4, le_bytes_4}
use Rattle.page_log.specs.Batches.{IsBatch}
use Rattle.page_log.specs.Steps.{IsFront, OnlyReads}
use Rattle.vec_outside.specs.Disk.{Disk, Image, IsImage, IsKept, Elapses}
use Rattle.vec_outside.proofs.Moments.{started, goes_on, kept_on, joined}

-- ---- reads

pub read_one : (old new : Disk) → ((image : Image) → old.left_since old.moment image → IsImage old image) → IsKept old new → Elapses old new → OnlyReads old new
read_one old new only_now kept time = record {
  kept = kept;
  moments = goes_on old old new (IsImage old) (started old (IsImage old) only_now (λ image is. is)) time (λ image is area. kept.leaves area (image area) (is area));
}

pub read_none : (disk : Disk) → ((image : Image) → disk.left_since disk.moment image → IsImage disk image) → OnlyReads disk disk
read_none disk only_now = record {
  kept = record { seen = λ area. refl; leaves = λ area bytes left. left };
  moments = started disk (IsImage disk) only_now (λ image is. is);
}

pub reads_on : (old mid new : Disk) → OnlyReads old mid → OnlyReads mid new → OnlyReads old new
reads_on old mid new first second = record {
  kept = kept_on old mid new first.kept second.kept;
  moments = joined old mid new (IsImage old) (IsImage mid) first.moments second.moments (λ image is area. first.kept.leaves area (image area) (is area));
}

-- ---- fronts

some_of : (bytes : List ℕ) → (bytes ≡ [] → ⊥) → 0 < length bytes
some_of [] none = absurd (none refl)
some_of (b ∷ bytes) none = omega arith

none_of : (bytes : List ℕ) → 0 < length bytes → bytes ≢ []
none_of bytes some is = absurd (omega (arith, some, ap length is))

-- the front that a batch has
pub front_of : (area : List ℕ) (at : ℕ) (bytes : List ℕ) → IsBatch area at bytes → IsFront (take 5 (drop at area)) (length bytes)
front_of area at bytes batch = record { some = some_of bytes batch.some; few = batch.few; same = ap (take 5) batch.same }

-- a front tells one length
pub one_front : (front : List ℕ) (a b : ℕ) → IsFront front a → IsFront front b → a ≡ b
one_front front a b first second =
    sym (from_le_bytes-to_le_bytes_4 a first.few) ∙ ap (λ bytes. from_le_bytes w32 (drop 1 bytes)) (sym first.same ∙ second.same) ∙ from_le_bytes-to_le_bytes_4 b second.few

-- bytes that begin with a front begin with an open seal
pub open_of : (bytes : List ℕ) (n len : ℕ) → IsFront (take n bytes) len → (rest : List ℕ) × (bytes ≡ 165 ∷ rest)
open_of bytes zero len front = absurd (omega (arith, ap length front.same))
open_of [] (suc n) len front = absurd (omega (arith, ap length front.same))
open_of (b ∷ bytes) (suc n) len front = (bytes, ap (λ first. first ∷ bytes) (ap (λ list. get_or list 0 0) front.same))

-- a batch lies within the area
pub within_of : (area : List ℕ) (at : ℕ) (bytes : List ℕ) → IsBatch area at bytes → at + 5 + length bytes ≤ length area
within_of area at bytes batch = omega (arith, length-drop at area, ap length batch.same, length-append bytes batch.rest)

-- a front whose events would end behind the area is of no batch
pub none_past_end : (area : List ℕ) (at len : ℕ) → IsFront (take 5 (drop at area)) len → length area - at - 5 < len → at + 5 ≤ length area → (bytes : List ℕ) → ¬ IsBatch area at bytes
none_past_end area at len front long here bytes batch =
    absurd (omega (arith, long, here, within_of area at bytes batch, one_front (take 5 (drop at area)) (length bytes) len (front_of area at bytes batch) front))

-- a front and the bytes that it tells
pub batch_of : (area : List ℕ) (at len : ℕ) (bytes : List ℕ) → IsFront (take 5 (drop at area)) len → at + 5 + len ≤ length area
    → bytes ≡ take len (drop (at + 5) area) → IsBatch area at bytes
batch_of area at len bytes front within is =
    let size : length bytes ≡ len = ap length is ∙ length-take len (drop (at + 5) area) ∙ omega (arith, within, length-drop (at + 5) area) in
    let behind : drop 5 (drop at area) ≡ bytes ++ drop len (drop (at + 5) area) =
    drop-drop 5 at area ∙ sym (take-append-drop len (drop (at + 5) area)) ∙ ap (λ front. front ++ drop len (drop (at + 5) area)) (sym is) in record {
      rest = drop len (drop (at + 5) area);
      some = none_of bytes (omega (arith, size, front.some));
      few = omega (arith, size, front.few);
      same = sym (take-append-drop 5 (drop at area)) ∙ ap (λ first. first ++ drop 5 (drop at area)) front.same ∙ ap (λ last. 165 ∷ to_le_bytes w32 len ++ last) behind
          ∙ ap (λ n. 165 ∷ to_le_bytes w32 n ++ (bytes ++ drop len (drop (at + 5) area))) (sym size);
    }

small_take : (n : ℕ) (xs : List ℕ) → ((i : ℕ) → get_or xs i 0 < 256) → (i : ℕ) → get_or (take n xs) i 0 < 256
small_take zero xs small i = omega arith
small_take (suc n) [] small i = omega arith
small_take (suc n) (x ∷ xs) small zero = small 0
small_take (suc n) (x ∷ xs) small (suc i) = small_take n xs (λ k. small (suc k)) i

-- the front that five bytes are
pub front_is : (front rest four behind : List ℕ) (seal len : ℕ) → front ≡ seal ∷ rest → seal ≡ 165 → four ≡ take 4 rest → behind ≡ drop 4 rest → length behind + 4 ≡ length rest
    → behind ≡ [] → len ≡ from_le_bytes w32 four → len < 2 ^ 32 → ((i : ℕ) → get_or front i 0 < 256) → (len ≡ 0 → ⊥) → IsFront front len
front_is front rest four behind seal len is open_ four_is behind_is size none len_is few small some =
    let four_size : length four ≡ 4 = ap length four_is ∙ length-take 4 rest ∙ omega (arith, size) in
    let small_rest : (i : ℕ) → get_or rest i 0 < 256 = λ i. subst (λ bytes. get_or bytes (suc i) 0 < 256) is (small (suc i)) in
    let four_small : (i : ℕ) → get_or four i 0 < 256 = subst (λ bytes. (i : ℕ) → get_or bytes i 0 < 256) (sym four_is) (small_take 4 rest small_rest) in
    let rest_is : rest ≡ four = sym (take-append-drop 4 rest) ∙ ap (λ bytes. take 4 rest ++ bytes) (sym behind_is ∙ none) ∙ append-nil (take 4 rest) ∙ sym four_is in record {
      some = omega (arith, some);
      few = few;
      same = is ∙ ap (λ b. b ∷ rest) open_ ∙ ap (λ bytes. 165 ∷ bytes) (rest_is ∙ sym (le_bytes_4 four len four_size four_small len_is));
    }

-- what is read of every area stays
pub same_seen : (old new : Disk) → IsKept old new → new.seen ≡ old.seen
same_seen old new kept = fun_ext kept.seen

-- a front that was read of an area of this size
pub front_there : (area front : List ℕ) (at size len : ℕ) → size ≡ length area → front ≡ take (min (size - at) 5) (drop at area) → IsFront front len
    → IsFront (take 5 (drop at area)) len
front_there area front at size len is read f =
    let five : min (size - at) 5 ≡ 5 = omega (arith, is, ap length f.same, ap length read, length-take (min (size - at) 5) (drop at area), length-drop at area) in
    let same : front ≡ take 5 (drop at area) = read ∙ ap (λ n. take n (drop at area)) five in
    subst (λ front. IsFront front len) same f
