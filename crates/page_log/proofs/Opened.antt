-- A log that was read goes on from where it ends.
use Rattle.std.proofs.Common.{◌≡◌, ℕ, ◌+◌, ◌-◌, ◌<◌, ◌≤◌, List, [], ◌∷◌, ◌++◌, None, length, get_or, take, drop, map, false, refl, sym, ap, ◌∙◌, subst, arith, append_assoc, append-nil, take-append-drop}
use Rattle.std.specs.Int.{w32, to_le_bytes}
use Rattle.std.specs.List.{flat_map}
use Rattle.std.proofs.Math.Seq.{take-append-add}
use Rattle.std.proofs.lemmas.List.{drop-take, drop-append-le, take-append-le, length-take-le, drop_more}
use Rattle.vec_outside.specs.Disk.{Disk, IsDurable}
use Rattle.vec_outside.specs.declared.disks.Area.{Area}
use Rattle.page_log.specs.Batches.{Placed, Tail, AreBatches, IsBatch, IsOpenAt, IsLog, room_of}
use Rattle.page_log.specs.Going.{LeadsTo, IsSealed, IsGoing}
use Rattle.page_log.specs.Parts.{at_end}

module _ (area : List ℕ) (last : List Placed) (end used : ℕ) where
  abbrev pub good_end : Tail
  good_end = record { events = last; end = end; used = used; bad = None }

  -- a good log ends at a closed seal, and behind whole batches
  pub ends_well : (batches : List (List Placed)) (at room : ℕ) → AreBatches area at room batches good_end → ¬ IsOpenAt area end × (last ≡ []) × (at ≤ end)
  ends_well [] at room are = (λ is. are.1.0 (subst (λ n. IsOpenAt area n) are.0 is), are.1.1, omega (arith, are.0))
  ends_well (events ∷ batches) at room are =
      let later = ends_well batches (at + 5 + length are.0) (room + room_of events) are.4 in
      (later.0, later.1, omega (arith, later.2))

module _ (area rest : List ℕ) (last : List Placed) (end used : ℕ) (within : end ≤ length area) where
  front_length : length (take end area) ≡ end
  front_length = length-take-le end area within

  -- a batch before the end stands there whatever follows
  batch_stays : (at k : ℕ) (bytes : List ℕ) → end ≡ at + (5 + (length bytes + k)) → IsBatch area at bytes → IsBatch (take end area ++ rest) at bytes
  batch_stays at k bytes e batch =
      let head : List ℕ = 165 ∷ to_le_bytes w32 (length bytes) in
      let before : drop at (take end area) ≡ head ++ (bytes ++ take k batch.rest) =
      ap (λ n. drop at (take n area)) e ∙ drop-take at (5 + (length bytes + k)) area ∙ ap (take (5 + (length bytes + k))) batch.same
      ∙ take-append-add head (bytes ++ batch.rest) (length bytes + k) ∙ ap (λ (l : List ℕ). head ++ l) (take-append-add bytes batch.rest k) in
      record {
        rest = take k batch.rest ++ rest;
        some = batch.some;
        few = batch.few;
        same = drop-append-le at (take end area) rest (omega (arith, e, front_length)) ∙ ap (λ (l : List ℕ). l ++ rest) before
            ∙ append_assoc head (bytes ++ take k batch.rest) rest ∙ ap (λ (l : List ℕ). head ++ l) (append_assoc bytes (take k batch.rest) rest);
      }

  stays : (batches : List (List Placed)) (at room : ℕ) → AreBatches area at room batches (good_end area last end used) → (more : List (List Placed)) (tail : Tail)
      → AreBatches (take end area ++ rest) end used more tail → AreBatches (take end area ++ rest) at room (batches ++ more) tail
  stays [] at room are more tail next =
      subst (λ n. AreBatches (take end area ++ rest) n room more tail) are.0 (subst (λ n. AreBatches (take end area ++ rest) end n more tail) are.1.2 next)
  stays (events ∷ batches) at room are more tail next =
      let len = length are.0 in
      let later = (ends_well area last end used batches (at + 5 + len) (room + room_of events) are.4).2 in (
        are.0,
        batch_stays at (end - (at + 5 + len)) are.0 (omega (arith, later)) are.1,
        are.2,
        are.3,
        stays batches (at + 5 + len) (room + room_of events) are.4 more tail next,
      )

  pub stays_on : (batches : List (List Placed)) (at : ℕ) → AreBatches area at 0 batches (good_end area last end used) → (more : List (List Placed)) (tail : Tail)
      → AreBatches (take end area ++ rest) (length (take end area)) used more tail → AreBatches (take end area ++ rest) at 0 (batches ++ more) tail
  stays_on batches at are more tail next = stays batches at 0 are more tail (subst (λ n. AreBatches (take end area ++ rest) n used more tail) front_length next)

module _ (bytes base : List ℕ) (placed : List Placed) (end used : ℕ) (base_is : take (length base) bytes ≡ base) (log : IsLog bytes (length base) placed end used None)
    (within : end < length bytes) where
  well : ¬ IsOpenAt bytes end × (log.last ≡ []) × (length base ≤ end)
  well = ends_well bytes log.last end used log.batches (length base) 0 log.are

  begins : (rest : List ℕ) → take (length base) (take end bytes ++ rest) ≡ base
  begins rest =
      let long : length base ≤ length (take end bytes) = omega (arith, well.2, length-take-le end bytes (omega (arith, within))) in
      take-append-le (length base) (take end bytes) rest long ∙ sym (take-append-le (length base) (take end bytes) (drop end bytes) long)
      ∙ ap (take (length base)) (take-append-drop end bytes) ∙ base_is

  pub read_leads : LeadsTo base (take end bytes) (map (λ (p : Placed). p.1) placed) used
  read_leads = record {
    begins = begins;
    batches = log.batches;
    events = ap (λ (l : List Placed). map (λ (p : Placed). p.1) l)
        (sym (log.events_are ∙ ap (λ (l : List Placed). flat_map (λ batch. batch) log.batches ++ l) well.1 ∙ append-nil (flat_map (λ batch. batch) log.batches)));
    goes_on = λ rest more tail are. stays_on bytes rest log.last end used (omega (arith, within)) log.batches (length base) log.are more tail are;
  }

  pub read_sealed : IsSealed (take end bytes) false [] bytes
  read_sealed =
      let split = drop_more bytes end 0 within in record {
        seal = get_or bytes end 0;
        rest = drop (end + 1) bytes;
        split = sym (take-append-drop end bytes) ∙ ap (λ (l : List ℕ). take end bytes ++ l) split;
        behind = λ is_open. well.0 (drop (end + 1) bytes, split ∙ ap (λ (b : ℕ). b ∷ drop (end + 1) bytes) is_open);
      }

pub read_going : (disk : Disk) (area : Area) (base : List ℕ) (placed : List Placed) (end used : ℕ) → IsDurable area disk → take (length base) (disk.seen area) ≡ base
    → IsLog (disk.seen area) (length base) placed end used None → end < length (disk.seen area) → used ≤ 268435456
    → IsGoing base (at_end area end used) disk (map (λ (p : Placed). p.1) placed) []
read_going disk area base placed end used durable base_is log within fits = record {
  front = take end (disk.seen area);
  before = used;
  batch = [];
  fresh = [];
  leads = read_leads (disk.seen area) base placed end used base_is log within;
  place = sym (length-take-le end (disk.seen area) (omega (arith, within)));
  pending_are = refl;
  writable = tt;
  body = refl;
  events = refl;
  newer = refl;
  count = refl;
  used = omega arith;
  fits = fits;
  images = λ left leaves. (refl, subst (λ (b : List ℕ). IsSealed (take end (disk.seen area)) false [] b) (sym (durable left leaves)) (read_sealed (disk.seen area) base placed end used base_is log within));
}
