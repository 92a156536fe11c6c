-- An index, rebuilt from an epoch that was read and its pages before the events.
use Rattle.std.proofs.Common.{◌≤◌, ◌<◌, ◌⊎◌, ◌↔◌, ◌+◌, ◌%◌, ◌^◌, ℕ, Bool, List, length, Some, None, refl, sym, subst, arith}
use Rattle.std.specs.Prelude.{All, Contains, Ok, Err}
use Rattle.std.specs.List.Sorted.{IsStrictlyIncreasing}
use Rattle.index_sizes.specs.declared.limits.TheConstants.{MOST_BLOCKS}
use Rattle.vec_names.specs.declared.params.Params.{Params}
use Rattle.page_bytes.specs.Content.{Content}
use Rattle.page_log.specs.declared.opening_fault.OpenFault.{OpenFault}
use Rattle.page_log.specs.declared.opening_fault.OpenFault.TheVariants as faults
use Rattle.vec_recover.specs.Recovering.{AreOf, IsImaged, IsLowestBroken, IsTouchedBy, Recovery, Stand, wrap_of}
use Rattle.vec_recover.specs.Telling.{IsOpenFault, Tells}
use Rattle.vec_recover.specs.declared.reading.ReadIndex.{ReadIndex}
use Rattle.vec_recover.specs.declared.reading.Rest.{Rest}
use Rattle.vec_recover.specs.declared.redoing.Redoing.{Redoing}
use Rattle.vec_recover.specs.Parts.{AreMarked, AreUpTo, HasLists, IsLogEnd, IsNoDisk, IsOfBlock, IsReadOf, IsRebuilt, IsStandingFor, epoch_with}
use Rattle.vec_recover.proofs.Marking.{all_below}

-- the pages before the events stand for no index
pub not_of : (rest : Rest) (images : List (ℕ × Content)) (first : List Content) (fault : OpenFault) → IsOfBlock (IsLowestBroken rest.form first) fault
    → IsRebuilt rest images first (Err fault)
not_of rest images first faults.Memory x blocks = tt
not_of rest images first (faults.Disk count) x blocks = tt
not_of rest images first (faults.NotIndex area at) x blocks = x
not_of rest images first (faults.BadEvent area at) x blocks = absurd x

-- how the epoch's events are redone
abbrev pub how_of : Rest → Params → Redoing
how_of rest p = record { params = p; wrap = wrap_of rest.form; number = (rest.before + 1) % 2 ^ 64 }

pub bad_at : (rest : Rest) (images : List (ℕ × Content)) (p : Params) (first now : List Content) (at : ℕ) → AreOf rest.form p first
    → IsLogEnd (how_of rest p) rest.events.items rest.bad first now (Some at) → IsRebuilt rest images first (Err (faults.BadEvent rest.area at))
bad_at rest images p first now at of ended blocks = (refl, (p, of, ended))

module _ (rest : Rest) (p : Params) (first now : List Content) (of : AreOf rest.form p first) (ended : IsLogEnd (how_of rest p) rest.events.items rest.bad first now None)
    (unwritten : List ℕ) (read : ReadIndex) (is : IsReadOf rest unwritten now read) where
  pub rebuilt : (images : List (ℕ × Content)) (marks : List Bool) → AreMarked marks (λ block. IsImaged images block ⊎ IsTouchedBy p rest.events.items block)
      → AreUpTo marks (length now) unwritten → IsRebuilt rest images first (Ok read)
  rebuilt images marks marked up blocks =
      let r : Recovery = record { epoch = epoch_with rest blocks images; params = p; pages = now } in
      (r, refl, tells r, of, ended.0, ended.1) where
        unwritten_is : (block : ℕ) → Contains read.loaded.unwritten.items block
            ↔ ((block < length now) × (IsImaged images block ⊎ IsTouchedBy p rest.events.items block))
        unwritten_is block = (to, from) where
          to : Contains read.loaded.unwritten.items block → (block < length now) × (IsImaged images block ⊎ IsTouchedBy p rest.events.items block)
          to there =
              let both = (up.each block).0 (subst (λ (l : List ℕ). Contains l block) is.7 there) in
              (both.0, ((marked.each block).0 both.1).1)

          from : (block < length now) × (IsImaged images block ⊎ IsTouchedBy p rest.events.items block) → Contains read.loaded.unwritten.items block
          from both =
              let low : block < MOST_BLOCKS = omega (arith, both.0, ended.2.few) in
              subst (λ (l : List ℕ). Contains l block) (sym is.7) ((up.each block).1 (both.0, (marked.each block).1 (low, both.1)))

        tells : (r : Recovery) → Tells read (record { epoch = epoch_with rest blocks images; params = p; pages = now })
        tells r = record {
          form = is.0;
          epoch = is.2;
          area = is.3;
          before = is.4;
          end = is.5;
          used = is.6;
          pages = is.1;
          unwritten = unwritten_is;
        }

  pub stands_for : IsStandingFor read
  stands_for = (p, subst (λ (l : List Content). Stand p l) (sym is.1) ended.2.stand)

  pub has_lists : (marks : List Bool) → AreUpTo marks (length now) unwritten → HasLists rest read
  has_lists marks up = record {
    few = subst (λ (l : List Content). length l ≤ MOST_BLOCKS) (sym is.1) ended.2.few;
    epoch = is.2;
    area = is.3;
    end = is.5;
    used = is.6;
    rising = subst IsStrictlyIncreasing (sym is.7) up.rising;
    there =
        subst (λ (l : List Content). All (λ block. block < length l) read.loaded.unwritten.items) (sym is.1)
        (subst (All (λ block. block < length now)) (sym is.7) (all_below marks (length now) unwritten up));
  }

pub calm_fault : (fault : OpenFault) (before now : ℕ) → IsNoDisk fault → IsOpenFault before now fault
calm_fault faults.Memory before now x = tt
calm_fault (faults.Disk count) before now x = absurd x
calm_fault (faults.NotIndex area at) before now x = tt
calm_fault (faults.BadEvent area at) before now x = tt
