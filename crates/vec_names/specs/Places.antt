-- Places and rows by their two numbers.
use Rattle.std.specs.Prelude.{◌≡◌, ℕ, ◌≤◌, ◌<◌, ◌^◌, Bool, true, false, nat_le, nat_lt, Option, Some, None}
use Rattle.std.specs.Coded.{Coded, coded×, coded_ℕ, le_prop}
use Rattle.std.proofs.Props.{props}
use Rattle.std.proofs.Common.{refl}
use Rattle.std.proofs.lemmas.Bool.{leb-true, ltb-true}
use Rattle.index_sizes.specs.declared.limits.TheConstants.{LAST_BLOCK}
use base.Stored.{coded_via}
use mathlib.Core.HLevel.{Σ_prop_path}
use Rattle.vec_names.specs.declared.tid.Tid.{Tid}
use Rattle.vec_names.specs.declared.heap_id.HeapId.{HeapId}

-- the place with these numbers, where they are in range
unfoldable pub tid_where : (block off : ℕ) (b c d : Bool) → nat_le block LAST_BLOCK ≡ b → nat_le 1 off ≡ c → nat_lt off (2 ^ 16) ≡ d
    → Option Tid
tid_where block off true true true b c d =
    Some (record {
      block = block;
      off = off;
      within_blocks = leb-true _ _ b;
      counted_from_one = leb-true _ _ c;
      in_two_bytes = ltb-true _ _ d;
    })
tid_where block off true true false b c d = None
tid_where block off true false _ b c d = None
tid_where block off false _ _ b c d = None

-- the place in this block at this offset, if there is one
unfoldable pub tid_of : ℕ → ℕ → Option Tid
tid_of block off = tid_where block off _ _ _ refl refl refl

unfoldable pub heap_id_where : (block off : ℕ) (b c d : Bool) → nat_lt block 0xFFFFFFFF ≡ b → nat_le 1 off ≡ c → nat_lt off (2 ^ 16) ≡ d
    → Option HeapId
heap_id_where block off true true true b c d =
    Some (record {
      block = block;
      off = off;
      within_blocks = ltb-true _ _ b;
      counted_from_one = leb-true _ _ c;
      in_two_bytes = ltb-true _ _ d;
    })
heap_id_where block off true true false b c d = None
heap_id_where block off true false _ b c d = None
heap_id_where block off false _ _ b c d = None

-- the row of this block at this offset, if there is one
unfoldable pub heap_id_of : ℕ → ℕ → Option HeapId
heap_id_of block off = heap_id_where block off _ _ _ refl refl refl

-- places and rows with the same numbers are the same
pub same_tid : (a b : Tid) → a.block ≡ b.block → a.off ≡ b.off → a ≡ b
same_tid a b e f =
    let P : ℕ × ℕ → Type 0 = λ p. (p.0 ≤ LAST_BLOCK) × (1 ≤ p.1) × (p.1 < 2 ^ 16) in
    let numbers : ◌≡◌ {A = ℕ × ℕ} (a.block, a.off) (b.block, b.off) = λ i. (e i, f i) in
    let whole : ◌≡◌ {A = (p : ℕ × ℕ) × P p} ((a.block, a.off), (a.within_blocks, a.counted_from_one, a.in_two_bytes))
    ((b.block, b.off), (b.within_blocks, b.counted_from_one, b.in_two_bytes)) =
    Σ_prop_path (λ p. hlevel (props, le_prop)) numbers in
    λ i. record {
      block = (whole i).0.0;
      off = (whole i).0.1;
      within_blocks = (whole i).1.0;
      counted_from_one = (whole i).1.1;
      in_two_bytes = (whole i).1.2;
    }

pub same_heap_id : (a b : HeapId) → a.block ≡ b.block → a.off ≡ b.off → a ≡ b
same_heap_id a b e f =
    let P : ℕ × ℕ → Type 0 = λ p. (p.0 < 0xFFFFFFFF) × (1 ≤ p.1) × (p.1 < 2 ^ 16) in
    let numbers : ◌≡◌ {A = ℕ × ℕ} (a.block, a.off) (b.block, b.off) = λ i. (e i, f i) in
    let whole : ◌≡◌ {A = (p : ℕ × ℕ) × P p} ((a.block, a.off), (a.within_blocks, a.counted_from_one, a.in_two_bytes))
    ((b.block, b.off), (b.within_blocks, b.counted_from_one, b.in_two_bytes)) =
    Σ_prop_path (λ p. hlevel (props, le_prop)) numbers in
    λ i. record {
      block = (whole i).0.0;
      off = (whole i).0.1;
      within_blocks = (whole i).1.0;
      counted_from_one = (whole i).1.1;
      in_two_bytes = (whole i).1.2;
    }

-- how a place and a row are stored, by which a proof tells two of them apart
abbrev pub tid_code : Coded Tid
tid_code = coded_via (coded× coded_ℕ coded_ℕ) (λ t. (t.block, t.off)) (λ a b e. same_tid a b (λ i. (e i).0) (λ i. (e i).1))

abbrev pub heap_id_code : Coded HeapId
heap_id_code = coded_via (coded× coded_ℕ coded_ℕ) (λ t. (t.block, t.off)) (λ a b e. same_heap_id a b (λ i. (e i).0) (λ i. (e i).1))
