-- What was spelled is read again, and what is read was spelled so.
use Rattle.std.proofs.Common.{◌≡◌, ℕ, ◌+◌, ◌*◌, ◌/◌, ◌%◌, ◌<◌, ◌^◌, Bool, true, false, ◌&&◌, ◌&&◌, cond, eqb, List, [], ◌∷◌, length, get_or, Option, Some, None, refl, sym, subst, arith, lit<}
use Rattle.std.specs.Prelude.{IfSome}
use Rattle.std.specs.Option.{option_map}
use Rattle.std.proofs.lemmas.Bool.{ne_eqb, and_parts, eqb-true}
use Rattle.std.proofs.lemmas.Nat.{from_le_bytes-to_le_bytes_2}
use Rattle.vec_names.specs.declared.tid.Tid.{Tid}
use Rattle.vec_names.specs.declared.heap_id.HeapId.{HeapId}
use Rattle.vec_names.proofs.PlaceLaws.{tid_of-some, tid_of-numbers, heap_id_of-some, heap_id_of-numbers}
use Rattle.vec_names.specs.Places.{tid_of, heap_id_of}
use Rattle.vec_names.specs.Pointer.{pointer_bytes, no_block, tid_bytes, tid_option_bytes, heap_id_bytes, heap_id_option_bytes, block_in, off_in, tid_in, tid_option_of, tid_option_in, heap_id_in, heap_id_option_of, heap_id_option_in}

-- each is a byte
abbrev pub AreBytes : List ℕ → Type 0
AreBytes bytes = (i : ℕ) → get_or bytes i 0 < 256

pub length-pointer_bytes : (block off : ℕ) → length (pointer_bytes block off) ≡ 6
unfolding pointer_bytes
length-pointer_bytes block off = refl

pub block_in-pointer_bytes : (block off : ℕ) → block < 2 ^ 32 → block_in (pointer_bytes block off) ≡ block
unfolding pointer_bytes block_in
block_in-pointer_bytes block off lt =
    let high = from_le_bytes-to_le_bytes_2 (block / 65536) (grind arith) in
    let low = from_le_bytes-to_le_bytes_2 (block % 65536) (grind arith) in
    omega (arith, high, low)

pub off_in-pointer_bytes : (block off : ℕ) → off < 2 ^ 16 → off_in (pointer_bytes block off) ≡ off
unfolding pointer_bytes off_in
off_in-pointer_bytes block off lt = from_le_bytes-to_le_bytes_2 off lt

-- a number of two bytes, and its bytes
low-of : (a b : ℕ) → a < 256 → b < 256 → (a + b * 256) % 256 ≡ a
low-of a b la lb = omega arith

high-of : (a b : ℕ) → a < 256 → b < 256 → (a + b * 256) / 256 % 256 ≡ b
high-of a b la lb = omega arith

-- a number of two halves, and its halves
high_half : (h l : ℕ) → l < 65536 → (65536 * h + l) / 65536 ≡ h
high_half h l lt = omega arith

low_half : (h l : ℕ) → l < 65536 → (65536 * h + l) % 65536 ≡ l
low_half h l lt = omega arith

six_back : (a b c d e f : ℕ) → a < 256 → b < 256 → c < 256 → d < 256 → e < 256 → f < 256
    → pointer_bytes (block_in (a ∷ b ∷ c ∷ d ∷ e ∷ f ∷ [])) (off_in (a ∷ b ∷ c ∷ d ∷ e ∷ f ∷ [])) ≡ a ∷ b ∷ c ∷ d ∷ e ∷ f ∷ []
unfolding pointer_bytes block_in off_in
six_back a b c d e f la lb lc ld le lf =
    let high : (65536 * (a + b * 256) + (c + d * 256)) / 65536 ≡ a + b * 256 = high_half (a + b * 256) (c + d * 256) (omega arith) in
    let low : (65536 * (a + b * 256) + (c + d * 256)) % 65536 ≡ c + d * 256 = low_half (a + b * 256) (c + d * 256) (omega arith) in
    rw (high, low, low-of a b la lb, high-of a b la lb, low-of c d lc ld, high-of c d lc ld, low-of e f le lf, high-of e f le lf) refl

-- the bytes whose numbers are spelled again
pub pointer_bytes-back : (bytes : List ℕ) → length bytes ≡ 6 → AreBytes bytes → pointer_bytes (block_in bytes) (off_in bytes) ≡ bytes
pointer_bytes-back (a ∷ b ∷ c ∷ d ∷ e ∷ f ∷ []) len fits = six_back a b c d e f (fits 0) (fits 1) (fits 2) (fits 3) (fits 4) (fits 5)
pointer_bytes-back (a ∷ b ∷ c ∷ d ∷ e ∷ f ∷ g ∷ rest) len fits = absurd (omega arith)
pointer_bytes-back (a ∷ b ∷ c ∷ d ∷ e ∷ []) len fits = absurd (omega arith)
pointer_bytes-back (a ∷ b ∷ c ∷ d ∷ []) len fits = absurd (omega arith)
pointer_bytes-back (a ∷ b ∷ c ∷ []) len fits = absurd (omega arith)
pointer_bytes-back (a ∷ b ∷ []) len fits = absurd (omega arith)
pointer_bytes-back (a ∷ []) len fits = absurd (omega arith)
pointer_bytes-back [] len fits = absurd (omega arith)

-- bytes are those that spell their two numbers
pub again_from : (bytes : List ℕ) (block off : ℕ) → length bytes ≡ 6 → AreBytes bytes → block ≡ block_in bytes → off ≡ off_in bytes → bytes ≡ pointer_bytes block off
again_from bytes block off len fits e f = rw (e, f) (sym (pointer_bytes-back bytes len fits))

some_inj : {A : Type 0} (x y : A) → Some x ≡ Some y → x ≡ y
some_inj x y e = cc

are_none : (block off : ℕ) → (eqb block no_block && eqb off 0) ≡ true → (block ≡ no_block) × (off ≡ 0)
are_none block off e =
    let both = and_parts _ _ e in
    (eqb-true _ _ both.0, eqb-true _ _ both.1)

-- ---- Tid

pub tid_in-again : (t : Tid) → tid_in (tid_bytes t) ≡ Some t
tid_in-again t =
    rw (block_in-pointer_bytes t.block t.off (omega (arith, t.within_blocks)), off_in-pointer_bytes t.block t.off t.in_two_bytes) (tid_of-some t)

pub tid_of-spelled : (block off : ℕ) (r : Option Tid) → r ≡ tid_of block off → IfSome r (λ t. pointer_bytes block off ≡ tid_bytes t)
tid_of-spelled block off None is = tt
tid_of-spelled block off (Some t) is =
    let n = tid_of-numbers block off t (sym is) in
    rw (n.0, n.1) refl

pub tid_option_in-again : (o : Option Tid) → tid_option_in (tid_option_bytes o) ≡ Some o
unfolding tid_option_of
tid_option_in-again None = rw (block_in-pointer_bytes no_block 0 (lit< tt), off_in-pointer_bytes no_block 0 (lit< tt)) refl
tid_option_in-again (Some t) =
    let differs : eqb t.block no_block ≡ false = ne_eqb _ _ (λ e. omega (arith, t.within_blocks, e)) in
    rw (block_in-pointer_bytes t.block t.off (omega (arith, t.within_blocks)), off_in-pointer_bytes t.block t.off t.in_two_bytes, differs, tid_of-some t) refl

tid_found : (i : Option Tid) (block off : ℕ) (o : Option Tid) → option_map (λ t. Some t) i ≡ Some o → IfSome i (λ t. pointer_bytes block off ≡ tid_bytes t) → pointer_bytes block off ≡ tid_option_bytes o
tid_found None block off o is spelled = absurd cc
tid_found (Some t) block off o is spelled = subst (λ (x : Option Tid). pointer_bytes block off ≡ tid_option_bytes x) (some_inj _ _ is) spelled

tid_chosen : (b : Bool) (block off : ℕ) (o : Option Tid) → cond b (Some None) (option_map (λ t. Some t) (tid_of block off)) ≡ Some o → (b ≡ true → (block ≡ no_block) × (off ≡ 0)) → pointer_bytes block off ≡ tid_option_bytes o
tid_chosen true block off o is at_none =
    let n = at_none refl in
    subst (λ (x : Option Tid). pointer_bytes block off ≡ tid_option_bytes x) (some_inj _ _ is) (rw (n.0, n.1) refl)
tid_chosen false block off o is at_none = tid_found (tid_of block off) block off o is (tid_of-spelled block off _ refl)

pub tid_option_of-spelled : (block off : ℕ) (r : Option (Option Tid)) → r ≡ tid_option_of block off → IfSome r (λ o. pointer_bytes block off ≡ tid_option_bytes o)
unfolding tid_option_of
tid_option_of-spelled block off None is = tt
tid_option_of-spelled block off (Some o) is = tid_chosen _ block off o (sym is) (are_none block off)

-- ---- HeapId

pub heap_id_in-again : (t : HeapId) → heap_id_in (heap_id_bytes t) ≡ Some t
heap_id_in-again t =
    rw (block_in-pointer_bytes t.block t.off (omega (arith, t.within_blocks)), off_in-pointer_bytes t.block t.off t.in_two_bytes) (heap_id_of-some t)

pub heap_id_of-spelled : (block off : ℕ) (r : Option HeapId) → r ≡ heap_id_of block off → IfSome r (λ t. pointer_bytes block off ≡ heap_id_bytes t)
heap_id_of-spelled block off None is = tt
heap_id_of-spelled block off (Some t) is =
    let n = heap_id_of-numbers block off t (sym is) in
    rw (n.0, n.1) refl

pub heap_id_option_in-again : (o : Option HeapId) → heap_id_option_in (heap_id_option_bytes o) ≡ Some o
unfolding heap_id_option_of
heap_id_option_in-again None = rw (block_in-pointer_bytes no_block 0 (lit< tt), off_in-pointer_bytes no_block 0 (lit< tt)) refl
heap_id_option_in-again (Some t) =
    let differs : eqb t.block no_block ≡ false = ne_eqb _ _ (λ e. omega (arith, t.within_blocks, e)) in
    rw (block_in-pointer_bytes t.block t.off (omega (arith, t.within_blocks)), off_in-pointer_bytes t.block t.off t.in_two_bytes, differs, heap_id_of-some t) refl

heap_id_found : (i : Option HeapId) (block off : ℕ) (o : Option HeapId) → option_map (λ t. Some t) i ≡ Some o → IfSome i (λ t. pointer_bytes block off ≡ heap_id_bytes t) → pointer_bytes block off ≡ heap_id_option_bytes o
heap_id_found None block off o is spelled = absurd cc
heap_id_found (Some t) block off o is spelled = subst (λ (x : Option HeapId). pointer_bytes block off ≡ heap_id_option_bytes x) (some_inj _ _ is) spelled

heap_id_chosen : (b : Bool) (block off : ℕ) (o : Option HeapId) → cond b (Some None) (option_map (λ t. Some t) (heap_id_of block off)) ≡ Some o → (b ≡ true → (block ≡ no_block) × (off ≡ 0)) → pointer_bytes block off ≡ heap_id_option_bytes o
heap_id_chosen true block off o is at_none =
    let n = at_none refl in
    subst (λ (x : Option HeapId). pointer_bytes block off ≡ heap_id_option_bytes x) (some_inj _ _ is) (rw (n.0, n.1) refl)
heap_id_chosen false block off o is at_none = heap_id_found (heap_id_of block off) block off o is (heap_id_of-spelled block off _ refl)

pub heap_id_option_of-spelled : (block off : ℕ) (r : Option (Option HeapId)) → r ≡ heap_id_option_of block off → IfSome r (λ o. pointer_bytes block off ≡ heap_id_option_bytes o)
unfolding heap_id_option_of
heap_id_option_of-spelled block off None is = tt
heap_id_option_of-spelled block off (Some o) is = heap_id_chosen _ block off o (sym is) (are_none block off)
