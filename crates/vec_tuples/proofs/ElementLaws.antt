-- The element tuple is read as it is spelled.
use Rattle.std.specs.Prelude.{⊤}
use Rattle.std.proofs.Common.{◌≡◌, ℕ, zero, suc, ◌+◌, ◌/◌, Bool, true, false, eqb, List, [], ◌∷◌, ◌++◌, length, drop, replicate, refl, sym, ap, subst, ◌∙◌, arith, lit≤, lit<}
use Rattle.std.specs.Int.{w16, to_le_bytes}
use Rattle.std.proofs.lemmas.List.{length-replicate, length-append, drop_at}
use Rattle.vec_names.specs.declared.tid.Tid.{Tid}
use Rattle.vec_names.specs.declared.heap_id.HeapId.{HeapId}
use Rattle.vec_names.specs.declared.params.Params.{Params}
use Rattle.vec_names.specs.Params.{IsInRange}
use Rattle.vec_names.specs.Pointer.{tid_bytes}
use Rattle.vec_names.proofs.Pointers.{length-pointer_bytes}
use Rattle.vec_tuples.specs.declared.element.Element.{Element}
use Rattle.vec_tuples.specs.declared.element.ElementHead.{ElementHead}
use Rattle.vec_tuples.specs.Spelling.{bits_bytes, deleted_byte, rows_bytes, head_with, element_with, head_of_element, head_bytes, element_bytes, beside, IsEmptyIf, IsHead, IsElement}
use Rattle.vec_tuples.specs.Reading.{head, element, value_of}
use Rattle.byte_fields.proofs.FieldLaws.{IsField, next_law, viewed_law, after_law, then_law, wider}
use Rattle.byte_fields.proofs.EachField.{IsFrom, one_byte, byte_field, two_bytes_field, place_field}
use Rattle.vec_tuples.proofs.EachField.{IsValueOf, value_of_field}
use Rattle.vec_tuples.proofs.RowPlaces.{AreRows, rows_field, length-rows_bytes}

-- ---- the head

deleted_back : (d : Bool) → eqb (deleted_byte d) 1 ≡ d
deleted_back false = refl
deleted_back true = refl

deleted_in_range : (d : Bool) → IsFrom 0 1 (deleted_byte d)
deleted_in_range false = (lit≤ tt, lit≤ tt)
deleted_in_range true = (lit≤ tt, lit≤ tt)

deleted_code : (k : ℕ) → IsFrom 0 1 k → deleted_byte (eqb k 1) ≡ k
deleted_code zero p = refl
deleted_code (suc zero) p = refl
deleted_code (suc (suc k)) p = absurd (omega (arith, p.1))

head_text : (kind level d version : ℕ) (ids : List HeapId) (at : Tid) (none : ℕ) → IsFrom 1 1 kind → IsFrom 0 1 d → IsFrom 0 0 none
    → head_bytes (head_with level (eqb d 1) version ids at)
    ≡ one_byte kind ++ (one_byte level ++ (one_byte d ++ (one_byte version ++ (rows_bytes 10 ids ++ (tid_bytes at ++ to_le_bytes w16 none)))))
unfolding head_bytes
head_text kind level d version ids at none is_kind is_deleted is_zero =
    let k : kind ≡ 1 = omega (arith, is_kind.0, is_kind.1) in
    let z : none ≡ 0 = omega (arith, is_zero.1) in
    rw (k, z) (ap (λ x. 1 ∷ level ∷ x ∷ version ∷ rows_bytes 10 ids ++ (tid_bytes at ++ (0 ∷ 0 ∷ []))) (deleted_code d is_deleted))

same_head : (h : ElementHead) → head_with h.level (eqb (deleted_byte h.deleted) 1) h.version h.ids.items h.list_at ≡ h
same_head h = ap (λ d. head_with h.level d h.version h.ids.items h.list_at) (deleted_back h.deleted)

pub head_field : IsField ⊤ head head_bytes IsHead 72
unfolding head
head_field =
    viewed_law _ _
    (then_law (byte_field 1 1 (lit≤ tt)) (then_law (byte_field 0 255 (lit≤ tt)) (after_law (byte_field 0 1 (lit≤ tt)) (λ d _.
    then_law (byte_field 1 255 (lit≤ tt)) (then_law (rows_field 10 (eqb d 1)) (then_law place_field (two_bytes_field 0 0 (lit≤ tt) (lit< tt))))))))
    head_bytes IsHead
    (λ h fits.
    let rows : AreRows (eqb (deleted_byte h.deleted) 1) 10 h.ids.items = (fits.few, subst (λ d. IsEmptyIf d h.ids.items) (sym (deleted_back h.deleted)) fits.none_left) in (
      (1, (h.level, (deleted_byte h.deleted, (h.version, (h.ids.items, (h.list_at, 0)))))),
      same_head h,
      ((lit≤ tt, lit≤ tt), ((omega arith, fits.level), (deleted_in_range h.deleted, ((fits.version_low, fits.version_high), (rows, (tt, (lit≤ tt, lit≤ tt))))))),
      ap head_bytes (sym (same_head h)) ∙ head_text 1 h.level (deleted_byte h.deleted) h.version h.ids.items h.list_at 0 (lit≤ tt, lit≤ tt) (deleted_in_range h.deleted) (lit≤ tt, lit≤ tt),
    ))
    (λ w f. (
      record { level = f.1.0.1; version_low = f.1.1.1.0.0; version_high = f.1.1.1.0.1; few = f.1.1.1.1.0.0; none_left = f.1.1.1.1.0.1 },
      head_text w.0 w.1.0 w.1.1.0 w.1.1.1.0 w.1.1.1.1.0 w.1.1.1.1.1.0 w.1.1.1.1.1.1 f.0 f.1.1.0 f.1.1.1.1.1.1,
    ))

-- ---- the whole

value_beside : (deleted : Bool) (count : ℕ) (bits : List Bool) → length bits ≡ count → bits ≡ beside deleted bits → IsValueOf deleted count bits
value_beside false count bits long cleared = long
value_beside true count bits long cleared = cleared ∙ ap (λ n. replicate n false) long

value_long : (deleted : Bool) (count : ℕ) (bits : List Bool) → IsValueOf deleted count bits → length bits ≡ count
value_long false count bits is = is
value_long true count bits is = ap (λ (b : List Bool). length b) is ∙ length-replicate count false

value_cleared : (deleted : Bool) (count : ℕ) (bits : List Bool) → IsValueOf deleted count bits → bits ≡ beside deleted bits
value_cleared false count bits is = refl
value_cleared true count bits is = is ∙ ap (λ n. replicate n false) (sym (value_long true count bits is))

pub element_field : (p : Params) → IsInRange p → IsField ⊤ (element p) element_bytes (IsElement p) 8080
unfolding element element_bytes
element_field p r =
    wider (72 + (8 + (p.bits + 7) / 8)) 8080 (omega (arith, r.bits_high))
    (next_law element_with head (λ h. value_of h.deleted p.bits) head_field (λ h _. value_of_field h.deleted p.bits r.bits_low r.bits_high) element_bytes (IsElement p)
    (λ e fits. (head_of_element e, e.bits, refl, fits.head, value_beside e.deleted p.bits e.bits fits.long fits.cleared, refl))
    (λ h bits is_head is_value. (record { head = is_head; long = value_long h.deleted p.bits bits is_value; cleared = value_cleared h.deleted p.bits bits is_value }, refl)))

-- ---- where the parts stand

pub length-head_bytes : (h : ElementHead) → length (head_bytes h) ≡ 72
unfolding head_bytes
length-head_bytes h =
    length-append (1 ∷ h.level ∷ deleted_byte h.deleted ∷ h.version ∷ rows_bytes 10 h.ids.items) (tid_bytes h.list_at ++ (0 ∷ 0 ∷ []))
    ∙ omega (arith, length-rows_bytes 10 h.ids.items, length-append (tid_bytes h.list_at) (0 ∷ 0 ∷ []), length-pointer_bytes h.list_at.block h.list_at.off)

pub value_behind : (bytes : List ℕ) (e : Element) → bytes ≡ element_bytes e → drop 72 bytes ≡ bits_bytes e.bits
unfolding element_bytes
value_behind bytes e is = ap (λ (b : List ℕ). drop 72 b) is ∙ drop_at (head_bytes (head_of_element e)) (bits_bytes e.bits) 72 (length-head_bytes (head_of_element e))
