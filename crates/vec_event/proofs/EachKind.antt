-- Each kind of event is read as it is spelled.
use Rattle.std.proofs.Common.{◌≡◌, ℕ, ◌+◌, ◌<◌, ◌≤◌, ◌^◌, Bool, List, ◌++◌, drop, Option, Some, None, refl, arith, lit<, lit≤}
use Rattle.std.specs.Prelude.{slice_index, true}
use Rattle.std.proofs.Common.{eq-eqb}
use Rattle.std.proofs.lemmas.Bool.{eqb-true}
use Rattle.vec_names.specs.declared.tid.Tid.{Tid}
use Rattle.vec_names.specs.declared.heap_id.HeapId.{HeapId}
use Rattle.vec_history.specs.declared.event.Event.{Event}
use Rattle.vec_history.specs.declared.event.Event.TheVariants.{Put, Join, Link, Relist, Drop, Mark, Entry, Hint, IvfAdd, IvfGrow, IvfDrop, IvfHint}
use Rattle.vec_names.specs.Pointer.{tid_option_bytes}
use Rattle.vec_event.specs.Spelling.{spelling, IsTyped, IsWritable}
use Rattle.vec_event.specs.Reading.{version, byte, bits, lists, number_of_two, offsets, block, put, join, link, relist, drop_ids, mark, entry, hint, ivf_add, ivf_grow, ivf_drop, ivf_hint}
use Rattle.byte_fields.proofs.FieldLaws.{IsField, then_law, next_law, viewed_law, wider}
use Rattle.byte_fields.specs.Levels.{is_level}
use Rattle.byte_fields.specs.Reading.{Reader, ◌⨟◌, and_then, place, optional_place, heap_id, two_bytes_from, level_beside, four_bytes_from}
use Rattle.byte_fields.proofs.EachField.{one_byte, level_field, FitsLevel, two_bytes_field, four_bytes_field, place_field, optional_place_field, heap_id_field}
use Rattle.vec_event.proofs.EachField.{any_byte_field, version_field, block_field, number_field}
use Rattle.vec_event.proofs.CountedFields.{bits_field, lists_field, offsets_field, Offsets-from, small_offsets, rising_offsets}

-- the first byte of an event's spelling, and what follows it
abbrev pub kind_of : Event → ℕ
kind_of e = slice_index (spelling e) 0

abbrev pub fields_bytes : Event → List ℕ
fields_bytes e = drop 1 (spelling e)

abbrev pub OfKind : ℕ → Event → Type 0
OfKind k e = (kind_of e ≡ k) × IsTyped e × IsWritable e

up_to : {A : Type 0} {f : Reader A} {s : A → List ℕ} {P : A → Type 0} {k : ℕ} → IsField ⊥ f s P k → k ≤ 200000 → IsField ⊥ f s P 200000
up_to {k = k} law le = wider k 200000 le law

-- nothing is below 0, so a number from 0 on has one bound to keep
from_zero : {n : ℕ} → 0 ≤ n
from_zero = omega arith

-- what the fields of an event of this kind are
abbrev Parts : {B : Type 0} {f : Reader B} {t : B → List ℕ} {Q : B → Type 0} {j : ℕ} → IsField ⊥ f t Q j → (B → Event) → ℕ → Type 0
Parts {B} {f} {t} {Q} {j} law view k = (e : Event) → OfKind k e → (x : B) × (view x ≡ e) × Q x × (fields_bytes e ≡ t x)

-- ---- Put

abbrev put_of : Tid × (Tid × (ℕ × (ℕ × (HeapId × ((List Bool) × (List (Option Tid))))))) → Event
put_of x = Put x.0 x.1.0 x.1.1.0 x.1.1.1.0 x.1.1.1.1.0 x.1.1.1.1.1.0 x.1.1.1.1.1.1

put_parts : Parts (then_law place_field (then_law place_field (then_law version_field (then_law any_byte_field (then_law heap_id_field (then_law bits_field lists_field)))))) put_of 1
unfolding spelling IsTyped IsWritable
put_parts (Put at list_at version level id bits lists) p = ((at, (list_at, (version, (level, (id, (bits, lists)))))), refl, (tt, (tt, ((p.2.0, p.1.0), (p.1.1, (tt, (p.1.2, p.2.1)))))), refl)
put_parts e p = absurd (omega (arith, p.0))

pub put_field : IsField ⊥ put fields_bytes (OfKind 1) 200000
unfolding put spelling IsTyped IsWritable
put_field =
    up_to (viewed_law put_of (place ⨟ place ⨟ version ⨟ byte ⨟ heap_id ⨟ bits ⨟ lists) (then_law place_field (then_law place_field (then_law version_field (then_law any_byte_field (then_law heap_id_field (then_law bits_field lists_field)))))) fields_bytes (OfKind 1) put_parts
    (λ x q. ((refl, (q.1.1.0.1, q.1.1.1.0, q.1.1.1.1.1.0), (q.1.1.0.0, q.1.1.1.1.1.1)), refl))) (lit≤ tt)

-- ---- Join

abbrev join_of : Tid × (ℕ × HeapId) → Event
join_of x = Join x.0 x.1.0 x.1.1

join_parts : Parts (then_law place_field (then_law version_field heap_id_field)) join_of 2
unfolding spelling IsTyped IsWritable
join_parts (Join at version id) p = ((at, (version, id)), refl, (tt, ((p.2, p.1), tt)), refl)
join_parts e p = absurd (omega (arith, p.0))

pub join_field : IsField ⊥ join fields_bytes (OfKind 2) 200000
unfolding join spelling IsTyped IsWritable
join_field =
    up_to (viewed_law join_of (place ⨟ version ⨟ heap_id) (then_law place_field (then_law version_field heap_id_field)) fields_bytes (OfKind 2) join_parts
    (λ x q. ((refl, q.1.0.1, q.1.0.0), refl))) (lit≤ tt)

-- ---- Link

abbrev link_of : Tid × (Tid × (ℕ × (ℕ × Tid))) → Event
link_of x = Link x.0 x.1.0 x.1.1.0 x.1.1.1.0 x.1.1.1.1

link_parts : Parts (then_law place_field (then_law place_field (then_law version_field (then_law number_field place_field)))) link_of 3
unfolding spelling IsTyped IsWritable
link_parts (Link at list_at version slot to) p = ((at, (list_at, (version, (slot, to)))), refl, (tt, (tt, ((p.2, p.1.0), (p.1.1, tt)))), refl)
link_parts e p = absurd (omega (arith, p.0))

pub link_field : IsField ⊥ link fields_bytes (OfKind 3) 200000
unfolding link spelling IsTyped IsWritable
link_field =
    up_to (viewed_law link_of (place ⨟ place ⨟ version ⨟ number_of_two ⨟ place) (then_law place_field (then_law place_field (then_law version_field (then_law number_field place_field)))) fields_bytes (OfKind 3) link_parts
    (λ x q. ((refl, (q.1.1.0.1, q.1.1.1.0), q.1.1.0.0), refl))) (lit≤ tt)

-- ---- Relist

abbrev relist_of : Tid × (Tid × (ℕ × (List (Option Tid)))) → Event
relist_of x = Relist x.0 x.1.0 x.1.1.0 x.1.1.1

relist_parts : Parts (then_law place_field (then_law place_field (then_law version_field lists_field))) relist_of 4
unfolding spelling IsTyped IsWritable
relist_parts (Relist at list_at version lists) p = ((at, (list_at, (version, lists))), refl, (tt, (tt, ((p.2.0, p.1), p.2.1))), refl)
relist_parts e p = absurd (omega (arith, p.0))

pub relist_field : IsField ⊥ relist fields_bytes (OfKind 4) 200000
unfolding relist spelling IsTyped IsWritable
relist_field =
    up_to (viewed_law relist_of (place ⨟ place ⨟ version ⨟ lists) (then_law place_field (then_law place_field (then_law version_field lists_field))) fields_bytes (OfKind 4) relist_parts
    (λ x q. ((refl, q.1.1.0.1, (q.1.1.0.0, q.1.1.1)), refl))) (lit≤ tt)

-- ---- Drop

abbrev drop_ids_of : Tid × (ℕ × ℕ) → Event
drop_ids_of x = Drop x.0 x.1.0 x.1.1

drop_ids_parts : Parts (then_law place_field (then_law version_field (two_bytes_field 1 1023 (lit≤ tt) (lit< tt)))) drop_ids_of 5
unfolding spelling IsTyped IsWritable
drop_ids_parts (Drop at version gone) p = ((at, (version, gone)), refl, (tt, ((p.2.0, p.1), (p.2.1, p.2.2))), refl)
drop_ids_parts e p = absurd (omega (arith, p.0))

pub drop_ids_field : IsField ⊥ drop_ids fields_bytes (OfKind 5) 200000
unfolding drop_ids spelling IsTyped IsWritable
drop_ids_field =
    up_to (viewed_law drop_ids_of (place ⨟ version ⨟ two_bytes_from 1 1023) (then_law place_field (then_law version_field (two_bytes_field 1 1023 (lit≤ tt) (lit< tt)))) fields_bytes (OfKind 5) drop_ids_parts
    (λ x q. ((refl, q.1.0.1, (q.1.0.0, q.1.1.0, q.1.1.1)), refl))) (lit≤ tt)

-- ---- Mark

abbrev mark_of : Tid × (Tid × ℕ) → Event
mark_of x = Mark x.0 x.1.0 x.1.1

mark_parts : Parts (then_law place_field (then_law place_field version_field)) mark_of 6
unfolding spelling IsTyped IsWritable
mark_parts (Mark at list_at version) p = ((at, (list_at, version)), refl, (tt, (tt, (p.2, p.1))), refl)
mark_parts e p = absurd (omega (arith, p.0))

pub mark_field : IsField ⊥ mark fields_bytes (OfKind 6) 200000
unfolding mark spelling IsTyped IsWritable
mark_field =
    up_to (viewed_law mark_of (place ⨟ place ⨟ version) (then_law place_field (then_law place_field version_field)) fields_bytes (OfKind 6) mark_parts
    (λ x q. ((refl, q.1.1.1, q.1.1.0), refl))) (lit≤ tt)

-- ---- IvfAdd

abbrev ivf_add_of : ℕ × (HeapId × (List Bool)) → Event
ivf_add_of x = IvfAdd x.0 x.1.0 x.1.1

ivf_add_parts : Parts (then_law block_field (then_law heap_id_field bits_field)) ivf_add_of 9
unfolding spelling IsTyped IsWritable
ivf_add_parts (IvfAdd block id bits) p = ((block, (id, bits)), refl, ((from_zero, p.2), (tt, p.1)), refl)
ivf_add_parts e p = absurd (omega (arith, p.0))

pub ivf_add_field : IsField ⊥ ivf_add fields_bytes (OfKind 9) 200000
unfolding ivf_add spelling IsTyped IsWritable
ivf_add_field =
    up_to (viewed_law ivf_add_of (block ⨟ heap_id ⨟ bits) (then_law block_field (then_law heap_id_field bits_field)) fields_bytes (OfKind 9) ivf_add_parts
    (λ x q. ((refl, q.1.1, q.0.1), refl))) (lit≤ tt)

-- ---- IvfGrow

abbrev ivf_grow_of : ℕ × (ℕ × (ℕ × (HeapId × (List Bool)))) → Event
ivf_grow_of x = IvfGrow x.0 x.1.0 x.1.1.0 x.1.1.1.0 x.1.1.1.1

ivf_grow_parts : Parts (then_law block_field (then_law block_field (then_law block_field (then_law heap_id_field bits_field)))) ivf_grow_of 10
unfolding spelling IsTyped IsWritable
ivf_grow_parts (IvfGrow list last block id bits) p = ((list, (last, (block, (id, bits)))), refl, ((from_zero, p.2.0), ((from_zero, p.2.1), ((from_zero, p.2.2), (tt, p.1)))), refl)
ivf_grow_parts e p = absurd (omega (arith, p.0))

pub ivf_grow_field : IsField ⊥ ivf_grow fields_bytes (OfKind 10) 200000
unfolding ivf_grow spelling IsTyped IsWritable
ivf_grow_field =
    up_to (viewed_law ivf_grow_of (block ⨟ block ⨟ block ⨟ heap_id ⨟ bits) (then_law block_field (then_law block_field (then_law block_field (then_law heap_id_field bits_field)))) fields_bytes (OfKind 10) ivf_grow_parts
    (λ x q. ((refl, q.1.1.1.1, (q.0.1, q.1.0.1, q.1.1.0.1)), refl))) (lit≤ tt)

-- ---- IvfDrop

abbrev ivf_drop_of : ℕ × (List ℕ) → Event
ivf_drop_of x = IvfDrop x.0 x.1

ivf_drop_parts : Parts (then_law block_field offsets_field) ivf_drop_of 11
unfolding spelling IsTyped IsWritable
ivf_drop_parts (IvfDrop block gone) p = ((block, gone), refl, ((from_zero, p.2.0), (p.2.1, Offsets-from gone p.2.2 p.1)), refl)
ivf_drop_parts e p = absurd (omega (arith, p.0))

pub ivf_drop_field : IsField ⊥ ivf_drop fields_bytes (OfKind 11) 200000
unfolding ivf_drop spelling IsTyped IsWritable
ivf_drop_field =
    up_to (viewed_law ivf_drop_of (block ⨟ offsets) (then_law block_field offsets_field) fields_bytes (OfKind 11) ivf_drop_parts
    (λ x q. ((refl, small_offsets x.1 q.1.1, (q.0.1, q.1.0, rising_offsets 0 x.1 q.1.1)), refl))) (lit≤ tt)

-- ---- IvfHint

abbrev ivf_hint_of : ℕ × ℕ → Event
ivf_hint_of x = IvfHint x.0 x.1

ivf_hint_parts : Parts (then_law block_field block_field) ivf_hint_of 12
unfolding spelling IsTyped IsWritable
ivf_hint_parts (IvfHint list block) p = ((list, block), refl, ((from_zero, p.2.0), (from_zero, p.2.1)), refl)
ivf_hint_parts e p = absurd (omega (arith, p.0))

pub ivf_hint_field : IsField ⊥ ivf_hint fields_bytes (OfKind 12) 200000
unfolding ivf_hint spelling IsTyped IsWritable
ivf_hint_field =
    up_to (viewed_law ivf_hint_of (block ⨟ block) (then_law block_field block_field) fields_bytes (OfKind 12) ivf_hint_parts
    (λ x q. ((refl, tt, (q.0.1, q.1.1)), refl))) (lit≤ tt)

-- ---- Entry

fits_level : (to : Option Tid) (level : ℕ) → level < 2 ^ 8 → is_level to level ≡ true → FitsLevel to level
fits_level None level small is = eqb-true level 0 is
fits_level (Some to) level small is = small

level_fits : (to : Option Tid) (level : ℕ) → FitsLevel to level → (level < 2 ^ 8) × (is_level to level ≡ true)
level_fits None level fits = (omega (arith, fits), eq-eqb level 0 fits)
level_fits (Some to) level fits = (fits, refl)

abbrev entry_of : Option Tid × ℕ → Event
entry_of x = Entry x.0 x.1

entry_law : IsField ⊥ (and_then optional_place level_beside) (λ x. tid_option_bytes x.0 ++ one_byte x.1) (λ x. FitsLevel x.0 x.1) (6 + 1)
entry_law =
    next_law (λ v w. (v, w)) optional_place level_beside optional_place_field (λ to _. level_field to) (λ x. tid_option_bytes x.0 ++ one_byte x.1) (λ x. FitsLevel x.0 x.1)
    (λ e fits. (e.0, e.1, refl, tt, fits, refl)) (λ v w _ q. (q, refl))

entry_parts : Parts entry_law entry_of 7
unfolding spelling IsTyped IsWritable
entry_parts (Entry to level) p = ((to, level), refl, fits_level to level p.1 p.2, refl)
entry_parts e p = absurd (omega (arith, p.0))

pub entry_field : IsField ⊥ entry fields_bytes (OfKind 7) 200000
unfolding entry spelling IsTyped IsWritable
entry_field =
    up_to (viewed_law entry_of (and_then optional_place level_beside) entry_law fields_bytes (OfKind 7) entry_parts
    (λ x q. let l = level_fits x.0 x.1 q in ((refl, l.0, l.1), refl))) (lit≤ tt)

-- ---- Hint

hint_parts : Parts (four_bytes_field 0 32768 (lit≤ tt) (lit< tt)) Hint 8
unfolding spelling IsTyped IsWritable
hint_parts (Hint block) p = (block, refl, (from_zero, p.2), refl)
hint_parts e p = absurd (omega (arith, p.0))

pub hint_field : IsField ⊥ hint fields_bytes (OfKind 8) 200000
unfolding hint spelling IsTyped IsWritable
hint_field =
    up_to (viewed_law Hint (four_bytes_from 0 32768) (four_bytes_field 0 32768 (lit≤ tt) (lit< tt)) fields_bytes (OfKind 8) hint_parts
    (λ x q. ((refl, tt, q.1), refl))) (lit≤ tt)
