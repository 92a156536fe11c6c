-- An event is read as it is spelled.
use Rattle.std.proofs.Common.{◌≡◌, ℕ, zero, suc, ◌+◌, ◌≤◌, ◌++◌, refl, ap, ◌∙◌, arith, lit≤}
use Rattle.vec_history.specs.declared.event.Event.{Event}
use Rattle.vec_history.specs.declared.event.Event.TheVariants.{Put, Join, Link, Relist, Drop, Mark, Entry, Hint, IvfAdd, IvfGrow, IvfDrop, IvfHint, Gate, Ungate, Phase, VacuumEnd, Cancel, Settled, DiskFaulted}
use Rattle.vec_event.specs.Spelling.{spelling, IsTyped, IsWritable}
use Rattle.vec_event.specs.Reading.{fields_of, event}
use Rattle.byte_fields.proofs.FieldLaws.{IsField, depending_law}
use Rattle.byte_fields.specs.Reading.{byte_from}
use Rattle.byte_fields.proofs.EachField.{one_byte, byte_field}
use Rattle.vec_event.proofs.EachKind.{kind_of, fields_bytes, OfKind, put_field, join_field, link_field, relist_field, drop_ids_field, mark_field, entry_field, hint_field, ivf_add_field, ivf_grow_field, ivf_drop_field, ivf_hint_field}

each_kind : (k : ℕ) → (1 ≤ k) × (k ≤ 12) → IsField ⊥ (fields_of k) fields_bytes (OfKind k) 200000
unfolding fields_of
each_kind zero p = absurd (omega (arith, p.0))
each_kind (suc zero) p = put_field
each_kind (suc (suc zero)) p = join_field
each_kind (suc (suc (suc zero))) p = link_field
each_kind (suc (suc (suc (suc zero)))) p = relist_field
each_kind (suc (suc (suc (suc (suc zero))))) p = drop_ids_field
each_kind (suc (suc (suc (suc (suc (suc zero)))))) p = mark_field
each_kind (suc (suc (suc (suc (suc (suc (suc zero))))))) p = entry_field
each_kind (suc (suc (suc (suc (suc (suc (suc (suc zero)))))))) p = hint_field
each_kind (suc (suc (suc (suc (suc (suc (suc (suc (suc zero))))))))) p = ivf_add_field
each_kind (suc (suc (suc (suc (suc (suc (suc (suc (suc (suc zero)))))))))) p = ivf_grow_field
each_kind (suc (suc (suc (suc (suc (suc (suc (suc (suc (suc (suc zero))))))))))) p = ivf_drop_field
each_kind (suc (suc (suc (suc (suc (suc (suc (suc (suc (suc (suc (suc zero)))))))))))) p = ivf_hint_field
each_kind (suc (suc (suc (suc (suc (suc (suc (suc (suc (suc (suc (suc (suc n))))))))))))) p = absurd (omega (arith, p.1))

-- a lasting event begins with its kind
begins : (e : Event) → IsWritable e → (1 ≤ kind_of e) × (kind_of e ≤ 12) × (spelling e ≡ one_byte (kind_of e) ++ fields_bytes e)
unfolding spelling IsWritable
begins (Put a b c d e f g) w = (lit≤ tt, lit≤ tt, refl)
begins (Join a b c) w = (lit≤ tt, lit≤ tt, refl)
begins (Link a b c d e) w = (lit≤ tt, lit≤ tt, refl)
begins (Relist a b c d) w = (lit≤ tt, lit≤ tt, refl)
begins (Drop a b c) w = (lit≤ tt, lit≤ tt, refl)
begins (Mark a b c) w = (lit≤ tt, lit≤ tt, refl)
begins (Entry a b) w = (lit≤ tt, lit≤ tt, refl)
begins (Hint a) w = (lit≤ tt, lit≤ tt, refl)
begins (IvfAdd a b c) w = (lit≤ tt, lit≤ tt, refl)
begins (IvfGrow a b c d e) w = (lit≤ tt, lit≤ tt, refl)
begins (IvfDrop a b) w = (lit≤ tt, lit≤ tt, refl)
begins (IvfHint a b) w = (lit≤ tt, lit≤ tt, refl)
begins (Gate a b) w = absurd w
begins (Ungate a) w = absurd w
begins (Phase a) w = absurd w
begins VacuumEnd w = absurd w
begins (Cancel a) w = absurd w
begins (Settled a) w = absurd w
begins (DiskFaulted a) w = absurd w

pub event_field : IsField ⊥ event spelling (λ e. IsTyped e × IsWritable e) (1 + 200000)
unfolding event
event_field =
    depending_law (byte_from 1 12) fields_of (byte_field 1 12 (lit≤ tt)) each_kind spelling (λ e. IsTyped e × IsWritable e)
    (λ e fits. let b = begins e fits.1 in (kind_of e, (b.0, b.1), (refl, fits.0, fits.1), b.2))
    (λ k e p q. let b = begins e q.2 in ((q.1, q.2), b.2 ∙ ap (λ n. one_byte n ++ fields_bytes e) q.0))
