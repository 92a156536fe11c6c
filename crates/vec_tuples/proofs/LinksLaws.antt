-- The neighbour tuple is read as it is spelled.
use Rattle.std.specs.Prelude.{⊤}
use Rattle.std.proofs.Common.{◌≡◌, ℕ, zero, suc, ◌*◌, ◌≤◌, Bool, true, false, eqb, List, ◌∷◌, ◌++◌, length, Option, refl, sym, ap, ap₂, subst, ◌∙◌, arith, lit≤}
use Rattle.std.specs.List.{flat_map, AllByRecursion}
use Rattle.std.specs.Int.{w16, to_le_bytes}
use Rattle.vec_names.specs.declared.tid.Tid.{Tid}
use Rattle.vec_names.specs.declared.params.Kind.{Kind}
use Rattle.vec_names.specs.declared.params.Kind.TheVariants.{Hnsw, Ivf}
use Rattle.vec_names.specs.declared.params.Params.{Params}
use Rattle.vec_names.specs.Params.{IsInRange, IsInRangeOf}
use Rattle.vec_names.specs.Pointer.{tid_option_bytes}
use Rattle.vec_tuples.specs.declared.links.Links.{Links}
use Rattle.vec_tuples.specs.Spelling.{links_kind, links_with, links_bytes, IsSlotCount, IsSlotOf, IsLinks}
use Rattle.vec_tuples.specs.Reading.{links}
use Rattle.byte_fields.proofs.FieldLaws.{IsField, viewed_law, after_law, then_law, wider}
use Rattle.byte_fields.specs.Reading.{slot_of}
use Rattle.byte_fields.proofs.EachField.{IsFrom, one_byte, byte_field, slot_field, times_field}
use Rattle.vec_tuples.proofs.SlotLaws.{count_field}

few_slots : (k : Kind) (p : Params) → IsInRangeOf k p → p.m ≤ 100
few_slots Hnsw p r = r.m_high
few_slots Ivf p r = omega (arith, r.no_m)

kind_back : (d : Bool) → eqb (links_kind d) 3 ≡ d
kind_back false = refl
kind_back true = refl

kind_in_range : (d : Bool) → IsFrom 2 3 (links_kind d)
kind_in_range false = (lit≤ tt, lit≤ tt)
kind_in_range true = (lit≤ tt, lit≤ tt)

kind_code : (k : ℕ) → IsFrom 2 3 k → links_kind (eqb k 3) ≡ k
kind_code zero p = absurd (omega (arith, p.0))
kind_code (suc zero) p = absurd (omega (arith, p.0))
kind_code (suc (suc zero)) p = refl
kind_code (suc (suc (suc zero))) p = refl
kind_code (suc (suc (suc (suc k)))) p = absurd (omega (arith, p.1))

links_text : (k version count : ℕ) (tids : List (Option Tid)) → IsFrom 2 3 k → length tids ≡ count
    → links_bytes (links_with (eqb k 3) version tids) ≡ one_byte k ++ (one_byte version ++ (to_le_bytes w16 count ++ flat_map tid_option_bytes tids))
unfolding links_bytes
links_text k version count tids p len =
    ap₂ (λ (c n : ℕ). c ∷ version ∷ to_le_bytes w16 n ++ flat_map tid_option_bytes tids) (kind_code k p) len

same_links : (l : Links) → links_with (eqb (links_kind l.deleted) 3) l.version l.tids ≡ l
same_links l = ap (λ d. links_with d l.version l.tids) (kind_back l.deleted)

pub links_field : (p : Params) → IsInRange p → IsField ⊤ (links p) links_bytes (IsLinks p) 8152
unfolding links
links_field p r =
    viewed_law _ _
    (after_law (byte_field 2 3 (lit≤ tt)) (λ k _. then_law (byte_field 1 255 (lit≤ tt))
    (after_law (count_field p.m (few_slots p.kind p r.of_kind)) (λ n q. wider (n * 6) 8148 (omega (arith, q.0)) (times_field (slot_of (eqb k 3)) tid_option_bytes (IsSlotOf (eqb k 3)) 6 (slot_field (eqb k 3)) n)))))
    links_bytes (IsLinks p)
    (λ l fits.
    let slots : AllByRecursion (IsSlotOf (eqb (links_kind l.deleted) 3)) l.tids = subst (λ d. AllByRecursion (IsSlotOf d) l.tids) (sym (kind_back l.deleted)) fits.slots in (
      (links_kind l.deleted, (l.version, (length l.tids, l.tids))),
      same_links l,
      (kind_in_range l.deleted, ((fits.version_low, fits.version_high), (fits.count, (refl, slots)))),
      ap links_bytes (sym (same_links l)) ∙ links_text (links_kind l.deleted) l.version (length l.tids) l.tids (kind_in_range l.deleted) refl,
    ))
    (λ w f. (
      record { version_low = f.1.0.0; version_high = f.1.0.1; count = subst (IsSlotCount p.m) (sym f.1.1.1.0) f.1.1.0; slots = f.1.1.1.1 },
      links_text w.0 w.1.0 w.1.1.0 w.1.1.1 f.0 f.1.1.1.0,
    ))
