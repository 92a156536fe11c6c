use Rattle.std.proofs.Common.{arith, rules, ap, sym, subst, refl, ◌∙◌, ◌≡◌, ◌<◌, ◌++◌, ℕ, List, length, get_or, take, drop}
use Rattle.bit_code.specs.Places.{packed, unpacked, Packed}
use Rattle.bit_code.proofs.TalliedBytes.{view_count}
use Rattle.bit_code.proofs.PackedPlaces.{packed_view}
use Rattle.bit_code.proofs.ChangedPlaces.{taken_over}
use Rattle.bit_code.proofs.bits.Bits.refill.Goals as goal

pub copy_from_slice-requires : goal.copy_from_slice-requires
copy_from_slice-requires c = c.as_mut_slice.ensures.len ∙ omega (arith, view_count _ _ _ c.self.view_is c.self.invariant, c.self.invariant.long, c.requires.long)

taken : (c : goal.After-self-1) → take c.self.inside.bytes.len (c.copy_from_slice.new.self ++ drop (length c.copy_from_slice.new.self) c.self.inside.bytes.items) ≡ c.args.bytes.now
taken c =
    taken_over c.self.inside.bytes.len c.copy_from_slice.new.self c.self.inside.bytes.items c.args.bytes.now c.copy_from_slice.ensures.after
    (c.copy_from_slice.ensures.len ∙ c.as_mut_slice.ensures.len)

pub invariant_of-self : goal.invariant_of-self
invariant_of-self c =
    subst (λ (l : List ℕ). Packed c.self.inside.count l) (sym (taken c)) (subst (λ (n : ℕ). Packed n c.args.bytes.now) (view_count _ _ _ c.self.view_is c.self.invariant) c.requires)

pub returns-clause-value : goal.returns-clause-value
returns-clause-value c =
    ap (λ (l : List ℕ). take c.self.inside.count (unpacked l)) (taken c) ∙ ap (λ (n : ℕ). take n (unpacked c.args.bytes.now)) (sym (view_count _ _ _ c.self.view_is c.self.invariant))

pub returns-clause-bytes : goal.returns-clause-bytes
returns-clause-bytes c =
    let fit : (i : ℕ) → get_or c.args.bytes.now i 0 < 256 = search rules in
    ap packed (returns-clause-value c) ∙ packed_view (length c.args.self.now) c.args.bytes.now _ c.requires fit refl
