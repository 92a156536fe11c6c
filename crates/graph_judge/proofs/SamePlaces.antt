-- Places are the same where their numbers are.
use Rattle.std.proofs.Common.{◌≡◌, ◌↔◌, Bool, true, ◌&&◌, eqb, ap, eq-eqb}
use Rattle.std.specs.Bool.{IsTrue}
use Rattle.std.proofs.lemmas.Bool.{and_from, and_parts, eqb-true}
use Rattle.vec_names.specs.declared.tid.Tid.{Tid}
use Rattle.vec_names.specs.Places.{same_tid}
use Rattle.vec_graph.specs.declared.place.Place.{Place}

abbrev are_tids_equal : Tid → Tid → Bool
are_tids_equal a b = eqb a.block b.block && eqb a.off b.off

same_at : (a b : Tid) → are_tids_equal a b ≡ true → a ≡ b
same_at a b e =
    let both = and_parts _ _ e in
    same_tid a b (eqb-true _ _ both.0) (eqb-true _ _ both.1)

equal_at : (a b : Tid) → a ≡ b → are_tids_equal a b ≡ true
equal_at a b e = and_from _ _ (eq-eqb _ _ (ap (λ (t : Tid). t.block) e)) (eq-eqb _ _ (ap (λ (t : Tid). t.off) e))

pub same_place : (a b : Place) (test : Bool) → test ≡ (are_tids_equal a.at b.at && (are_tids_equal a.list_at b.list_at && eqb a.version b.version))
    → IsTrue test ↔ (a ≡ b)
same_place a b test is = (
  λ t.
      let whole : (are_tids_equal a.at b.at && (are_tids_equal a.list_at b.list_at && eqb a.version b.version)) ≡ true = cc in
      let parts = and_parts _ _ whole in
      let rest = and_parts _ _ parts.1 in
      let at = same_at a.at b.at parts.0 in
      let list_at = same_at a.list_at b.list_at rest.0 in
      let version = eqb-true a.version b.version rest.1 in
      λ i. record { at = at i; list_at = list_at i; version = version i },
  λ e.
      let at = equal_at a.at b.at (ap (λ (s : Place). s.at) e) in
      let list_at = equal_at a.list_at b.list_at (ap (λ (s : Place). s.list_at) e) in
      let version = eq-eqb a.version b.version (ap (λ (s : Place). s.version) e) in
      let whole = and_from _ _ at (and_from _ _ list_at version) in
      is_true is whole,
)
  where
    is_true : {x y : Bool} → x ≡ y → y ≡ true → x ≡ true
    is_true p q = cc
