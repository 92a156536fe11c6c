-- What holds of a reader and the spelling that it reads.
use Rattle.std.proofs.Common.{◌≡◌, ℕ, ◌+◌, ◌-◌, ◌<◌, ◌≤◌, Bool, true, false, cond, ltb, List, [], ◌++◌, length, get_or, take, drop, Option, Some, None, refl, sym, ap, ap₂, subst, ◌∙◌, append_assoc, arith, ◌⊎◌, inl, inr, lit≤}
use Rattle.std.proofs.lemmas.Bool.{ltb-false, le-ltb, cases_lt}
use Rattle.std.proofs.lemmas.List.{append-nil, length-append, length-take, take-append-drop, take_at, drop_at, take-append-le, get_or-drop, get_or-take, get_or_past}
use Rattle.std.proofs.Math.Seq.{take-append-add}
use Rattle.byte_fields.specs.Reading.{Read, Got, Bad, Short, Reader, ◌>>=◌, as_bad, told, field, with_next, and_then, viewed, depending, ◌⨟◌}

-- each is a byte
abbrev pub AreBytes : List ℕ → Type 0
AreBytes bytes = (i : ℕ) → get_or bytes i 0 < 256

pub AreBytes-drop : (n : ℕ) (bytes : List ℕ) → AreBytes bytes → AreBytes (drop n bytes)
AreBytes-drop n bytes h i = rw get_or-drop (h (n + i))

pub AreBytes-take : (n : ℕ) (bytes : List ℕ) → AreBytes bytes → AreBytes (take n bytes)
AreBytes-take n bytes h i =
    elim (cases_lt i n) [
      | inl lt ↦ rw (get_or-take n bytes i 0 lt) (h i)
      | inr le ↦ rw (get_or_past (take n bytes) i 0 (omega (arith, length-take n bytes))) (omega arith)
    ]

pub AreBytes-rest : (bytes text rest : List ℕ) → AreBytes bytes → bytes ≡ text ++ rest → AreBytes rest
AreBytes-rest bytes text rest h parts = subst AreBytes (ap (λ (b : List ℕ). drop (length text) b) parts ∙ drop_at text rest (length text) refl) (AreBytes-drop (length text) bytes h)

-- A reader of what is spelled so: what it gets is spelled by the bytes that it took, each value that fits is got from
-- its spelling whatever follows, a field that can't be read is found near, and a bad one is found again if more bytes
-- follow. Where each value of a field leaves a value to the fields after it, which `Live` says, what stands before
-- the field that can't be read begins the spelling of some value.
pub record IsField (Live : Type 0) {A : Type 0} (f : Reader A) (spell : A → List ℕ) (Fits : A → Type 0) (most : ℕ) : Type 0 where
  pub takes : (bytes : List ℕ) (v : A) (rest : List ℕ) → AreBytes bytes → f bytes ≡ Got v rest → (bytes ≡ spell v ++ rest) × Fits v
  pub again : (v : A) (rest : List ℕ) → Fits v → f (spell v ++ rest) ≡ Got v rest
  pub small : (v : A) → Fits v → length (spell v) ≤ most
  pub near : (bytes : List ℕ) (left : ℕ) → AreBytes bytes → as_bad (f bytes) ≡ Bad left → (left ≤ length bytes) × (length bytes < left + most)
  pub stays : (bytes more : List ℕ) (left : ℕ) → AreBytes bytes → f bytes ≡ Bad left → f (bytes ++ more) ≡ Bad (left + length more)
  pub alive : Live → (bytes : List ℕ) (left : ℕ) → AreBytes bytes → as_bad (f bytes) ≡ Bad left → (v : A) × Fits v × (more : List ℕ) × (spell v ≡ take (length bytes - left) bytes ++ more)
  pub inhabited : Live → (v : A) × Fits v

-- ---- what was got, or was bad, in two steps

pub bad_is : {A : Type 0} (m n : ℕ) → ◌≡◌ {A = Read A} (Bad m) (Bad n) → m ≡ n
bad_is m n e = cc

pub got_is : {A : Type 0} (v w : A) (a b : List ℕ) → Got v a ≡ Got w b → (v ≡ w) × (a ≡ b)
got_is v w a b e = (cc, cc)

pub got_not_bad : {A : Type 0} {v : A} {rest : List ℕ} {left : ℕ} → Got v rest ≡ Bad left → ⊥
got_not_bad e = cc

pub got_not_short : {A : Type 0} {v : A} {rest : List ℕ} {left : ℕ} → Got v rest ≡ Short left → ⊥
got_not_short e = cc

module _ {A B : Type 0} where
  pub got_after : (r : Read A) (f : A → List ℕ → Read B) (w : B) (rest : List ℕ) → (r >>= f) ≡ Got w rest → (v : A) × (between : List ℕ) × (r ≡ Got v between) × (f v between ≡ Got w rest)
  got_after (Got v between) f w rest is = (v, between, refl, is)
  got_after (Bad left) f w rest is = absurd cc
  got_after (Short left) f w rest is = absurd cc

  pub bad_after : (r : Read A) (f : A → List ℕ → Read B) (left : ℕ) → (r >>= f) ≡ Bad left → (r ≡ Bad left) ⊎ ((v : A) × (between : List ℕ) × (r ≡ Got v between) × (f v between ≡ Bad left))
  bad_after (Got v between) f left is = inr (v, between, refl, is)
  bad_after (Bad other) f left is = inl (ap (λ n. Bad n) (bad_is {A = B} other left is))
  bad_after (Short other) f left is = absurd cc

  -- the same where the end of the bytes is bad
  pub stop_after : (r : Read A) (f : A → List ℕ → Read B) (left : ℕ) → as_bad (r >>= f) ≡ Bad left
      → (as_bad r ≡ Bad left) ⊎ ((v : A) × (between : List ℕ) × (r ≡ Got v between) × (as_bad (f v between) ≡ Bad left))
  stop_after (Got v between) f left is = inr (v, between, refl, is)
  stop_after (Bad other) f left is = inl (ap (λ n. Bad n) (bad_is {A = B} other left is))
  stop_after (Short other) f left is = inl (ap (λ n. Bad n) (bad_is {A = B} other left is))

-- ---- a field of n bytes

module _ (Live : Type 0) {A : Type 0} (n : ℕ) (meant : List ℕ → Option A) where
  told_got : (bytes : List ℕ) (o : Option A) (v : A) (rest : List ℕ) → told n bytes o ≡ Got v rest → (o ≡ Some v) × (drop n bytes ≡ rest)
  told_got bytes None v rest is = absurd cc
  told_got bytes (Some w) v rest is = (ap (λ x. Some x) (got_is w v (drop n bytes) rest is).0, (got_is w v (drop n bytes) rest is).1)

  told_bad : (bytes : List ℕ) (o : Option A) (left : ℕ) → told n bytes o ≡ Bad left → (o ≡ None) × (length bytes ≡ left)
  told_bad bytes None left is = (refl, bad_is {A = A} (length bytes) left is)
  told_bad bytes (Some w) left is = absurd cc

  long_got : (k : ℕ) (b : Bool) (r : Read A) (v : A) (rest : List ℕ) → cond b (Short k) r ≡ Got v rest → (b ≡ false) × (r ≡ Got v rest)
  long_got k true r v rest is = absurd cc
  long_got k false r v rest is = (refl, is)

  long_bad : (k : ℕ) (b : Bool) (r : Read A) (left : ℕ) → cond b (Short k) r ≡ Bad left → (b ≡ false) × (r ≡ Bad left)
  long_bad k true r left is = absurd cc
  long_bad k false r left is = (refl, is)

  any_bad : (bytes : List ℕ) (b : Bool) (o : Option A) (left : ℕ) → as_bad (cond b (Short (length bytes)) (told n bytes o)) ≡ Bad left → length bytes ≡ left
  any_bad bytes true o left is = bad_is {A = A} (length bytes) left is
  any_bad bytes false None left is = bad_is {A = A} (length bytes) left is
  any_bad bytes false (Some w) left is = absurd cc

  -- the value's bytes are n, they mean it, and no others do
  pub record Means (spell : A → List ℕ) (Fits : A → Type 0) : Type 0 where
    pub some : 1 ≤ n
    pub long : (v : A) → Fits v → length (spell v) ≡ n
    pub meant_by : (v : A) → Fits v → meant (spell v) ≡ Some v
    pub only : (bytes : List ℕ) (v : A) → length bytes ≡ n → AreBytes bytes → meant bytes ≡ Some v → (bytes ≡ spell v) × Fits v
    pub inhabited : Live → (v : A) × Fits v

  pub field_law : (spell : A → List ℕ) (Fits : A → Type 0) → Means spell Fits → IsField Live (field n meant) spell Fits n
  unfolding field
  field_law spell Fits means = record {
    takes = λ bytes v rest bs is.
        let g = long_got (length bytes) (ltb (length bytes) n) (told n bytes (meant (take n bytes))) v rest is in
        let t = told_got bytes (meant (take n bytes)) v rest g.1 in
        let len : length (take n bytes) ≡ n = omega (arith, length-take n bytes, ltb-false _ _ g.0) in
        let o = means.only (take n bytes) v len (AreBytes-take n bytes bs) t.0 in
        (sym (take-append-drop n bytes) ∙ ap₂ (λ (x y : List ℕ). x ++ y) o.0 t.1, o.1);
    again = λ v rest fits.
        let len = means.long v fits in
        let enough : ltb (length (spell v ++ rest)) n ≡ false = le-ltb _ _ (omega (arith, length-append (spell v) rest)) in
        rw (enough, take_at (spell v) rest n len, means.meant_by v fits, drop_at (spell v) rest n len) refl;
    small = λ v fits. omega (arith, means.long v fits);
    near = λ bytes left bs is.
        let t = any_bad bytes (ltb (length bytes) n) (meant (take n bytes)) left is in
        (omega (arith, t), omega (arith, t, means.some));
    stays = λ bytes more left bs is.
        let g = long_bad (length bytes) (ltb (length bytes) n) (told n bytes (meant (take n bytes))) left is in
        let t = told_bad bytes (meant (take n bytes)) left g.1 in
        let long : n ≤ length bytes = ltb-false _ _ g.0 in
        let enough : ltb (length (bytes ++ more)) n ≡ false = le-ltb _ _ (omega (arith, length-append bytes more)) in
        rw (enough, take-append-le n bytes more long, t.0) (ap (λ k. Bad k) (length-append bytes more ∙ ap (λ k. k + length more) t.1));
    alive = λ live bytes left bs is.
        let t = any_bad bytes (ltb (length bytes) n) (meant (take n bytes)) left is in
        let none : length bytes - left ≡ 0 = omega (arith, t) in
        let v = means.inhabited live in
        (v.0, v.1, spell v.0, ap (λ k. take k bytes ++ spell v.0) (sym none));
    inhabited = means.inhabited;
  }

-- what stands before a place behind the first text
front_of : (bytes text rest : List ℕ) (left : ℕ) → bytes ≡ text ++ rest → left ≤ length rest → take (length bytes - left) bytes ≡ text ++ take (length rest - left) rest
front_of bytes text rest left parts inside =
    let len : length bytes ≡ length text + length rest = ap (λ (z : List ℕ). length z) parts ∙ length-append text rest in
    let size : length bytes - left ≡ length text + (length rest - left) = omega (arith, len, inside) in
    ap₂ (λ (k : ℕ) (z : List ℕ). take k z) size parts ∙ take-append-add text rest (length rest - left)

-- ---- a reader that a field begins

module _ {Live : Type 0} {A B C : Type 0} (made : A → B → C) (f : Reader A) (g : A → Reader B) where
  pub next_law : {s : A → List ℕ} {P : A → Type 0} {k : ℕ} {t : B → List ℕ} {Q : A → B → Type 0} {j : ℕ}
      → IsField Live f s P k → ((v : A) → P v → IsField Live (g v) t (Q v) j) → (u : C → List ℕ) (R : C → Type 0)
      → ((e : C) → R e → (v : A) × (w : B) × (made v w ≡ e) × P v × Q v w × (u e ≡ s v ++ t w))
      → ((v : A) (w : B) → P v → Q v w → R (made v w) × (u (made v w) ≡ s v ++ t w)) → IsField Live (with_next made f g) u R (k + j)
  next_law {s} {P} {k} {t} {Q} {j} first second u R parts whole = record {
    takes = λ bytes e rest bs is.
        let a = got_after (f bytes) (λ v between. g v between >>= λ w end. Got (made v w) end) e rest is in
        let x = first.takes bytes a.0 a.1 bs a.2 in
        let b = got_after (g a.0 a.1) (λ w end. Got (made a.0 w) end) e rest a.3 in
        let y = (second a.0 x.1).takes a.1 b.0 b.1 (AreBytes-rest bytes (s a.0) a.1 bs x.0) b.2 in
        let same = got_is (made a.0 b.0) e b.1 rest b.3 in
        let p = whole a.0 b.0 x.1 y.1 in
        let text : bytes ≡ u (made a.0 b.0) ++ b.1 =
        x.0 ∙ ap (λ (z : List ℕ). s a.0 ++ z) y.0 ∙ sym (append_assoc (s a.0) (t b.0) b.1) ∙ ap (λ (z : List ℕ). z ++ b.1) (sym p.1) in
        (text ∙ ap₂ (λ (c : C) (z : List ℕ). u c ++ z) same.0 same.1, subst R same.0 p.0);
    again = λ e rest fits.
        let p = parts e fits in
        let text : u e ++ rest ≡ s p.0 ++ (t p.1 ++ rest) = ap (λ (z : List ℕ). z ++ rest) p.5 ∙ append_assoc (s p.0) (t p.1) rest in
        ap (with_next made f g) text ∙ rw (first.again p.0 (t p.1 ++ rest) p.3, (second p.0 p.3).again p.1 rest p.4, p.2) refl;
    small = λ e fits.
        let p = parts e fits in
        omega (arith, ap (λ (z : List ℕ). length z) p.5, length-append (s p.0) (t p.1), first.small p.0 p.3, (second p.0 p.3).small p.1 p.4);
    near = λ bytes left bs is.
        elim (stop_after (f bytes) (λ v between. g v between >>= λ w end. Got (made v w) end) left is) [
          | inl bad ↦ let n = first.near bytes left bs bad in (n.0, omega (arith, n.1))
          | inr a ↦
              let x = first.takes bytes a.0 a.1 bs a.2 in
              let len : length bytes ≡ length (s a.0) + length a.1 = ap (λ (z : List ℕ). length z) x.0 ∙ length-append (s a.0) a.1 in
              elim (stop_after (g a.0 a.1) (λ w end. Got (made a.0 w) end) left a.3) [
                | inl bad ↦
                    let n = (second a.0 x.1).near a.1 left (AreBytes-rest bytes (s a.0) a.1 bs x.0) bad in
                    (omega (arith, len, n.0), omega (arith, len, n.1, first.small a.0 x.1))
                | inr b ↦ absurd (got_not_bad b.3)
              ]
        ];
    stays = λ bytes more left bs is.
        elim (bad_after (f bytes) (λ v between. g v between >>= λ w end. Got (made v w) end) left is) [
          | inl bad ↦ rw (first.stays bytes more left bs bad) refl
          | inr a ↦
              let x = first.takes bytes a.0 a.1 bs a.2 in
              let text : bytes ++ more ≡ s a.0 ++ (a.1 ++ more) = ap (λ (z : List ℕ). z ++ more) x.0 ∙ append_assoc (s a.0) a.1 more in
              elim (bad_after (g a.0 a.1) (λ w end. Got (made a.0 w) end) left a.3) [
                | inl bad ↦
                    let n = (second a.0 x.1).stays a.1 more left (AreBytes-rest bytes (s a.0) a.1 bs x.0) bad in
                    ap (with_next made f g) text ∙ rw (first.again a.0 (a.1 ++ more) x.1, n) refl
                | inr b ↦ absurd (got_not_bad b.3)
              ]
        ];
    alive = λ live bytes left bs is.
        elim (stop_after (f bytes) (λ v between. g v between >>= λ w end. Got (made v w) end) left is) [
          | inl bad ↦
              let x = first.alive live bytes left bs bad in
              let y = (second x.0 x.1).inhabited live in
              let p = whole x.0 y.0 x.1 y.1 in
              (made x.0 y.0, p.0, x.2 ++ t y.0, p.1 ∙ ap (λ (z : List ℕ). z ++ t y.0) x.3 ∙ append_assoc (take (length bytes - left) bytes) x.2 (t y.0))
          | inr a ↦
              let x = first.takes bytes a.0 a.1 bs a.2 in
              elim (stop_after (g a.0 a.1) (λ w end. Got (made a.0 w) end) left a.3) [
                | inl bad ↦
                    let rest = AreBytes-rest bytes (s a.0) a.1 bs x.0 in
                    let y = (second a.0 x.1).alive live a.1 left rest bad in
                    let inside = ((second a.0 x.1).near a.1 left rest bad).0 in
                    let p = whole a.0 y.0 x.1 y.1 in (
                      made a.0 y.0,
                      p.0,
                      y.2,
                      p.1 ∙ ap (λ (z : List ℕ). s a.0 ++ z) y.3 ∙ sym (append_assoc (s a.0) (take (length a.1 - left) a.1) y.2)
                          ∙ ap (λ (z : List ℕ). z ++ y.2) (sym (front_of bytes (s a.0) a.1 left x.0 inside)),
                    )
                | inr b ↦ absurd (got_not_bad b.3)
              ]
        ];
    inhabited = λ live.
        let x = first.inhabited live in
        let y = (second x.0 x.1).inhabited live in
        (made x.0 y.0, (whole x.0 y.0 x.1 y.1).0);
  }

-- ---- a value that takes no bytes

pub no_bytes_law : {Live : Type 0} {A : Type 0} (f : Reader A) (v : A) (spell : A → List ℕ) (Fits : A → Type 0) → ((bytes : List ℕ) → f bytes ≡ Got v bytes) → spell v ≡ [] → Fits v → ((w : A) → Fits w → w ≡ v)
    → IsField Live f spell Fits 0
no_bytes_law f v spell Fits is nothing fits only = record {
  takes = λ bytes w rest bs got.
      let g = got_is v w bytes rest (sym (is bytes) ∙ got) in
      (g.1 ∙ ap (λ (t : List ℕ). t ++ rest) (sym nothing ∙ ap spell g.0), subst Fits g.0 fits);
  again = λ w rest p. rw (only w p, nothing) (is rest);
  small = λ w p. rw (only w p, nothing) (lit≤ tt);
  near = λ bytes left bs bad. absurd (got_not_bad (sym (ap (λ r. as_bad r) (is bytes)) ∙ bad));
  stays = λ bytes more left bs bad. absurd (got_not_bad (sym (is bytes) ∙ bad));
  alive = λ live bytes left bs bad. absurd (got_not_bad (sym (ap (λ r. as_bad r) (is bytes)) ∙ bad));
  inhabited = λ live. (v, fits);
}

-- ---- the same reader

module _ {Live : Type 0} {A : Type 0} {s : A → List ℕ} {P : A → Type 0} where
  -- with more room
  pub wider : {f : Reader A} (k m : ℕ) → k ≤ m → IsField Live f s P k → IsField Live f s P m
  wider k m le law = record {
    takes = law.takes;
    again = law.again;
    small = λ v fits. omega (arith, law.small v fits);
    near = λ bytes left bs is. let n = law.near bytes left bs is in (n.0, omega (arith, n.1));
    stays = law.stays;
    alive = law.alive;
    inhabited = law.inhabited;
  }

  -- and values that fit in other words
  pub fitting : {f : Reader A} {k : ℕ} (Q : A → Type 0) → ((v : A) → P v → Q v) → ((v : A) → Q v → P v) → IsField Live f s P k → IsField Live f s Q k
  fitting Q to back law = record {
    takes = λ bytes v rest bs is. let t = law.takes bytes v rest bs is in (t.0, to v t.1);
    again = λ v rest fits. law.again v rest (back v fits);
    small = λ v fits. law.small v (back v fits);
    near = law.near;
    stays = law.stays;
    alive = λ live bytes left bs is. let a = law.alive live bytes left bs is in (a.0, to a.0 a.1, a.2, a.3);
    inhabited = λ live. let i = law.inhabited live in (i.0, to i.0 i.1);
  }

  -- in other words
  same_law : (f g : Reader A) {k : ℕ} → ((bytes : List ℕ) → f bytes ≡ g bytes) → IsField Live f s P k → IsField Live g s P k
  same_law f g same law = record {
    takes = λ bytes v rest bs is. law.takes bytes v rest bs (same bytes ∙ is);
    again = λ v rest fits. sym (same _) ∙ law.again v rest fits;
    small = law.small;
    near = λ bytes left bs is. law.near bytes left bs (ap (λ r. as_bad r) (same bytes) ∙ is);
    stays = λ bytes more left bs is. sym (same _) ∙ law.stays bytes more left bs (same bytes ∙ is);
    alive = λ live bytes left bs is. law.alive live bytes left bs (ap (λ r. as_bad r) (same bytes) ∙ is);
    inhabited = law.inhabited;
  }

-- ---- the same as another value

nothing : Reader (Unit {0})
nothing bytes = Got tt bytes

nothing_law : {Live : Type 0} → IsField Live nothing (λ _. []) (λ _. Unit {0}) 0
unfolding nothing
nothing_law = no_bytes_law nothing tt (λ _. []) (λ _. Unit {0}) (λ bytes. refl) refl tt (λ w _. refl)

module _ {Live : Type 0} {B C : Type 0} (view : B → C) (f : Reader B) where
  pub viewed_law : {t : B → List ℕ} {Q : B → Type 0} {j : ℕ} → IsField Live f t Q j → (u : C → List ℕ) (R : C → Type 0)
      → ((e : C) → R e → (w : B) × (view w ≡ e) × Q w × (u e ≡ t w)) → ((w : B) → Q w → R (view w) × (u (view w) ≡ t w)) → IsField Live (viewed view f) u R j
  unfolding nothing
  viewed_law {t} {Q} {j} law u R parts whole =
      wider (j + 0) j (omega arith) (next_law (λ w _. view w) f (λ _. nothing) law (λ _ _. nothing_law) u R
      (λ e fits. let p = parts e fits in (p.0, tt, p.1, p.2, tt, p.3 ∙ sym (append-nil (t p.0))))
      (λ w _ fits _. let p = whole w fits in (p.0, p.1 ∙ sym (append-nil (t w)))))

-- ---- a field that the value is not to have

bound : {B : Type 0} (r : Read B) → (r >>= λ w rest. Got w rest) ≡ r
bound (Got w rest) = refl
bound (Bad left) = refl
bound (Short left) = refl

go_on : {A B : Type 0} (g : A → Reader B) (r : Read A) → (r >>= λ v rest. g v rest >>= λ w rest'. Got w rest') ≡ (r >>= g)
go_on g (Got v rest) = bound (g v rest)
go_on g (Bad left) = refl
go_on g (Short left) = refl

module _ {Live : Type 0} {A B : Type 0} (f : Reader A) (g : A → Reader B) where
  pub depending_law : {s : A → List ℕ} {P : A → Type 0} {k : ℕ} {t : B → List ℕ} {Q : A → B → Type 0} {j : ℕ}
      → IsField Live f s P k → ((v : A) → P v → IsField Live (g v) t (Q v) j) → (u : B → List ℕ) (R : B → Type 0)
      → ((e : B) → R e → (v : A) × P v × Q v e × (u e ≡ s v ++ t e)) → ((v : A) (w : B) → P v → Q v w → R w × (u w ≡ s v ++ t w)) → IsField Live (depending f g) u R (k + j)
  depending_law first second u R parts whole =
      same_law (with_next (λ v w. w) f g) (depending f g) (λ bytes. go_on g (f bytes))
      (next_law (λ v w. w) f g first second u R (λ e fits. let p = parts e fits in (p.0, e, refl, p.1, p.2, p.3)) whole)

-- ---- a field, and then one that may depend on it

module _ {Live : Type 0} {A B : Type 0} {f : Reader A} {g : A → Reader B} where
  pub after_law : {s : A → List ℕ} {P : A → Type 0} {k : ℕ} {t : B → List ℕ} {Q : A → B → Type 0} {j : ℕ}
      → IsField Live f s P k → ((v : A) → P v → IsField Live (g v) t (Q v) j) → IsField Live (and_then f g) (λ p. s p.0 ++ t p.1) (λ p. P p.0 × Q p.0 p.1) (k + j)
  after_law first second =
      next_law (λ v w. (v, w)) f g first second _ _ (λ e fits. (e.0, e.1, refl, fits.0, fits.1, refl)) (λ v w p q. ((p, q), refl))

module _ {Live : Type 0} {A B : Type 0} {f : Reader A} {g : Reader B} where
  pub then_law : {s : A → List ℕ} {P : A → Type 0} {k : ℕ} {t : B → List ℕ} {Q : B → Type 0} {j : ℕ}
      → IsField Live f s P k → IsField Live g t Q j → IsField Live (f ⨟ g) (λ p. s p.0 ++ t p.1) (λ p. P p.0 × Q p.1) (k + j)
  then_law first second = after_law first (λ _ _. second)
