-- Entries of a list of holds.
use Rattle.std.proofs.Common.{◌≡◌, ◌⊎◌, ◌≤◌, ◌+◌, ℕ, arith, length, ◌==◌, ◌&&◌, not, Bool, true, false, cond, filter, List, [], ◌∷◌, ◌++◌, refl, sym, ap, subst, ◌∙◌, inl, inr}
use Rattle.std.proofs.lemmas.Bool.{eq-eqb, eqb-true}
use Rattle.vec_history.specs.declared.gate.Gate.{Gate}
use Rattle.vec_history.specs.declared.gate.Gate.TheVariants.{Update, Scan, Vacuum}
use Rattle.vec_history.specs.declared.gate.Hold.{Hold}
use Rattle.history_tables.specs.declared.holders.Holder.{Holder}
use Rattle.history_tables.specs.Telling.{IsAmong, Agrees, AllAgree, same_gate, is_other}

-- ---- among a list

pub among_kept : (p : Holder → Bool) (held : List Holder) (h : Holder) → IsAmong h held → p h ≡ true → IsAmong h (filter p held)
among_kept p [] h is keeps = absurd is
among_kept p (x ∷ held) h is keeps = by (p x) refl is (λ rest. among_kept p held h rest keeps) where
  by : (b : Bool) → p x ≡ b → (x ≡ h) ⊎ IsAmong h held → (IsAmong h held → IsAmong h (filter p held))
      → IsAmong h (cond b (x ∷ filter p held) (filter p held))
  by true e (inl same) more = inl same
  by true e (inr rest) more = inr (more rest)
  by false e (inl same) more = let both : false ≡ true = sym e ∙ ap p same ∙ keeps in absurd cc
  by false e (inr rest) more = more rest

pub kept_among : (p : Holder → Bool) (held : List Holder) (h : Holder) → IsAmong h (filter p held) → IsAmong h held × (p h ≡ true)
kept_among p [] h is = absurd is
kept_among p (x ∷ held) h is = by (p x) refl is (kept_among p held h) where
  by : (b : Bool) → p x ≡ b → IsAmong h (cond b (x ∷ filter p held) (filter p held))
      → (IsAmong h (filter p held) → IsAmong h held × (p h ≡ true)) → IsAmong h (x ∷ held) × (p h ≡ true)
  by true e (inl same) more = (inl same, ap p (sym same) ∙ e)
  by true e (inr rest) more = let k = more rest in (inr k.0, k.1)
  by false e rest more = let k = more rest in (inr k.0, k.1)

pub among_more : (held : List Holder) (x h : Holder) → IsAmong h (held ++ x ∷ []) → IsAmong h held ⊎ (x ≡ h)
among_more [] x h (inl same) = inr same
among_more [] x h (inr none) = absurd none
among_more (y ∷ held) x h (inl same) = inl (inl same)
among_more (y ∷ held) x h (inr rest) = elim (among_more held x h rest) [ inl is ↦ inl (inr is) | inr same ↦ inr same ]

pub more_among : (held : List Holder) (x h : Holder) → IsAmong h held → IsAmong h (held ++ x ∷ [])
more_among [] x h is = absurd is
more_among (y ∷ held) x h (inl same) = inl same
more_among (y ∷ held) x h (inr rest) = inr (more_among held x h rest)

pub last_among : (held : List Holder) (x : Holder) → IsAmong x (held ++ x ∷ [])
last_among [] x = inl refl
last_among (y ∷ held) x = inr (last_among held x)

-- ---- an entry of the desk and the gate

same_gate_itself : (a : Gate) → same_gate a a ≡ true
same_gate_itself Update = refl
same_gate_itself Scan = refl
same_gate_itself Vacuum = refl

same_gate_is : (a b : Gate) → same_gate a b ≡ true → a ≡ b
same_gate_is Update Update e = refl
same_gate_is Update Scan e = absurd cc
same_gate_is Update Vacuum e = absurd cc
same_gate_is Scan Update e = absurd cc
same_gate_is Scan Scan e = refl
same_gate_is Scan Vacuum e = absurd cc
same_gate_is Vacuum Update e = absurd cc
same_gate_is Vacuum Scan e = absurd cc
same_gate_is Vacuum Vacuum e = refl

both_of : (a b : Bool) → not (a && b) ≡ false → (a ≡ true) × (b ≡ true)
both_of true true e = (refl, refl)
both_of true false e = absurd cc
both_of false b e = absurd cc

pub is_own : (desk : ℕ) (gate : Gate) (h : Holder) → is_other desk gate h ≡ false → (h.desk ≡ desk) × (h.gate ≡ gate)
is_own desk gate h e =
    let k = both_of (h.desk == desk) (same_gate h.gate gate) e in
    (eqb-true _ _ k.0, same_gate_is h.gate gate k.1)

pub own_is : (desk : ℕ) (gate : Gate) (h : Holder) → h.desk ≡ desk → h.gate ≡ gate → is_other desk gate h ≡ false
own_is desk gate h d g =
    ap (λ (b : Bool). not (b && same_gate h.gate gate)) (eq-eqb _ _ d) ∙ ap not (ap (λ (x : Gate). same_gate x gate) g ∙ same_gate_itself gate)

-- ---- all agree

pub agree_each : (desk : ℕ) (gate : Gate) (hold : Hold) (held : List Holder) → AllAgree desk gate hold held → (h : Holder) → IsAmong h held → Agrees desk gate hold h
agree_each desk gate hold [] all h is = absurd is
agree_each desk gate hold (x ∷ held) all h (inl same) = subst (Agrees desk gate hold) same all.0
agree_each desk gate hold (x ∷ held) all h (inr rest) = agree_each desk gate hold held all.1 h rest

pub each_agrees : (desk : ℕ) (gate : Gate) (hold : Hold) (held : List Holder) → ((h : Holder) → IsAmong h held → Agrees desk gate hold h) → AllAgree desk gate hold held
each_agrees desk gate hold [] each = tt
each_agrees desk gate hold (x ∷ held) each = (each x (inl refl), each_agrees desk gate hold held (λ h is. each h (inr is)))

-- ---- how many there are

pub fewer_kept : (p : Holder → Bool) (held : List Holder) → length (filter p held) ≤ length held
fewer_kept p [] = omega arith
fewer_kept p (x ∷ held) = by (p x) (fewer_kept p held) where
  by : (b : Bool) → length (filter p held) ≤ length held → length (cond b (x ∷ filter p held) (filter p held)) ≤ length (x ∷ held)
  by true rest = omega (arith, rest)
  by false rest = omega (arith, rest)

pub fewer_without : (p : Holder → Bool) (held : List Holder) (h : Holder) → IsAmong h held → p h ≡ false → length (filter p held) + 1 ≤ length held
fewer_without p [] h is out = absurd is
fewer_without p (x ∷ held) h is out = by (p x) refl is (fewer_kept p held) (λ rest. fewer_without p held h rest out) where
  by : (b : Bool) → p x ≡ b → (x ≡ h) ⊎ IsAmong h held → length (filter p held) ≤ length held
      → (IsAmong h held → length (filter p held) + 1 ≤ length held) → length (cond b (x ∷ filter p held) (filter p held)) + 1 ≤ length (x ∷ held)
  by true e (inl same) few more = let both : true ≡ false = sym e ∙ ap p same ∙ out in absurd cc
  by true e (inr rest) few more = let k = more rest in omega (arith, k)
  by false e (inl same) few more = omega (arith, few)
  by false e (inr rest) few more = let k = more rest in omega (arith, k)
