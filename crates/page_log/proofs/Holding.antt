-- What an area holds whose log goes on, behind a closed seal and behind one that may be open.
use Rattle.std.proofs.Common.{◌≡◌, ◌≢◌, inl, inr, Bool, true, false, ℕ, ◌+◌, ◌<◌, ◌≤◌, List, [], ◌∷◌, ◌++◌, None, length, get_or, take, map, refl, sym, ◌∙◌, ap, subst, arith, append_assoc, append-nil, length-append}
use Rattle.std.specs.Int.{w32, to_le_bytes}
use Rattle.std.specs.List.{flat_map}
use Rattle.std.proofs.lemmas.Bool.{cases_eq}
use Rattle.std.proofs.lemmas.Grind.{flat_map-append}
use Rattle.std.proofs.lemmas.List.{take_at, drop_at, map-append}
use Rattle.vec_history.specs.declared.event.Event.{Event}
use Rattle.page_log.specs.Batches.{Placed, AreBatches, IsBatch, IsOpenAt, room_of}
use Rattle.page_log.specs.Going.{AreWritable, spelled, room, body_of, Holds, LeadsTo, IsSealed, IsBetween}
use Rattle.page_log.proofs.SpelledEvents.{placed_from, are_events, events_placed, room_placed, spelled_within}

-- an open seal and the length of a batch
abbrev pub head : List ℕ → List ℕ
head bytes = 165 ∷ to_le_bytes w32 (length bytes)

-- the front with a batch more
abbrev pub with_batch : List ℕ → List ℕ → List ℕ
with_batch front bytes = front ++ (head bytes ++ bytes)

head_length : (bytes : List ℕ) → length (head bytes) ≡ 5
head_length bytes = refl

pub with_batch_length : (front bytes : List ℕ) → length (with_batch front bytes) ≡ length front + 5 + length bytes
with_batch_length front bytes = omega (arith, length-append front (head bytes ++ bytes), length-append (head bytes) bytes, head_length bytes)

some_of : (bytes : List ℕ) → 0 < length bytes → bytes ≢ []
some_of bytes some is = absurd (omega (arith, some, ap length is))

module _ (base front : List ℕ) (settled batch : List Event) (used : ℕ) (leads : LeadsTo base front settled used) (all : AreWritable batch)
    (some : 0 < length (spelled batch)) (fits : used + room batch ≤ 268435456) where
  at_batch : (rest : List ℕ) → IsBatch (front ++ (head (spelled batch) ++ (spelled batch ++ rest))) (length front) (spelled batch)
  at_batch rest = record {
    rest = rest;
    some = some_of (spelled batch) some;
    few = omega (arith, fits, spelled_within batch);
    same = drop_at front (head (spelled batch) ++ (spelled batch ++ rest)) (length front) refl;
  }

  joins : (rest : List ℕ) → with_batch front (spelled batch) ++ rest ≡ front ++ (head (spelled batch) ++ (spelled batch ++ rest))
  joins rest = append_assoc front (head (spelled batch) ++ spelled batch) rest ∙ ap (λ (l : List ℕ). front ++ l) (append_assoc (head (spelled batch)) (spelled batch) rest)

  -- one batch more
  pub leads_on : LeadsTo base (with_batch front (spelled batch)) (settled ++ batch) (used + room batch)
  leads_on =
      let placed = placed_from (length front + 5) batch in record {
        begins = λ rest. ap (λ (l : List ℕ). take (length base) l) (joins rest) ∙ leads.begins (head (spelled batch) ++ (spelled batch ++ rest));
        batches = leads.batches ++ placed ∷ [];
        events = ap (λ (l : List Placed). map (λ (p : Placed). p.1) l) (flat_map-append (λ (b : List Placed). b) leads.batches (placed ∷ []))
            ∙ map-append (λ (p : Placed). p.1) (flat_map (λ (b : List Placed). b) leads.batches) (placed ++ [])
            ∙ (λ i. leads.events i ++ (ap (λ (l : List Placed). map (λ (p : Placed). p.1) l) (append-nil placed) ∙ events_placed (length front + 5) batch) i);
        goes_on = λ rest more tail are.
            let area = front ++ (head (spelled batch) ++ (spelled batch ++ rest)) in
            let here : AreBatches area (length front + 5 + length (spelled batch)) (used + room_of placed) more tail =
            subst (λ (n : ℕ). AreBatches area n (used + room_of placed) more tail) (with_batch_length front (spelled batch))
            (subst (λ (n : ℕ). AreBatches area (length (with_batch front (spelled batch))) (used + n) more tail) (sym (room_placed (length front + 5) batch))
            (subst (λ (l : List ℕ). AreBatches l (length (with_batch front (spelled batch))) (used + room batch) more tail) (joins rest) are)) in
            let whole : AreBatches area (length front) used (placed ∷ more) tail =
            (spelled batch, at_batch rest, are_events (length front + 5) batch all, omega (arith, fits, room_placed (length front + 5) batch), here) in
            subst (λ (l : List ℕ). AreBatches l (length base) 0 ((leads.batches ++ placed ∷ []) ++ more) tail) (sym (joins rest))
            (subst (λ (b : List (List Placed)). AreBatches area (length base) 0 b tail) (sym (append_assoc leads.batches (placed ∷ []) more))
            (leads.goes_on (head (spelled batch) ++ (spelled batch ++ rest)) (placed ∷ more) tail whole));
      }

-- a closed seal ends the log
closed : (front : List ℕ) (seal : ℕ) (rest : List ℕ) → seal ≢ 165 → ¬ IsOpenAt (front ++ seal ∷ rest) (length front)
closed front seal rest shut is =
    shut (ap (λ (l : List ℕ). get_or l 0 0) (sym (drop_at front (seal ∷ rest) (length front) refl) ∙ is.1))

pub holds_settled : (base front : List ℕ) (settled : List Event) (used seal : ℕ) (rest : List ℕ) → LeadsTo base front settled used → seal ≢ 165 → Holds base settled (front ++ seal ∷ rest)
holds_settled base front settled used seal rest leads shut = record {
  base_is = leads.begins (seal ∷ rest);
  placed = flat_map (λ (b : List Placed). b) leads.batches;
  end = length front;
  used = used;
  log = record {
    batches = leads.batches;
    last = [];
    are = subst (λ (b : List (List Placed)). AreBatches (front ++ seal ∷ rest) (length base) 0 b (record { events = []; end = length front; used = used; bad = None })) (append-nil leads.batches)
        (leads.goes_on (seal ∷ rest) [] (record { events = []; end = length front; used = used; bad = None }) (refl, (closed front seal rest shut, refl, refl)));
    events_are = sym (append-nil (flat_map (λ (b : List Placed). b) leads.batches));
  };
  events_are = leads.events;
}

-- the body of a batch with an event
pub body_some : (bytes : List ℕ) → 0 < length bytes → body_of bytes ≡ to_le_bytes w32 (length bytes) ++ (bytes ++ 0 ∷ [])
body_some [] some = absurd (omega arith)
body_some (b ∷ bytes) some = refl

pub body_length : (bytes : List ℕ) → 0 < length bytes → length (body_of bytes) ≡ length bytes + 5
body_length bytes some =
    ap length (body_some bytes some) ∙ length-append (to_le_bytes w32 (length bytes)) (bytes ++ 0 ∷ []) ∙ omega (arith, length-append bytes (0 ∷ []), head_length bytes)

-- a body has events
pub some_in_body : (bytes : List ℕ) → 0 < length (body_of bytes) → 0 < length bytes
some_in_body [] some = absurd (omega arith)
some_in_body (b ∷ bytes) some = omega arith

-- the front with the batch, and then the closed seal
pub opened : (front bytes after : List ℕ) → 0 < length bytes → front ++ 165 ∷ (body_of bytes ++ after) ≡ with_batch front bytes ++ 0 ∷ after
opened front bytes after some =
    let four = to_le_bytes w32 (length bytes) in
    ap (λ (l : List ℕ). front ++ 165 ∷ (l ++ after)) (body_some bytes some)
    ∙ ap (λ (l : List ℕ). front ++ 165 ∷ l) (append_assoc four (bytes ++ 0 ∷ []) after ∙ ap (λ (l : List ℕ). four ++ l) (append_assoc bytes (0 ∷ []) after))
    ∙ ap (λ (l : List ℕ). front ++ l) (sym (append_assoc (165 ∷ four) bytes (0 ∷ after)))
    ∙ sym (append_assoc front (head bytes ++ bytes) (0 ∷ after))

-- nothing settled is lost, and of what is pending the fixed batch counts or not
pub holds_between : (base front : List ℕ) (settled batch fresh : List Event) (used : ℕ) (fixed : Bool) (bytes : List ℕ) → LeadsTo base front settled used
    → AreWritable batch → used + room batch ≤ 268435456 → IsSealed front fixed (body_of (spelled batch)) bytes → IsBetween base settled (batch ++ fresh) bytes
holds_between base front settled batch fresh used false bytes leads all fits is = (
  0,
  omega arith,
  subst (λ (l : List ℕ). Holds base (settled ++ []) l) (sym is.split)
      (subst (λ (s : List Event). Holds base s (front ++ is.seal ∷ is.rest)) (sym (append-nil settled)) (holds_settled base front settled used is.seal is.rest leads is.behind)),
)
holds_between base front settled batch fresh used true bytes leads all fits is =
    elim (cases_eq is.seal 165) [
      | inl is_open ↦
          let some : 0 < length (spelled batch) = some_in_body (spelled batch) is.behind.0 in
          let after = is.behind.1.0 in
          let whole : bytes ≡ with_batch front (spelled batch) ++ 0 ∷ after =
          is.split ∙ (λ i. front ++ is_open i ∷ is.behind.1.1 i) ∙ opened front (spelled batch) after some in (
            length batch,
            omega (arith, length-append batch fresh),
            subst (λ (l : List ℕ). Holds base (settled ++ take (length batch) (batch ++ fresh)) l) (sym whole)
                (subst (λ (s : List Event). Holds base (settled ++ s) (with_batch front (spelled batch) ++ 0 ∷ after)) (sym (take_at batch fresh (length batch) refl))
                (holds_settled base (with_batch front (spelled batch)) (settled ++ batch) (used + room batch) 0 after (leads_on base front settled batch used leads all some fits) (omega arith))),
          )
      | inr shut ↦ (
        0,
        omega arith,
        subst (λ (l : List ℕ). Holds base (settled ++ []) l) (sym is.split)
            (subst (λ (s : List Event). Holds base s (front ++ is.seal ∷ is.rest)) (sym (append-nil settled)) (holds_settled base front settled used is.seal is.rest leads shut)),
      )
    ]
