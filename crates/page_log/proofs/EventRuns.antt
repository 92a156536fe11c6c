-- Events that are read one after the other.
use Rattle.std.proofs.Common.{◌≡◌, ◌≢◌, ◌⊎◌, inl, inr, ◌==◌, true, false, ℕ, ◌+◌, ◌-◌, ◌<◌, ◌≤◌, List, [], ◌∷◌, ◌++◌, Option, ◌*◌, length, take, drop, refl, sym, ap, ◌∙◌, subst, arith, append_assoc, length-append, length-drop, append-nil}
use Rattle.std.proofs.lemmas.List.{length-take}
use Rattle.vec_event.specs.declared.fault.EventFault.{EventFault}
use Rattle.vec_event.specs.declared.fault.EventFault.TheVariants.{Memory}
use Rattle.page_log.specs.Batches.{Placed, Begins, AreEvents, room_of}
use Rattle.page_log.specs.Steps.{AreFirst, AddsFirst, BeginNone, IsBad}
use Rattle.page_log.specs.declared.events.Piece.{Piece}
use Rattle.vec_event.specs.Spelling.{spelling, IsTyped, IsWritable}
use Rattle.vec_event.proofs.Readings.{one_event}
use Rattle.vec_history.specs.declared.event.Event.{Event}
use Rattle.vec_history.specs.declared.event.Event.TheVariants.{Hint}

pub hint_typed : IsTyped (Hint 0)
unfolding IsTyped
hint_typed = tt

pub hint_writable : IsWritable (Hint 0)
unfolding IsWritable
hint_writable = omega arith

hint_length : length (spelling (Hint 0)) ≡ 5
unfolding spelling
hint_length = refl

-- an event has a byte
pub some_bytes : (event : Event) → IsTyped event → IsWritable event → 0 < length (spelling event)
some_bytes event typed writable = some (spelling event) refl
  where
    some : (bytes : List ℕ) → spelling event ≡ bytes → 0 < length bytes
    some [] none =
        let both = one_event event (Hint 0) (spelling (Hint 0)) [] typed writable hint_typed hint_writable (ap (λ bytes. bytes ++ spelling (Hint 0)) none ∙ sym (append-nil (spelling (Hint 0)))) in
        absurd (omega (arith, hint_length, ap length both.1))
    some (b ∷ bytes) is = omega arith

-- ---- events at the front of bytes

pub begins_nothing : (bytes : List ℕ) → bytes ≡ [] → BeginNone bytes
begins_nothing bytes none event rest front =
    absurd (omega (arith, some_bytes event front.typed front.writable, ap length (sym none ∙ front.same), length-append (spelling event) rest))

-- bytes that begin with these events, with more behind them
pub first_more : (at : ℕ) (bytes : List ℕ) (events : List Placed) (rest more : List ℕ) → AreFirst at bytes events rest → AreFirst at (bytes ++ more) events (rest ++ more)
first_more at bytes [] rest more first = ap (λ bytes. bytes ++ more) first
first_more at bytes (placed ∷ events) rest more first =
    let behind = first.1.0 in
    let one = first.1.1 in (
      first.0,
      (
        behind ++ more,
        record { typed = one.typed; writable = one.writable; same = ap (λ bytes. bytes ++ more) one.same ∙ append_assoc (spelling placed.1) behind more },
        first_more (at + length (spelling placed.1)) behind events rest more first.1.2,
      ),
    )

-- events, and those behind them
pub first_then : (at here : ℕ) (bytes : List ℕ) (events : List Placed) (rest : List ℕ) (then_ : List Placed) (last : List ℕ) → here + length rest ≡ at + length bytes
    → AreFirst at bytes events rest → AreFirst here rest then_ last → AreFirst at bytes (events ++ then_) last
first_then at here bytes [] rest then_ last same first second =
    subst (λ bytes. AreFirst at bytes then_ last) (sym first)
    (subst (λ at. AreFirst at rest then_ last) (omega (arith, same, ap length first)) second)
first_then at here bytes (placed ∷ events) rest then_ last same first second =
    let behind = first.1.0 in (
      first.0,
      (
        behind,
        first.1.1,
        first_then (at + length (spelling placed.1)) here behind events rest then_ last (omega (arith, same, ap length first.1.1.same, length-append (spelling placed.1) behind)) first.1.2 second,
      ),
    )

-- the events are all, or those before the place at which none begins
pub first_ends : (at here : ℕ) (bytes : List ℕ) (events : List Placed) (rest : List ℕ) (bad : Option ℕ) → here + length rest ≡ at + length bytes
    → AreFirst at bytes events rest → AreEvents here rest [] bad → AreEvents at bytes events bad
first_ends at here bytes [] rest bad same first last =
    subst (λ bytes. AreEvents at bytes [] bad) (sym first)
    (subst (λ at. AreEvents at rest [] bad) (omega (arith, same, ap length first)) last)
first_ends at here bytes (placed ∷ events) rest bad same first last =
    let behind = first.1.0 in (
      first.0,
      (
        behind,
        first.1.1,
        first_ends (at + length (spelling placed.1)) here behind events rest bad (omega (arith, same, ap length first.1.1.same, length-append (spelling placed.1) behind)) first.1.2 last,
      ),
    )

pub first_within : (at : ℕ) (bytes : List ℕ) (events : List Placed) (rest : List ℕ) → AreFirst at bytes events rest → length bytes + 5 * length events ≤ room_of events + length rest
first_within at bytes [] rest first = omega (arith, ap length first)
first_within at bytes (placed ∷ events) rest first =
    let behind = first.1.0 in
    omega (arith, first_within (at + length (spelling placed.1)) behind events rest first.1.2, ap length first.1.1.same, length-append (spelling placed.1) behind)

pub first_shorter : (at : ℕ) (bytes : List ℕ) (events : List Placed) (rest : List ℕ) → AreFirst at bytes events rest → length rest ≤ length bytes
first_shorter at bytes [] rest first = omega (arith, ap length first)
first_shorter at bytes (placed ∷ events) rest first =
    let behind = first.1.0 in
    omega (arith, first_shorter (at + length (spelling placed.1)) behind events rest first.1.2, ap length first.1.1.same, length-append (spelling placed.1) behind)

-- ---- one piece

-- In bytes whose first is at a place, what is left to be read, and the events of what was read.
pub record IsReading (at : ℕ) (bytes left : List ℕ) (old now : List Placed) : Type 0 where
  pub within : length left ≤ length bytes
  pub more : List Placed
  pub items : now ≡ old ++ more
  pub first : AreFirst at bytes more left

pub begins : (at : ℕ) (bytes : List ℕ) (old : List Placed) → IsReading at bytes bytes old old
begins at bytes old = record { within = omega arith; more = []; items = sym (append-nil old); first = refl }

pub reads_one : (at : ℕ) (bytes left rest : List ℕ) (old now now' : List Placed) (event : Event) → IsReading at bytes left old now → Begins left event rest
    → now' ≡ now ++ (at + (length bytes - length left), event) ∷ [] → IsReading at bytes rest old now'
reads_one at bytes left rest old now now' event so_far front is =
    let place = at + (length bytes - length left) in
    let all = ap length front.same ∙ length-append (spelling event) rest in record {
      within = omega (arith, so_far.within, all);
      more = so_far.more ++ (place, event) ∷ [];
      items = is ∙ ap (λ xs. xs ++ (place, event) ∷ []) so_far.items ∙ append_assoc old so_far.more ((place, event) ∷ []);
      first = first_then at place bytes so_far.more left ((place, event) ∷ []) rest (omega (arith, so_far.within)) so_far.first (refl, (rest, front, refl));
    }

-- what a run gives that ends so
pub ends : (at : ℕ) (bytes left : List ℕ) (old now : List Placed) (piece : Piece) → IsReading at bytes left old now → piece.len + length left ≡ length bytes
    → BeginNone left → (piece.bad ≡ true → IsBad left) → AddsFirst at bytes old now piece
ends at bytes left old now piece so_far len none bad = record {
  more = so_far.more;
  items = so_far.items;
  rest = left;
  first = so_far.first;
  len_is = len;
  none = none;
  bad = bad;
}

-- what is left behind an event is shorter
pub shorter : (left : List ℕ) (len : ℕ) (event : Event) → IsWritable event → IsTyped event → left ≡ spelling event ++ drop len left → len ≡ length (spelling event)
    → length (take (length left - len) (drop len left)) < length left
shorter left len event writable typed same is =
    let all = ap length same ∙ length-append (spelling event) (drop len left) in
    omega (arith, all, is, some_bytes event typed writable, length-take (length left - len) (drop len left), length-drop len left)

-- where reading fails for another cause than memory, the bytes left begin with no event
pub begin_none : (left : List ℕ) (fault : EventFault) → (fault ≡ Memory → ⊥)
    → ((event : Event) (rest : List ℕ) → IsTyped event → IsWritable event → left ≡ spelling event ++ rest → fault ≡ Memory) → BeginNone left
begin_none left fault not_memory read event rest front = not_memory (read event rest front.typed front.writable front.same)

-- bytes that begin with others begin in one of two ways
cut_at : (a b c d : List ℕ) → a ++ b ≡ c ++ d → ((rest : List ℕ) × (a ≡ c ++ rest)) ⊎ ((rest : List ℕ) × (rest ≢ []) × (c ≡ a ++ rest))
cut_at a b [] d same = inl (a, refl)
cut_at [] b (z ∷ c) d same = inr (z ∷ c, (λ none. cc), refl)
cut_at (x ∷ a) b (z ∷ c) d same =
    let head : x ≡ z = cc in
    let tail : a ++ b ≡ c ++ d = cc in
    more x z a c head (cut_at a b c d tail)
  where
    more : (x z : ℕ) (a c : List ℕ) → x ≡ z → ((rest : List ℕ) × (a ≡ c ++ rest)) ⊎ ((rest : List ℕ) × (rest ≢ []) × (c ≡ a ++ rest))
        → ((rest : List ℕ) × (x ∷ a ≡ (z ∷ c) ++ rest)) ⊎ ((rest : List ℕ) × (rest ≢ []) × (z ∷ c ≡ (x ∷ a) ++ rest))
    more x z a c head (inl is) = inl (is.0, ap (λ y. y ∷ a) head ∙ ap (λ a. z ∷ a) is.1)
    more x z a c head (inr is) = inr (is.0, is.1, ap (λ y. y ∷ c) (sym head) ∙ ap (λ c. x ∷ c) is.2)

-- where it fails at a value that is not allowed, none begins them whatever follows
pub is_bad : (left : List ℕ) → ((event : Event) (rest : List ℕ) → IsTyped event → IsWritable event → left ≡ spelling event ++ rest → ⊥)
    → ((event : Event) (more : List ℕ) → IsTyped event → IsWritable event → spelling event ≡ left ++ more → more ≢ [] → ⊥) → IsBad left
is_bad left read cut more event rest front = here (cut_at left more (spelling event) rest front.same)
  where
    here : ((after : List ℕ) × (left ≡ spelling event ++ after)) ⊎ ((after : List ℕ) × (after ≢ []) × (spelling event ≡ left ++ after)) → ⊥
    here (inl is) = read event is.0 front.typed front.writable is.1
    here (inr is) = cut event is.0 front.typed front.writable is.2 is.1

pub not_empty : (left : List ℕ) → false ≡ (length left == 0) → left ≢ []
not_empty [] h is = grind arith
not_empty (b ∷ left) h is = grind arith

pub empty : (left : List ℕ) → true ≡ (length left == 0) → left ≡ []
empty [] yes_ = refl
empty (b ∷ left) yes_ = grind arith
