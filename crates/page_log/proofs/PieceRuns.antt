-- A batch that is read piece by piece.
use Rattle.std.proofs.Common.{◌≡◌, ◌≢◌, ◌⊎◌, inl, inr, true, min, ℕ, zero, suc, ◌+◌, ◌-◌, ◌*◌, ◌<◌, ◌≤◌, List, [], ◌∷◌, ◌++◌, Some, None, length, take, drop, drop-drop, refl, sym, ap, ◌∙◌, subst, arith, append_assoc, append-nil, length-append, length-drop}
use Rattle.std.proofs.lemmas.List.{length-take, take-take, drop-take, take-append-drop, drop-append-le, drop_all, drop_at}
use Rattle.page_log.specs.Batches.{Placed, AreEvents, room_of}
use Rattle.page_log.specs.Steps.{AreFirst, AddsFirst, BeginNone, IsBad}
use Rattle.page_log.specs.declared.events.Piece.{Piece}
use Rattle.page_log.proofs.EventRuns.{first_more, first_then, first_ends, first_within, first_shorter, hint_typed, hint_writable}
use Rattle.vec_event.specs.Spelling.{spelling}
use Rattle.vec_history.specs.declared.event.Event.TheVariants.{Hint}

room_append : (xs ys : List Placed) → room_of (xs ++ ys) ≡ room_of xs + room_of ys
room_append [] ys = omega arith
room_append (x ∷ xs) ys = omega (arith, room_append xs ys)

-- what is left behind events at the front
first_drop : (at : ℕ) (bytes : List ℕ) (events : List Placed) (rest : List ℕ) (n : ℕ) → n + length rest ≡ length bytes → AreFirst at bytes events rest → drop n bytes ≡ rest
first_drop at bytes [] rest n size first =
    let none : n ≡ 0 = omega (arith, size, ap length first) in
    ap (λ n. drop n bytes) none ∙ first
first_drop at bytes (placed ∷ events) rest n size first =
    let behind = first.1.0 in
    let all = ap length first.1.1.same ∙ length-append (spelling placed.1) behind in
    let m = n - length (spelling placed.1) in
    let shorter = first_shorter (at + length (spelling placed.1)) behind events rest first.1.2 in
    let n_is : n ≡ length (spelling placed.1) + m = omega (arith, size, all, shorter) in
    ap (λ n. drop n bytes) n_is ∙ sym (drop-drop m (length (spelling placed.1)) bytes) ∙ ap (λ bytes. drop m (drop (length (spelling placed.1)) bytes)) first.1.1.same
    ∙ ap (drop m) (drop_at (spelling placed.1) behind (length (spelling placed.1)) refl) ∙ first_drop (at + length (spelling placed.1)) behind events rest m (omega (arith, size, all, shorter)) first.1.2

-- bytes that no event can go on have a byte
not_none : (bytes : List ℕ) → IsBad bytes → bytes ≢ []
not_none bytes bad none =
    bad (spelling (Hint 0)) (Hint 0) [] (record { typed = hint_typed; writable = hint_writable; same = ap (λ bytes. bytes ++ spelling (Hint 0)) none ∙ sym (append-nil (spelling (Hint 0))) })

append_some : (xs ys : List ℕ) → xs ≢ [] → (xs ++ ys) ≢ []
append_some [] ys some is = some refl
append_some (x ∷ xs) ys some is = cc

-- ---- the loop

-- after so many bytes of a batch
pub record IsMoving (told : Type 0) (whole : List ℕ) (at done : ℕ) (old now : List Placed) : Type 0 where
  pub more : List Placed
  pub items : now ≡ old ++ more
  pub covers : done + 5 * length more ≤ room_of more
  pub first : told → AreFirst at whole more (drop done whole)

pub moving_begins : (told : Type 0) (whole : List ℕ) (at : ℕ) (old : List Placed) → IsMoving told whole at 0 old old
moving_begins told whole at old = record { more = []; items = sym (append-nil old); covers = omega arith; first = λ told. refl }

-- the piece, and what is behind it
split : (area : List ℕ) (at len done size : ℕ) (bytes : List ℕ) → done + size ≤ len → bytes ≡ take size (drop (at + done) area)
    → drop done (take len (drop at area)) ≡ bytes ++ drop size (drop done (take len (drop at area)))
split area at len done size bytes within is =
    let whole = take len (drop at area) in
    let left = len - done in
    let len_is : len ≡ done + left = omega (arith, within) in
    let parts : drop done whole ≡ take left (drop (at + done) area) = ap (λ n. drop done (take n (drop at area))) len_is ∙ drop-take done left (drop at area) ∙ ap (take left) (drop-drop done at area) in
    let piece : take size (drop done whole) ≡ bytes = ap (take size) parts ∙ take-take size left (drop (at + done) area) (omega (arith, within)) ∙ sym is in
    sym (take-append-drop size (drop done whole)) ∙ ap (λ piece. piece ++ drop size (drop done whole)) piece

-- what is left behind the whole events of a piece
behind : (area : List ℕ) (at len done size : ℕ) (bytes : List ℕ) (old new : List Placed) (piece : Piece) (p : AddsFirst (at + done) bytes old new piece) → done + size ≤ len
    → bytes ≡ take size (drop (at + done) area) → drop (done + piece.len) (take len (drop at area)) ≡ p.rest ++ drop size (drop done (take len (drop at area)))
behind area at len done size bytes old new piece p within is =
    let whole = take len (drop at area) in
    let tail = drop size (drop done whole) in
    sym (drop-drop piece.len done whole) ∙ ap (drop piece.len) (split area at len done size bytes within is) ∙ drop-append-le piece.len bytes tail (omega (arith, p.len_is))
    ∙ ap (λ rest. rest ++ tail) (first_drop (at + done) bytes p.more p.rest piece.len p.len_is p.first)

-- after a piece more
pub moving_on : (told : Type 0) (area : List ℕ) (at len done size : ℕ) (bytes : List ℕ) (old now new : List Placed) (piece : Piece)
    → IsMoving told (take len (drop at area)) at done old now → AddsFirst (at + done) bytes now new piece → done + size ≤ len → (told → at + len ≤ length area)
    → (told → bytes ≡ take size (drop (at + done) area)) → IsMoving told (take len (drop at area)) at (done + piece.len) old new
moving_on told area at len done size bytes old now new piece so_far p within reaches is =
    let whole = take len (drop at area) in
    let tail = drop size (drop done whole) in record {
      more = so_far.more ++ p.more;
      items = p.items ∙ ap (λ xs. xs ++ p.more) so_far.items ∙ append_assoc old so_far.more p.more;
      covers = omega (arith, so_far.covers, first_within (at + done) bytes p.more p.rest p.first, p.len_is, room_append so_far.more p.more, length-append so_far.more p.more);
      first = λ t.
          let one : AreFirst (at + done) (drop done whole) p.more (drop (done + piece.len) whole) =
          subst (λ rest. AreFirst (at + done) (drop done whole) p.more rest) (sym (behind area at len done size bytes now new piece p within (is t)))
          (subst (λ bytes. AreFirst (at + done) bytes p.more (p.rest ++ tail)) (sym (split area at len done size bytes within (is t)))
          (first_more (at + done) bytes p.more p.rest tail p.first)) in
          first_then at (at + done) whole so_far.more (drop done whole) p.more (drop (done + piece.len) whole)
          (omega (arith, within, reaches t, length-drop done whole, length-take len (drop at area), length-drop at area)) (so_far.first t) one;
    }

-- where all was read
pub moving_ends : (told : Type 0) (area : List ℕ) (at len : ℕ) (old now : List Placed) → IsMoving told (take len (drop at area)) at len old now → told → at + len ≤ length area
    → (more : List Placed) × (now ≡ old ++ more) × AreEvents at (take len (drop at area)) more None
moving_ends told area at len old now so_far t reaches =
    let whole = take len (drop at area) in
    let size : length whole ≡ len = omega (arith, reaches, length-take len (drop at area), length-drop at area) in (
      so_far.more,
      so_far.items,
      first_ends at (at + len) whole so_far.more (drop len whole) None (omega (arith, size, length-drop len whole)) (so_far.first t) (drop_all len whole (omega (arith, size))),
    )

-- where the next event can't be read
pub moving_stops : (told : Type 0) (area : List ℕ) (at len done size : ℕ) (bytes : List ℕ) (old now new : List Placed) (piece : Piece)
    → IsMoving told (take len (drop at area)) at done old now → AddsFirst (at + done) bytes now new piece → done + size ≤ len → (told → at + len ≤ length area)
    → (told → bytes ≡ take size (drop (at + done) area)) → told → (piece.bad ≡ true) ⊎ ((size ≡ len - done) × (piece.len < size))
    → (more : List Placed) × (new ≡ old ++ more) × AreEvents at (take len (drop at area)) more (Some (at + done + piece.len))
moving_stops told area at len done size bytes old now new piece so_far p within reaches is t cause =
    let whole = take len (drop at area) in
    let on = moving_on told area at len done size bytes old now new piece so_far p within reaches is in
    let left = behind area at len done size bytes now new piece p within (is t) in
    let length_is : length whole ≡ len = omega (arith, reaches t, length-take len (drop at area), length-drop at area) in
    let bytes_are : length bytes ≡ size =
    ap length (is t) ∙ length-take size (drop (at + done) area) ∙ omega (arith, within, reaches t, length-drop (at + done) area) in
    let last = stops cause (p.rest) (drop size (drop done whole)) p.none p.bad (omega (arith, p.len_is, bytes_are))
    (λ whole_. drop_all size (drop done whole) (omega (arith, whole_, length_is, length-drop done whole))) in (
      on.more,
      on.items,
      first_ends at (at + done + piece.len) whole on.more (drop (done + piece.len) whole) (Some (at + done + piece.len))
          (omega (arith, within, p.len_is, bytes_are, length_is, length-drop (done + piece.len) whole)) (on.first t)
          (refl, subst (λ bytes. bytes ≢ []) (sym left) last.0, subst BeginNone (sym left) last.1),
    )
  where
    stops : (piece.bad ≡ true) ⊎ ((size ≡ len - done) × (piece.len < size)) → (rest tail : List ℕ) → BeginNone rest → (piece.bad ≡ true → IsBad rest) → piece.len + length rest ≡ size
        → (size ≡ len - done → tail ≡ []) → ((rest ++ tail) ≢ []) × BeginNone (rest ++ tail)
    stops (inl bad) rest tail none is_bad size_is no_tail = (append_some rest tail (not_none rest (is_bad bad)), is_bad bad tail)
    stops (inr short) rest tail none is_bad size_is no_tail =
        let same : rest ++ tail ≡ rest = ap (λ tail. rest ++ tail) (no_tail short.0) ∙ append-nil rest in
        ((λ empty. absurd (omega (arith, short.1, size_is, ap length (sym same ∙ empty)))), subst BeginNone (sym same) none)

-- the next piece begins behind the whole events of the last one
pub progress_on : (len done most size read done' most' : ℕ) → done < len → size ≡ min most (len - done) → read ≤ size
    → (read ≡ 0 → (done' ≡ done) × (most' ≡ min (most * 2) 18446744073709551615)) → (0 < read → (done' ≡ done + read) × (most' ≡ 65536)) → 0 < most
    → (done' ≡ done + read) × (done' ≤ len) × (0 < most') × (most' < 18446744073709551616)
progress_on len done most size zero done' most' more size_is within longer further some =
    let l = longer refl in
    (omega (arith, l.0), omega (arith, l.0, more), omega (arith, l.1, some), omega (arith, l.1))
progress_on len done most size (suc read) done' most' more size_is within longer further some =
    let f = further (omega arith) in
    (f.0, omega (arith, f.0, within, size_is, more), omega (arith, f.1), omega (arith, f.1))

pub more_on : (old now new more then_ : List Placed) → now ≡ old ++ more → new ≡ now ++ then_ → (all : List Placed) × (new ≡ old ++ all)
more_on old now new more then_ first second = (more ++ then_, second ∙ ap (λ xs. xs ++ then_) first ∙ append_assoc old more then_)
