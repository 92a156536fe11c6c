-- Logs that were read stand as they were read.
use Rattle.std.proofs.Common.{◌≡◌, ◌≢◌, ℕ, ◌%◌, ◌<◌, ◌≤◌, Bool, true, false, ◌&&◌, ◌==◌, nat_le, nat_lt, if◌then◌else◌, List, Option, Some, None, Result, Ok, Err, length, take, refl, sym, ◌∙◌, ap, subst, arith}
use Rattle.std.proofs.lemmas.Bool.Decides.{nat_tests}
use Rattle.std.proofs.lemmas.List.{length-take-le, take-take}
use Rattle.vec_outside.specs.declared.disks.Area.{Area}
use Rattle.vec_outside.specs.declared.disks.Area.TheVariants.{Pages, Log0, Log1}
use Rattle.vec_outside.specs.Disk.{Disk, Image, IsDurable}
use Rattle.page_log.specs.Aside.{IsAside, IsBelow}
use Rattle.page_log.specs.Batches.{IsLog}
use Rattle.page_log.specs.BothLogs.{other_log, IsStanding, alone, held_of}
use Rattle.page_log.specs.Epoch.{is_open, form_in, head_in, bad_size, long_at}
use Rattle.page_log.specs.Opening.{Spot, Epoch, ReadsAs, area_of, parity_of, front_at, front_with, picked, chosen, images_end}
use Rattle.page_log.specs.Parts.{at_end}
use Rattle.page_log.specs.declared.front.Front.{Front}
use Rattle.page_log.specs.declared.head.Head.{Head}
use Rattle.page_log.proofs.HeadParts.{front_same}
use Rattle.page_log.proofs.Opened.{read_going, ends_well}

-- ---- what a front says

abbrev At : Type 0
At = Result (Option Front) ℕ

abbrev Choice : Type 0
Choice = Result (Option (Area × Front)) Spot

abbrev head_out : Head → At → Head
head_out h (Ok None) = h
head_out h (Ok (Some front)) = front.head
head_out h (Err at) = h

abbrev front_out : Front → Choice → Front
front_out f (Ok None) = f
front_out f (Ok (Some x)) = x.1
front_out f (Err s) = f

abbrev area_out : Choice → Area
area_out (Ok None) = Pages
area_out (Ok (Some x)) = x.0
area_out (Err s) = s.0

undone : (open_ none named : Bool) (h : Head) (bad : Option ℕ) (front : Front)
    → ◌≡◌ {A = At} (if open_ then front_with bad (if none then Err 0 else (if named then Ok h else Err 8)) else Ok None) (Ok (Some front))
    → (named ≡ true) × (front.head ≡ h)
undone false none named h bad front is = absurd cc
undone true true named h bad front is = absurd cc
undone true false false h bad front is = absurd cc
undone true false true h bad front is = (refl, sym (ap (λ (a : At). head_out h a) is))

second : (a b : Bool) → (a && b) ≡ true → b ≡ true
second true b is = is
second false b is = absurd cc

front_says : (parity : ℕ) (bytes : List ℕ) (front : Front) → front_at parity bytes ≡ Ok (Some front) → (front.head ≡ head_in bytes) × (front.head.epoch % 2 ≡ parity)
front_says parity bytes front is =
    let says = undone (is_open bytes) (form_in bytes == 0) (nat_le 1 (long_at bytes 8) && long_at bytes 8 % 2 == parity) (head_in bytes) (bad_size bytes) front is in
    let test : (long_at bytes 8 % 2 == parity) ≡ true = second (nat_le 1 (long_at bytes 8)) (long_at bytes 8 % 2 == parity) says.0 in
    let odd : long_at bytes 8 % 2 ≡ parity = grind (arith, nat_tests) in
    (says.1, ap (λ (h : Head). h.epoch % 2) says.1 ∙ odd)

-- ---- which area counts

log0_log1 : ◌≡◌ {A = Area} Log0 Log1 → ⊥
log0_log1 is = absurd cc

some_is : (f front : Front) (area : Area) → ◌≡◌ {A = Choice} (Ok (Some (area, f))) (Ok (Some (area, front))) → f ≡ front
some_is f front area is = ap (λ (c : Choice). front_out f c) is

picks_first : (f g front : Front) (t : Bool) → nat_lt f.head.epoch g.head.epoch ≡ t
    → ◌≡◌ {A = Choice} (if t then Ok (Some (Log1, g)) else Ok (Some (Log0, f))) (Ok (Some (Log0, front))) → (f ≡ front) × (nat_lt f.head.epoch g.head.epoch ≡ false)
picks_first f g front true test is = absurd (log0_log1 (sym (ap area_out is)))
picks_first f g front false test is = (some_is f front Log0 is, test)

picks_second : (f g front : Front) (t : Bool) → nat_lt f.head.epoch g.head.epoch ≡ t
    → ◌≡◌ {A = Choice} (if t then Ok (Some (Log1, g)) else Ok (Some (Log0, f))) (Ok (Some (Log1, front))) → (g ≡ front) × (nat_lt f.head.epoch g.head.epoch ≡ true)
picks_second f g front true test is = (some_is g front Log1 is, test)
picks_second f g front false test is = absurd (log0_log1 (ap area_out is))

abbrev AreApart : At → At → Type 0
AreApart a b = (f g : Front) → a ≡ Ok (Some f) → b ≡ Ok (Some g) → f.head.epoch ≢ g.head.epoch

first_back : (a b : At) (front : Front) → AreApart a b → picked a b ≡ Ok (Some (Log0, front)) → (a ≡ Ok (Some front)) × IsBelow front.head.epoch b
first_back (Err at) b front apart is = absurd cc
first_back (Ok None) (Err at) front apart is = absurd cc
first_back (Ok None) (Ok None) front apart is = absurd cc
first_back (Ok None) (Ok (Some g)) front apart is = absurd (log0_log1 (sym (ap area_out is)))
first_back (Ok (Some f)) (Err at) front apart is = absurd cc
first_back (Ok (Some f)) (Ok None) front apart is = (ap (λ (f : Front). Ok (Some f)) (some_is f front Log0 is), tt)
first_back (Ok (Some f)) (Ok (Some g)) front apart is =
    let picks = picks_first f g front (nat_lt f.head.epoch g.head.epoch) refl is in
    let test = picks.1 in
    let other = apart f g refl refl in
    let same : f.head.epoch ≡ front.head.epoch = ap (λ (f : Front). f.head.epoch) picks.0 in
    let no_less : g.head.epoch ≤ f.head.epoch = grind (arith, nat_tests) in
    (ap (λ (f : Front). Ok (Some f)) picks.0, omega (arith, no_less, other, same))

second_back : (a b : At) (front : Front) → picked a b ≡ Ok (Some (Log1, front)) → (b ≡ Ok (Some front)) × IsBelow front.head.epoch a
second_back (Err at) b front is = absurd cc
second_back (Ok None) (Err at) front is = absurd cc
second_back (Ok None) (Ok None) front is = absurd cc
second_back (Ok None) (Ok (Some g)) front is = (ap (λ (f : Front). Ok (Some f)) (some_is g front Log1 is), tt)
second_back (Ok (Some f)) (Err at) front is = absurd cc
second_back (Ok (Some f)) (Ok None) front is = absurd (log0_log1 (ap area_out is))
second_back (Ok (Some f)) (Ok (Some g)) front is =
    let picks = picks_second f g front (nat_lt f.head.epoch g.head.epoch) refl is in
    let test = picks.1 in
    let same : g.head.epoch ≡ front.head.epoch = ap (λ (f : Front). f.head.epoch) picks.0 in
    let less : f.head.epoch < g.head.epoch = grind (arith, nat_tests) in
    (ap (λ (f : Front). Ok (Some f)) picks.0, omega (arith, less, same))

never_pages : (a b : At) (front : Front) → picked a b ≡ Ok (Some (Pages, front)) → ⊥
never_pages (Err at) b front is = absurd cc
never_pages (Ok None) (Err at) front is = absurd cc
never_pages (Ok None) (Ok None) front is = absurd cc
never_pages (Ok None) (Ok (Some g)) front is = let area : ◌≡◌ {A = Area} Log1 Pages = ap area_out is in absurd cc
never_pages (Ok (Some f)) (Err at) front is = absurd cc
never_pages (Ok (Some f)) (Ok None) front is = let area : ◌≡◌ {A = Area} Log0 Pages = ap area_out is in absurd cc
never_pages (Ok (Some f)) (Ok (Some g)) front is = here (nat_lt f.head.epoch g.head.epoch) is
  where
    here : (t : Bool) → ◌≡◌ {A = Choice} (if t then Ok (Some (Log1, g)) else Ok (Some (Log0, f))) (Ok (Some (Pages, front))) → ⊥
    here true is = let area : ◌≡◌ {A = Area} Log1 Pages = ap area_out is in absurd cc
    here false is = let area : ◌≡◌ {A = Area} Log0 Pages = ap area_out is in absurd cc

-- the area that counts, and the other one
counted : (area : Area) (image : Image) (front : Front) → chosen image ≡ Ok (Some (area, front))
    → (area ≡ area_of front.head.epoch) × (front_at (parity_of area) (image area) ≡ Ok (Some front))
    × IsBelow front.head.epoch (front_at (parity_of (other_log area)) (image (other_log area)))
counted Pages image front is = absurd (never_pages (front_at 1 (image Log0)) (front_at 0 (image Log1)) front is)
counted Log0 image front is =
    let back = first_back (front_at 1 (image Log0)) (front_at 0 (image Log1)) front
    (λ f g here there same. absurd (omega (arith, (front_says 1 (image Log0) f here).1, (front_says 0 (image Log1) g there).1, same))) is in
    let odd = (front_says 1 (image Log0) front back.0).1 in
    (sym (ap (λ (r : ℕ). if r == 1 then Log0 else Log1) odd), back.0, back.1)
counted Log1 image front is =
    let back = second_back (front_at 1 (image Log0)) (front_at 0 (image Log1)) front is in
    let even = (front_says 0 (image Log1) front back.0).1 in
    (sym (ap (λ (r : ℕ). if r == 1 then Log0 else Log1) even), back.0, back.1)

-- ---- logs that were read

pub read_stands : (disk : Disk) (epoch : Epoch) → IsDurable epoch.area disk → IsDurable (other_log epoch.area) disk → 40 ≤ length (disk.seen (other_log epoch.area))
    → ReadsAs disk.seen (Ok (Some epoch)) → epoch.bad ≡ None → epoch.end < length (disk.seen epoch.area) → epoch.used ≤ 268435456
    → IsStanding (alone (at_end epoch.area epoch.end epoch.used)) disk (held_of disk.seen epoch)
read_stands disk epoch durable other_durable long reads fine within fits =
    let area = epoch.area in
    let seen = disk.seen area in
    let front : Front = record { head = epoch.head; bad = None } in
    let where_is = counted area disk.seen front reads.0 in
    let n = images_end epoch.head in
    let base = take n seen in
    let log : IsLog seen n epoch.events epoch.end epoch.used None =
    subst (λ (bad : Option ℕ). IsLog seen n epoch.events epoch.end epoch.used bad) fine reads.1.log in
    let reach : n ≤ epoch.end = (ends_well seen log.last epoch.end epoch.used log.batches n 0 log.are).2 in
    let size : length base ≡ n = length-take-le n seen (omega (arith, reach, within)) in
    let whole : 40 ≤ length base = omega (arith, size) in
    let same : take 40 base ≡ take 40 seen = take-take 40 n seen (omega (arith, size, whole)) in
    let here : front_at (parity_of area) base ≡ Ok (Some front) =
    sym (front_same (parity_of area) base whole) ∙ ap (λ (l : List ℕ). front_at (parity_of area) l) same
    ∙ front_same (parity_of area) seen (omega (arith, whole, size, reach, within)) ∙ where_is.1 in
    let says = (front_says (parity_of area) base front here).0 in
    let named : front_at (parity_of (area_of epoch.head.epoch)) base ≡ Ok (Some (record { head = head_in base; bad = None })) =
    subst (λ (a : Area). front_at (parity_of a) base ≡ Ok (Some (record { head = head_in base; bad = None }))) where_is.0
    (here ∙ ap (λ (h : Head). Ok (Some (record { head = h; bad = None }))) says) in
    let going = read_going disk area base epoch.events epoch.end epoch.used durable (ap (λ (k : ℕ). take k seen) size)
    (subst (λ (k : ℕ). IsLog seen k epoch.events epoch.end epoch.used None) (sym size) log) within fits in record {
      area = where_is.0;
      next = refl;
      named = record { whole = whole; front = named; number = ap (λ (h : Head). h.epoch) (sym says) };
      going = going;
      beside = subst (λ (a : Area). (bytes : List ℕ) → disk.leaves (other_log a) bytes → IsAside (parity_of (other_log a)) epoch.head.epoch bytes) where_is.0 (λ bytes left.
          subst (λ (b : List ℕ). IsAside (parity_of (other_log area)) epoch.head.epoch b) (sym (other_durable bytes left)) (record { whole = long; below = where_is.2 }));
    }
