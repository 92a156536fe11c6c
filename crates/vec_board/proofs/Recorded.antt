-- What the record of one act more comes to.
use Rattle.std.proofs.Common.{◌≡◌, ◌≤◌, ◌+◌, ◌==◌, ℕ, Bool, true, false, cond, List, [], ◌∷◌, ◌++◌, length, drop, sum_by, Option, Some, None, refl, sym, ap, ◌∙◌, arith, inl, inr, zero-add}
use Rattle.std.proofs.lemmas.List.{drop-append-le}
use Rattle.std.proofs.lemmas.List.Sums.{sum_by-append}
use Rattle.vec_event.specs.Spelling.{spelling}
use Rattle.vec_history.specs.declared.event.Event.{Event}
use Rattle.vec_history.specs.declared.event.Event.TheVariants as event
use Rattle.vec_history.specs.declared.event.Act.{Act}
use Rattle.vec_history.specs.Settling.{is_lasting}
use Rattle.page_log.specs.declared.log.Log.{Log}
use Rattle.page_log.specs.declared.pending.Pending.{Pending}
use Rattle.page_log.specs.Going.{Newer, Unsettled}
use Rattle.page_log.specs.Parts.{newer_of, unsettled, with_back, with_event}
use Rattle.vec_steps.specs.Desks.{Room, taken_by, used_after}
use Rattle.vec_board.specs.declared.board_core.Core.{Core}
use Rattle.vec_board.specs.declared.summary.Summary.{Summary}
use Rattle.vec_board.specs.Keeping.{one_if_ends}
use Rattle.vec_board.specs.Ready.{HasOwnRoom}
use Rattle.vec_board.specs.Summaries.{summary_after}
use Rattle.vec_board.specs.Acting.{IsLogReady, log_after}
use Rattle.vec_board.proofs.Fitting.{spent_one}

-- ---- what is used of the log

pub used_more : (room : Room) (acts : List Act) (a : Act) → room.since ≤ length acts
    → used_after room (acts ++ a ∷ []) ≡ used_after room acts + taken_by a.event
used_more room acts a within =
    let f : Act → ℕ = λ x. taken_by x.event in
    let more : sum_by f (drop room.since (acts ++ a ∷ [])) ≡ sum_by f (drop room.since acts) + sum_by f (a ∷ []) =
    ap (sum_by f) (drop-append-le room.since acts (a ∷ []) within) ∙ sum_by-append f (drop room.since acts) (a ∷ []) in
    let one : sum_by f (a ∷ []) ≡ f a = zero-add (f a) in
    omega (arith, more, one)

newer_is : (log : Log) → (unsettled log).newer ≡ newer_of log
newer_is log = by log.back where
  by : (o : Option Pending) → (with_back log o).newer ≡ newer_of log
  by None = refl
  by (Some pending) = refl

used_by : (u : Unsettled) (e : Event) → (log_after u e).newer.used ≡ u.newer.used + taken_by e
used_by u e = by (is_lasting e) where
  by : (b : Bool) → (cond b (with_event u e) u).newer.used ≡ u.newer.used + cond b (length (spelling e) + 5) 0
  by true = refl
  by false = omega arith

pub log_used : (old new : Log) (e : Event) → unsettled new ≡ log_after (unsettled old) e
    → (newer_of new).used ≡ (newer_of old).used + taken_by e
log_used old new e made =
    ap (λ (n : Newer). n.used) (sym (newer_is new)) ∙ ap (λ (u : Unsettled). u.newer.used) made ∙ used_by (unsettled old) e
    ∙ ap (λ (n : Newer). n.used + taken_by e) (newer_is old)

-- ---- the spare of the log

pub spare_left : (e : Event) (all left before after : ℕ) → left ≤ all → all ≤ before → (is_lasting e ≡ true → left + 1 ≤ before)
    → before ≤ after + cond (is_lasting e) 1 0 → left ≤ after
spare_left e all left before after less had ready goes = by (is_lasting e) ready goes where
  by : (b : Bool) → (b ≡ true → left + 1 ≤ before) → before ≤ after + cond b 1 0 → left ≤ after
  by true one go = let k = one refl in omega (arith, k, go)
  by false one go = omega (arith, less, had, go)

-- ---- doomed nodes

pub doomed_more : (s : Summary) (e : Event) (left : ℕ) → (summary_after s e left).doomed ≤ s.doomed + 1
doomed_more s (event.Drop at version gone) left = by (left == 0) where
  by : (b : Bool) → s.doomed + cond b 1 0 ≤ s.doomed + 1
  by true = omega arith
  by false = omega arith
doomed_more s (event.Mark at list_at version) left = omega arith
doomed_more s _ left = omega arith

-- ---- room of its own

ends_pass : (e : Event) → one_if_ends e ≡ 1 → is_lasting e ≡ true → ⊥
ends_pass (event.Ungate gate) ends lasts = cc
ends_pass event.VacuumEnd ends lasts = cc
ends_pass (event.Cancel stage) ends lasts = cc
ends_pass _ ends lasts = cc

pub log_by : (core : Core) (desk : ℕ) (e : Event) → HasOwnRoom core.history desk e → IsLogReady core desk e
log_by core desk e (inl ends) = λ lasts. absurd (ends_pass e ends lasts)
log_by core desk e (inr has) = λ lasts.
    let one = spent_one core.history.rooms.rooms.items desk has in
    let had = core.spare in
    omega (arith, one, had)
