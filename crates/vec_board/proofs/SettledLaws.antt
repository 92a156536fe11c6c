-- What is noted of settling, the rules allow; and the core stands on its bases after it.
use Rattle.std.proofs.Common.{◌≡◌, ◌≤◌, ◌<◌, ◌+◌, ℕ, false, cond, List, [], ◌∷◌, ◌++◌, take, drop, sum_by, refl, ap, arith, inl, inr}
use Rattle.std.proofs.lemmas.List.{take-append-drop}
use Rattle.std.proofs.lemmas.List.Sums.{sum_by-append}
use Rattle.vec_history.specs.declared.event.Event.{Event}
use Rattle.vec_history.specs.declared.event.Event.TheVariants as event
use Rattle.vec_history.specs.declared.event.Act.{Act}
use Rattle.vec_history.specs.Acts.{act_of, IsActAt}
use Rattle.vec_history.specs.Settling.{is_lasting, lasting_events, IsSettledAllowed, IsFaultAllowed}
use Rattle.vec_history.proofs.ByActs.{allowed_at, more}
use Rattle.vec_history.proofs.OneMore.{in_one_more}
use Rattle.vec_graph.specs.Legal as nodes_history
use Rattle.ivf_graph.specs.Legal as lists_history
use Rattle.page_bytes.specs.Content.{Content}
use Rattle.vec_steps.specs.Index.{Index, OfNodes, OfLists, IsLegal}
use Rattle.vec_board.specs.declared.board_core.Core.{Core}
use Rattle.vec_board.specs.Standing.{StandsOn, acts_of}
use Rattle.vec_board.proofs.SameIndex.{stands_as, stands_more}
use Rattle.vec_board.specs.Settling.{IsNoted, IsStill, IsOfSettling, AreFaultsBelow}

-- ---- legality

fewer_before : (acts : List Act) (n : ℕ) → lasting_events (take n acts) ≤ lasting_events acts
fewer_before acts n =
    let f : Act → ℕ = λ b. cond (is_lasting b.event) 1 0 in
    let parts : sum_by f (take n acts ++ drop n acts) ≡ sum_by f (take n acts) + sum_by f (drop n acts) = sum_by-append f (take n acts) (drop n acts) in
    let whole : sum_by f (take n acts ++ drop n acts) ≡ sum_by f acts = ap (sum_by f) (take-append-drop n acts) in
    omega (arith, parts, whole)

settled_at : (base : Index) (acts : List Act) → IsLegal base acts → (k desk before : ℕ) → IsActAt acts k desk (event.Settled before)
    → IsSettledAllowed (take k acts) before
settled_at (OfNodes g) acts legal k desk before is = allowed_at (nodes_history.IsAllowed g) acts k (act_of desk (event.Settled before)) legal is
settled_at (OfLists g) acts legal k desk before is = allowed_at (lists_history.IsAllowed g) acts k (act_of desk (event.Settled before)) legal is

all_settled : (base : Index) (acts : List Act) → IsLegal base acts → IsSettledAllowed acts (lasting_events acts)
all_settled base acts legal = record {
  not_more = omega arith;
  not_fewer = λ k desk before is.
      let low = (settled_at base acts legal k desk before is).not_more in
      let high = fewer_before acts k in
      omega (arith, low, high);
}

by_settled : (base : Index) (acts : List Act) (desk upto : ℕ) → IsLegal base acts → IsSettledAllowed acts upto
    → IsLegal base (acts ++ act_of desk (event.Settled upto) ∷ [])
by_settled (OfNodes g) acts desk upto legal may = more (nodes_history.IsAllowed g) acts (act_of desk (event.Settled upto)) legal may
by_settled (OfLists g) acts desk upto legal may = more (lists_history.IsAllowed g) acts (act_of desk (event.Settled upto)) legal may

by_faulted : (base : Index) (acts : List Act) (desk count : ℕ) → IsLegal base acts → IsFaultAllowed acts count
    → IsLegal base (acts ++ act_of desk (event.DiskFaulted count) ∷ [])
by_faulted (OfNodes g) acts desk count legal may = more (nodes_history.IsAllowed g) acts (act_of desk (event.DiskFaulted count)) legal may
by_faulted (OfLists g) acts desk count legal may = more (lists_history.IsAllowed g) acts (act_of desk (event.DiskFaulted count)) legal may

-- all that is lasting may be noted as settled
pub settled_legal : (base : Index) (acts : List Act) (desk : ℕ) → IsLegal base acts → IsLegal base (acts ++ act_of desk (event.Settled (lasting_events acts)) ∷ [])
settled_legal base acts desk legal = by_settled base acts desk (lasting_events acts) legal (all_settled base acts legal)

-- and a count of faults above all that were noted
pub faulted_legal : (base : Index) (acts : List Act) (desk before count : ℕ) → IsLegal base acts → AreFaultsBelow acts before → before < count
    → IsLegal base (acts ++ act_of desk (event.DiskFaulted count) ∷ [])
faulted_legal base acts desk before count legal below high =
    by_faulted base acts desk count legal (λ k other was is. let low = below k other was is in omega (arith, low, high))

-- ---- standing

pub settling_passes : (e : Event) → IsOfSettling e → is_lasting e ≡ false
settling_passes (event.Settled upto) is = refl
settling_passes (event.DiskFaulted count) is = refl
settling_passes _ is = absurd is

pub noted_stands : (old new : Core) (desk : ℕ) (e : Event) → IsNoted old new desk e → IsOfSettling e → (all : List Content) (base : Index)
    → StandsOn old all base → IsLegal base (acts_of old ++ act_of desk e ∷ []) → StandsOn new all base
noted_stands old new desk e noted of_settling all base s legal =
    stands_more old new desk e (settling_passes e of_settling) noted.acts noted.tells noted.summary noted.params all base s legal

pub still_stands : (old new : Core) → IsStill old new → (all : List Content) (base : Index) → StandsOn old all base → StandsOn new all base
still_stands old new same all base s = stands_as old new same.acts same.tells same.summary same.params all base s

-- ---- faults that were noted

-- an act that counts no fault leaves them
pub below_more : (acts : List Act) (desk : ℕ) (e : Event) (count : ℕ) → ((n : ℕ) → e ≡ event.DiskFaulted n → n ≤ count) → AreFaultsBelow acts count
    → AreFaultsBelow (acts ++ act_of desk e ∷ []) count
below_more acts desk e count here below = λ k other before is.
    elim (in_one_more acts (act_of desk e) k (act_of other (event.DiskFaulted before)) is) as (λ _. before ≤ count) [
      | inl there ↦ below k other before there
      | inr last ↦ here before (ap (λ (a : Act). a.event) last.1)
    ]

pub below_later : (acts : List Act) (before now : ℕ) → before ≤ now → AreFaultsBelow acts before → AreFaultsBelow acts now
below_later acts before now later below = λ k desk n is. let low = below k desk n is in omega (arith, low, later)
