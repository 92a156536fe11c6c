-- A core with the same acts, or with a passing one more, over the same index.
use Rattle.std.proofs.Common.{◌≡◌, ℕ, false, List, [], ◌∷◌, ◌++◌, refl, sym, ap, subst, ◌∙◌}
use Rattle.vec_names.specs.declared.params.Params.{Params}
use Rattle.vec_history.specs.declared.event.Event.{Event}
use Rattle.vec_history.specs.declared.event.Event.TheVariants as event
use Rattle.vec_history.specs.declared.event.Act.{Act}
use Rattle.vec_history.specs.Acts.{act_of}
use Rattle.vec_history.specs.Settling.{is_lasting}
use Rattle.history_tables.specs.Telling.{Tells}
use Rattle.page_bytes.specs.Content.{Content}
use Rattle.vec_steps.specs.Index.{Index, IsLegal, IsOfParams}
use Rattle.index_pages.specs.Standing.{AreOf, index_after}
use Rattle.index_pages.proofs.Next.{passing}
use Rattle.vec_board.specs.declared.board_core.Core.{Core}
use Rattle.vec_board.specs.declared.summary.Summary.{Summary}
use Rattle.vec_board.specs.Summaries.{Summarizes, summary_after}
use Rattle.vec_board.specs.Standing.{StandsOn, acts_of}
use Rattle.vec_board.specs.Acting.{IsMade}
use Rattle.vec_board.specs.Serving.{IsReserved}

-- it stands on the same bases
pub stands_as : (old new : Core) → acts_of new ≡ acts_of old → ((acts : List Act) → Tells old.history.tables acts → Tells new.history.tables acts)
    → new.summary ≡ old.summary → new.params ≡ old.params → (all : List Content) (base : Index) → StandsOn old all base → StandsOn new all base
stands_as old new acts tells summary params all base s = record {
  shaped = s.shaped;
  of_params = subst (λ (p : Params). IsOfParams p base) (sym params) s.of_params;
  legal = subst (IsLegal base) (sym acts) s.legal;
  told = subst (λ (l : List Act). Tells new.history.tables l) (sym acts) (tells (acts_of old) s.told);
  pages = subst (λ (p : Params). AreOf p all (index_after base (acts_of new))) (sym params)
      (subst (λ (l : List Act). AreOf old.params all (index_after base l)) (sym acts) s.pages);
  blocks = ap (λ (x : Summary). x.blocks) summary ∙ s.blocks;
  summary = subst (λ (x : Summary). Summarizes x (index_after base (acts_of new))) (sym summary)
      (subst (λ (l : List Act). Summarizes old.summary (index_after base l)) (sym acts) s.summary);
}

pub reserved_stands : (old new : Core) (desk count : ℕ) → IsReserved old new desk count → (all : List Content) (base : Index) → StandsOn old all base → StandsOn new all base
reserved_stands old new desk count same all base s = stands_as old new same.acts same.tells same.summary same.params all base s

-- ---- a passing act more

-- it stands on the bases over which the act is legal
pub stands_more : (old new : Core) (desk : ℕ) (e : Event) → is_lasting e ≡ false → acts_of new ≡ acts_of old ++ act_of desk e ∷ []
    → (Tells old.history.tables (acts_of old) → Tells new.history.tables (acts_of new)) → new.summary ≡ old.summary → new.params ≡ old.params
    → (all : List Content) (base : Index) → StandsOn old all base → IsLegal base (acts_of old ++ act_of desk e ∷ []) → StandsOn new all base
stands_more old new desk e passes acts tells summary params all base s legal =
    let same : index_after base (acts_of new) ≡ index_after base (acts_of old) = ap (index_after base) acts ∙ passing base (acts_of old) desk e passes in
    record {
      shaped = s.shaped;
      of_params = subst (λ (p : Params). IsOfParams p base) (sym params) s.of_params;
      legal = subst (IsLegal base) (sym acts) legal;
      told = tells s.told;
      pages = subst (λ (p : Params). AreOf p all (index_after base (acts_of new))) (sym params)
          (subst (λ (i : Index). AreOf old.params all i) (sym same) s.pages);
      blocks = ap (λ (x : Summary). x.blocks) summary ∙ s.blocks;
      summary = subst (λ (x : Summary). Summarizes x (index_after base (acts_of new))) (sym summary)
          (subst (λ (i : Index). Summarizes old.summary i) (sym same) s.summary);
    }

-- a passing event leaves the summary
pub summary_still : (s : Summary) (e : Event) (left : ℕ) → is_lasting e ≡ false → summary_after s e left ≡ s
summary_still s (event.Gate gate hold) left passes = refl
summary_still s (event.Ungate gate) left passes = refl
summary_still s (event.Phase stage) left passes = refl
summary_still s event.VacuumEnd left passes = refl
summary_still s (event.Cancel stage) left passes = refl
summary_still s (event.Settled upto) left passes = refl
summary_still s (event.DiskFaulted count) left passes = refl
summary_still s _ left passes = absurd cc

pub passed_stands : (old new : Core) (desk : ℕ) (e : Event) (left : ℕ) → is_lasting e ≡ false → IsMade old new desk e left
    → (all : List Content) (base : Index) → StandsOn old all base → IsLegal base (acts_of old ++ act_of desk e ∷ []) → StandsOn new all base
passed_stands old new desk e left passes made all base s legal =
    stands_more old new desk e passes made.acts made.tells (made.summary ∙ summary_still old.summary e left passes) made.params all base s legal
