-- Walks along chains, step by step.
use Rattle.std.proofs.Common.{◌≡◌, ℕ, Bool, List, [], ◌∷◌, ◌++◌, map, Option, Some, None, refl, sym, ap, subst, ◌∙◌, append_assoc, append-nil}
use Rattle.std.proofs.lemmas.List.{map-append}
use Rattle.vec_history.specs.declared.event.Act.{Act}
use Rattle.ivf_graph.specs.Answer.{Found, found_by}
use Rattle.ivf_graph.specs.Looks.Look.{AtRows}
use Rattle.ivf_graph.specs.Looks.Answer.{OfRows}
use Rattle.vec_steps.specs.declared.seen.RowSeen.{RowSeen}
use Rattle.vec_steps.specs.Telling.{row_told}
use Rattle.vec_steps.specs.Index.{Index}
use Rattle.vec_steps.specs.Desks.{Desk}
use Rattle.ivf_ops.specs.declared.met.Met.{Met}
use Rattle.ivf_ops.specs.Nearness.{found_of, met_of}
use Rattle.ivf_ops.specs.Walking.{WalksOn, WalksViews}
use Rattle.ivf_ops.specs.Walking.WalksViews.{reads, begins}
use Rattle.ivf_ops.specs.Viewing.{MadeViews, View}
use Rattle.ivf_ops.proofs.Views.{views_none, views_over, views_then}

rows_met : (query : List Bool) (block : ℕ) (rows : List RowSeen) → map (found_by query block) (map row_told rows) ≡ map found_of (map (met_of query block) rows)
rows_met query block [] = refl
rows_met query block (r ∷ rows) = ap (λ (l : List Found). found_of (met_of query block r) ∷ l) (rows_met query block rows)

pub walk_none : {over : Index → Type 0} {d : Desk} (acts : List Act) (trace : List ℕ) (query : List Bool) (at : Option ℕ) (had have : List Met) → have ≡ had
    → WalksOn over d acts acts trace trace query at [] at had have
walk_none acts trace query at had have same = record {
  views = [];
  got = [];
  made = views_none acts trace;
  have_is = same ∙ sym (append-nil had);
  walks = λ more others fs w. w;
}

-- one block
pub walk_block : {over : Index → Type 0} {d : Desk} {old new : List Act} {before now : List ℕ} (query : List Bool) (block : ℕ) (rows : List RowSeen)
    (next : Option ℕ) (had have : List Met) → MadeViews over d old new before now ((AtRows block, OfRows (map row_told rows) next) ∷ [])
    → have ≡ had ++ map (met_of query block) rows → WalksOn over d old new before now query (Some block) [] next had have
walk_block query block rows next had have m is = record {
  views = (AtRows block, OfRows (map row_told rows) next) ∷ [];
  got = map (met_of query block) rows;
  made = m;
  have_is = is;
  walks = λ more others fs w.
      subst (λ (l : List Found). WalksViews query ((AtRows block, OfRows (map row_told rows) next) ∷ more) (Some block) others (l ++ fs))
      (rows_met query block rows) (reads block (map row_told rows) next more others fs w);
}

-- two walks after each other
pub walk_then : {over later : Index → Type 0} {d e : Desk} {old mid new : List Act} {before then now : List ℕ} {query : List Bool} {at mid_at left : Option ℕ}
    {firsts more_firsts : List ℕ} {had half have : List Met} → e ≡ d → ((base : Index) → over base → later base)
    → WalksOn over d old mid before then query at firsts mid_at had half → WalksOn later e mid new then now query mid_at more_firsts left half have
    → WalksOn over d old new before now query at (firsts ++ more_firsts) left had have
walk_then {query = query} {at} {mid_at} {left} {firsts} {more_firsts} {had} {half} {have} same on a b = record {
  views = a.views ++ b.views;
  got = a.got ++ b.got;
  made = views_then same on a.made b.made;
  have_is = b.have_is ∙ ap (λ (l : List Met). l ++ b.got) a.have_is ∙ append_assoc had a.got b.got;
  walks = λ more others fs w.
      let inner = a.walks (b.views ++ more) (more_firsts ++ others) (map found_of b.got ++ fs) (b.walks more others fs w) in
      let same_views : a.views ++ (b.views ++ more) ≡ (a.views ++ b.views) ++ more = sym (append_assoc a.views b.views more) in
      let same_firsts : firsts ++ (more_firsts ++ others) ≡ (firsts ++ more_firsts) ++ others = sym (append_assoc firsts more_firsts others) in
      let same_found : map found_of a.got ++ (map found_of b.got ++ fs) ≡ map found_of (a.got ++ b.got) ++ fs =
      sym (ap (λ (l : List Found). l ++ fs) (map-append found_of a.got b.got) ∙ append_assoc (map found_of a.got) (map found_of b.got) fs) in
      subst (λ (l : List View). WalksViews query l at ((firsts ++ more_firsts) ++ others) (map found_of (a.got ++ b.got) ++ fs)) same_views
      (subst (λ (l : List ℕ). WalksViews query (a.views ++ (b.views ++ more)) at l (map found_of (a.got ++ b.got) ++ fs)) same_firsts
      (subst (λ (l : List Found). WalksViews query (a.views ++ (b.views ++ more)) at (firsts ++ (more_firsts ++ others)) l) same_found inner));
}

-- the walk along a chain, as one that begins there
pub walk_begins : {over : Index → Type 0} {d : Desk} {old new : List Act} {before now : List ℕ} {query : List Bool} {left : Option ℕ} {had have : List Met}
    (first : ℕ) → WalksOn over d old new before now query (Some first) [] left had have → WalksOn over d old new before now query None (first ∷ []) left had have
walk_begins {query = query} first a = record {
  views = a.views;
  got = a.got;
  made = a.made;
  have_is = a.have_is;
  walks = λ more others fs w. begins (a.views ++ more) first others (map found_of a.got ++ fs) (a.walks more others fs w);
}

pub walk_over : {more fewer : Index → Type 0} {d : Desk} {old new : List Act} {before now : List ℕ} {query : List Bool} {at left : Option ℕ} {firsts : List ℕ}
    {had have : List Met} → ((base : Index) → fewer base → more base) → WalksOn more d old new before now query at firsts left had have
    → WalksOn fewer d old new before now query at firsts left had have
walk_over on a = record { views = a.views; got = a.got; made = views_over on a.made; have_is = a.have_is; walks = a.walks }
