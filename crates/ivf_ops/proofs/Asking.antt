-- Looks at centres: what they ask, and what they tell.
use Rattle.std.proofs.Common.{◌≡◌, ◌≤◌, ℕ, ◌+◌, true, List, [], ◌∷◌, ◌++◌, map, length, Some, refl, sym, ap, subst, ◌∙◌, append_assoc, append-nil, arith, nat_le}
use Rattle.std.specs.Prelude.{◌&&◌, Bool}
use Rattle.std.proofs.lemmas.Bool.Decides.{nat_tests}
use Rattle.std.proofs.lemmas.List.{length-append, map-append}
use Rattle.vec_names.specs.declared.params.Params.{Params}
use Rattle.vec_names.specs.declared.params.Kind.TheVariants.{Hnsw, Ivf}
use Rattle.vec_history.specs.declared.event.Act.{Act}
use Rattle.ivf_graph.specs.Effect.{after}
use Rattle.ivf_graph.specs.Looks.{centre_pages}
use Rattle.ivf_graph.specs.Looks.Look.{AtCentres}
use Rattle.ivf_graph.specs.Looks.Answer.{OfCentres}
use Rattle.ivf_graph.proofs.ReadsAtOne.{as_many_lists}
use Rattle.vec_steps.specs.declared.ask.Ask.{Ask}
use Rattle.vec_steps.specs.declared.ask.Ask.TheVariants as ask
use Rattle.vec_steps.specs.declared.told.Told.{Told}
use Rattle.vec_steps.specs.declared.seen.Centre.{Centre}
use Rattle.vec_steps.specs.declared.fault.StepFault.TheVariants as fault
use Rattle.vec_steps.specs.Index.{Index, OfNodes, OfLists, IsOfParams}
use Rattle.vec_steps.specs.Doing.{viewed}
use Rattle.vec_steps.specs.Telling.{centre_told}
use Rattle.vec_steps.specs.Desks.{Asks, Desk}
use Rattle.vec_steps.specs.Calls.{Stepped}
use Rattle.vec_steps.proofs.Following.{one_step}
use Rattle.ivf_ops.specs.declared.near.Near.{Near}
use Rattle.ivf_ops.specs.Nearness.{near_of}
use Rattle.ivf_ops.specs.Scanning.{ReadsCentres, all_told, page_views}
use Rattle.ivf_ops.specs.Viewing.{MadeViews, View}
use Rattle.ivf_ops.proofs.Views.{IsAskOfLook, no_event, views_none, views_then}

-- ---- one look

not_nodes : (p : Params) → p.kind ≡ Ivf → p.kind ≡ Hnsw → ⊥
not_nodes p a b = let same : Ivf ≡ Hnsw = sym a ∙ b in absurd cc

between : (b n : ℕ) → 1 ≤ b → b ≤ n → (nat_le 1 b && nat_le b n) ≡ true
between b n low high = grind (arith, nat_tests)

pub centres_ask : {stands : Index → Type 0} {d : Desk} {acts : List Act} (block : ℕ) → d.params.kind ≡ Ivf → 1 ≤ block
    → block ≤ centre_pages d.params.bits d.params.lists → (base : Index) → IsOfParams d.params base → stands base
    → Asks stands d acts (ask.Centres block) base
centres_ask {d = d} block of_lists low high (OfNodes g) of_params s = absurd (not_nodes d.params of_lists of_params.has.0)
centres_ask {d = d} {acts} block of_lists low high (OfLists g) of_params s = record {
  stood = s;
  may = between block (centre_pages d.params.bits (length (after g acts).lists)) low
      (subst (λ n. block ≤ centre_pages d.params.bits n) (sym (as_many_lists g acts ∙ of_params.has.1)) high);
}

pub centres_looked : {stands : Index → Type 0} {d : Desk} {old new : List Act} {before now : List ℕ} {left : Ask} {told : Told} (block : ℕ)
    → ((base : Index) → stands base → Asks stands d old (ask.Centres block) base)
    → Stepped (Asks stands d old (ask.Centres block)) d old new (ask.Centres block) left told → now ≡ before ++ told.at ∷ []
    → MadeViews stands d old new before now ((AtCentres block, OfCentres (map centre_told told.centres)) ∷ [])
centres_looked {told = told} block may s traced = record {
  course = (told.at, viewed (AtCentres block) (Some (OfCentres (map centre_told told.centres)))) ∷ [];
  does = one_step may s;
  is = record { are = (refl, tt); traced = traced };
}

pub of_centres : (block : ℕ) → IsAskOfLook (ask.Centres block)
of_centres block d base acts fault.Memory cause h = h
of_centres block d base acts (fault.Disk count) cause h = h
of_centres block d base acts (fault.LogFull used size) cause h =
    no_event d (AtCentres block) (OfCentres (map centre_told cause.told.centres)) cause.step cause.event cause.would cause.makes

-- ---- block by block

views_more : (b at : ℕ) (ps : List (List Centre)) (cs : List Centre) → at ≡ b + length ps
    → page_views b (ps ++ cs ∷ []) ≡ page_views b ps ++ (AtCentres at, OfCentres (map centre_told cs)) ∷ []
views_more b at [] cs is = let here : b ≡ at = omega (arith, is) in ap (λ n. (AtCentres n, OfCentres (map centre_told cs)) ∷ []) here
views_more b at (p ∷ ps) cs is =
    ap (λ (l : List View). (AtCentres b, OfCentres (map centre_told p)) ∷ l) (views_more (b + 1) at ps cs (omega (arith, is)))

told_more : (ps : List (List Centre)) (cs : List Centre) → all_told (ps ++ cs ∷ []) ≡ all_told ps ++ cs
told_more [] cs = append-nil cs
told_more (p ∷ ps) cs = ap (λ (l : List Centre). p ++ l) (told_more ps cs) ∙ sym (append_assoc p (all_told ps) cs)

pub centres_none : {over : Index → Type 0} {d : Desk} (acts : List Act) (trace : List ℕ) (query : List Bool) (nears : List Near) → nears ≡ []
    → ReadsCentres over d acts acts trace trace query 0 nears
centres_none acts trace query nears none = record { pages = []; count_is = refl; made = views_none acts trace; nears_are = none }

pub centres_more : {over later : Index → Type 0} {d e : Desk} {old mid new : List Act} {before then now : List ℕ} (query : List Bool) (k : ℕ)
    (had have : List Near) (cs : List Centre) → e ≡ d → ((base : Index) → over base → later base)
    → ReadsCentres over d old mid before then query k had
    → MadeViews later e mid new then now ((AtCentres (k + 1), OfCentres (map centre_told cs)) ∷ [])
    → have ≡ had ++ map (near_of query) cs → ReadsCentres over d old new before now query (k + 1) have
centres_more {over} {d = d} {old} {new = new} {before} {now = now} query k had have cs same on r m is = record {
  pages = r.pages ++ cs ∷ [];
  count_is = length-append r.pages (cs ∷ []) ∙ ap (λ n. n + 1) r.count_is;
  made = subst (MadeViews over d old new before now) (sym (views_more 1 (k + 1) r.pages cs (omega (arith, r.count_is)))) (views_then same on r.made m);
  nears_are = is ∙ ap (λ l. l ++ map (near_of query) cs) r.nears_are ∙ sym (map-append (near_of query) (all_told r.pages) cs)
      ∙ ap (map (near_of query)) (sym (told_more r.pages cs));
}
