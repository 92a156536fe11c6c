-- What pages that stand for lists say to a look at a block of centres is what the lists say.
use Rattle.std.proofs.Common.{◌≡◌, ℕ, zero, suc, ◌+◌, ◌-◌, ◌*◌, ◌/◌, ◌%◌, ◌^◌, ◌<◌, ◌≤◌, min, Bool, true, false, List, [], ◌∷◌, ◌++◌, map, take, drop, length, option_to_list, Option, Some, None, refl, sym, ap, ap₂, subst, ◌∙◌, arith}
use Rattle.std.specs.Prelude.{slice_get, nat_le, if◌then◌else◌, All}
use Rattle.std.specs.List.{enumerate_from}
use Rattle.std.specs.Option.{option_map, option_and_then}
use Rattle.std.proofs.Math.Nat.{mul-le-mul_left}
use Rattle.std.proofs.lemmas.Nat.{div-mul-add, mod-mul-add}
use native.Mathlib.Nat.{div-add-mod'}
use Rattle.std.proofs.lemmas.Bool.{and_parts, leb-true}
use Rattle.std.proofs.lemmas.List.{length-drop}
use Rattle.std.proofs.lemmas.Option.{slice_get_within}
use Rattle.index_sizes.specs.Sizes.{centres_on_page}
use Rattle.vec_names.specs.declared.params.Params.{Params}
use Rattle.vec_names.specs.declared.params.Kind.{Kind}
use Rattle.vec_names.specs.declared.params.Kind.TheVariants.{Ivf}
use Rattle.vec_names.specs.Params.{IsInRange, IsInRangeOf}
use Rattle.page_bytes.specs.Content.{Content, IsPage, item_at}
use Rattle.vec_tuples.specs.declared.centre.CentreTuple.{CentreTuple}
use Rattle.vec_tuples.specs.Reading.{centre}
use Rattle.ivf_graph.specs.declared.list.IvfList.{IvfList}
use Rattle.ivf_graph.specs.declared.graph.IvfGraph.{IvfGraph}
use Rattle.ivf_graph.specs.Looks.{Centre, first_block, centre_of, centre_pages, is_of_centres, centres_of_block, told_of}
use Rattle.ivf_graph.specs.Looks.Look.{AtCentres}
use Rattle.ivf_graph.specs.Looks.Answer.{OfCentres}
use Rattle.page_redo.specs.PageTuples.{in_whole, centre_at}
use Rattle.page_redo.specs.PageChanges.{list_block, list_offset}
use Rattle.page_redo.proofs.Given.{map_is}
use Rattle.ivf_pages.specs.Standing.{lists_end, is_among, centre_in, chain_from, has_aim, part_in, list_with, IsListPage, Stands}
use Rattle.ivf_pages.proofs.Root.{in_range, some_a_page}
use Rattle.ivf_pages.proofs.StandingLaws.{of_kind}
use Rattle.page_sets.specs.Telling.{centre_seen, centre_shown, all_shown, items_on}
use Rattle.page_sets.proofs.RowLooks.{begins}

-- ---- lists by their numbers

drop_numbered : (xs : List IvfList) (n from : ℕ) → drop from (enumerate_from n xs) ≡ enumerate_from (n + from) (drop from xs)
drop_numbered xs n zero = let same : n ≡ n + 0 = omega arith in ap (λ k. enumerate_from k xs) same
drop_numbered [] n (suc from) = refl
drop_numbered (x ∷ xs) n (suc from) =
    let same : n + 1 + from ≡ n + suc from = omega arith in
    drop_numbered xs (n + 1) from ∙ ap (λ k. enumerate_from k (drop from xs)) same

module _ (p : Params) (pages : List Content) where
  -- the tuple is that of this list: its chain has a first block
  pub record IsTupleOf (l : IvfList) (x : List ℕ) : Type 0 where
    pub tuple : CentreTuple
    pub reads : in_whole (centre p x) ≡ Some tuple
    pub is : list_with p pages tuple ≡ l
    pub begun : first_block (map (part_in p pages) (chain_from pages tuple.first)) ≡ Some tuple.first

  one_shown : (number : ℕ) (l : IvfList) (x : List ℕ) → IsTupleOf l x → centre_shown p number x ≡ centre_of (number, l) ∷ []
  one_shown number l x t =
      ap (λ (o : Option CentreTuple). option_to_list (option_map (centre_seen number) o)) t.reads
      ∙ ap (λ (f : Option ℕ). record { list = number; bits = t.tuple.bits; aim = t.tuple.aim; first = f } ∷ []) (sym t.begun)
      ∙ ap (λ (l : IvfList). centre_of (number, l) ∷ []) t.is

  -- as many tuples as the lists that are taken, each that of its list
  centres_are : (xs : List (List ℕ)) (ls : List IvfList) (count number : ℕ) → length xs ≡ min count (length ls)
      → ((j : ℕ) (l : IvfList) (x : List ℕ) → slice_get ls j ≡ Some l → slice_get xs j ≡ Some x → IsTupleOf l x)
      → map centre_of (take count (enumerate_from number ls)) ≡ all_shown (centre_shown p) number xs
  centres_are [] [] zero number long are = refl
  centres_are [] [] (suc count) number long are = refl
  centres_are (x ∷ xs) [] count number long are = absurd (omega (arith, long))
  centres_are [] (l ∷ ls) zero number long are = refl
  centres_are (x ∷ xs) (l ∷ ls) zero number long are = absurd (omega (arith, long))
  centres_are [] (l ∷ ls) (suc count) number long are = absurd (omega (arith, long))
  centres_are (x ∷ xs) (l ∷ ls) (suc count) number long are =
      let rest = centres_are xs ls count (number + 1) (omega (arith, long)) (λ j m y a b. are (suc j) m y a b) in
      ap₂ (λ (a b : List Centre). a ++ b) (sym (one_shown number l x (are 0 l x refl refl))) rest

  begun_at : (first : ℕ) (aim : ℕ) → is_among aim (chain_from pages first) ≡ true → first_block (map (part_in p pages) (chain_from pages first)) ≡ Some first
  begun_at first aim within = by_chain (chain_from pages first) refl
    where
      by_chain : (bs : List ℕ) → chain_from pages first ≡ bs → first_block (map (part_in p pages) (chain_from pages first)) ≡ Some first
      by_chain [] is = let none : false ≡ true = ap (is_among aim) (sym is) ∙ within in absurd cc
      by_chain (b ∷ bs) is =
          ap (λ (l : List ℕ). first_block (map (part_in p pages) l)) is
          ∙ sym (begins p pages (length pages) [] (Some first) b bs is)

quotient_low : (block q r : ℕ) → block ≤ q + min 1 r → block - 1 ≤ q
quotient_low block q r high = omega arith

low_number : (b per q r lists : ℕ) → per * b ≤ per * q → q * per + r ≡ lists → lists ≤ 32768 → b * per < 2 ^ 31
low_number b per q r lists times split few = omega arith

most_lists : (p : Params) → p.kind ≡ Ivf → IsInRange p → p.lists ≤ 32768
most_lists p kind range = let lists = subst (λ (k : Kind). IsInRangeOf k p) kind range.of_kind in omega (arith, lists.lists_high)

module _ (p : Params) (pages : List Content) (g : IvfGraph) (all : All IsPage pages) (s : Stands p pages g) (block : ℕ)
    (of_centres : is_of_centres p.bits g block ≡ true) where
  abbrev per : ℕ
  per = centres_on_page p.bits

  abbrev from : ℕ
  from = (block - 1) * per

  some : 0 < per
  some = some_a_page p (in_range pages p all s.params)

  low : 1 ≤ block
  low = leb-true 1 block (and_parts (nat_le 1 block) (nat_le block (centre_pages p.bits (length g.lists))) of_centres).0

  high : block ≤ lists_end p
  high = subst (λ n. block ≤ centre_pages p.bits n) s.count
      (leb-true block (centre_pages p.bits (length g.lists)) (and_parts (nat_le 1 block) (nat_le block (centre_pages p.bits (length g.lists))) of_centres).1)

  page : IsListPage p pages block
  page = (s.whole block).lists low high

  tuple_here : (j : ℕ) (l : IvfList) (x : List ℕ) → slice_get (drop from g.lists) j ≡ Some l → slice_get page.page.items j ≡ Some x → IsTupleOf p pages l x
  tuple_here j l x list_is item_is =
      let within = slice_get_within page.page.items j x item_is in
      let count : length page.page.items ≡ min per (p.lists - from) = page.count in
      let small : j < per = omega (arith, within, count) in
      let number : ℕ = from + j in
      let is_list : number < p.lists = omega (arith, within, count) in
      let quotient : number / per ≡ block - 1 = div-mul-add (block - 1) per j small in
      let rest : number % per ≡ j = mod-mul-add (block - 1) per j small in
      let on_block : list_block p number ≡ block = omega (arith, quotient, low) in
      let at_off : list_offset p number ≡ suc j = omega (arith, rest) in
      let aim = page.lists number is_list on_block in
      let there : slice_get g.lists number ≡ Some l = sym (dropped from g.lists j) ∙ list_is in
      let t = map_is (list_with p pages) (centre_in p pages number) l (sym (s.lists number is_list) ∙ there) in
      let reads : in_whole (centre p x) ≡ Some t.0 =
      sym (ap (λ o. option_and_then (λ x. in_whole (centre p x)) o) (ap (item_at page.page.items) at_off ∙ item_is))
      ∙ sym (ap (λ o. option_and_then (λ c. centre_at p c (list_offset p number)) o) (ap (slice_get pages) on_block ∙ page.there)) ∙ t.1 in
      record {
        tuple = t.0;
        reads = reads;
        is = t.2;
        begun = begun_at p pages t.0.first t.0.aim (ap (has_aim pages) (sym t.1) ∙ aim);
      }
    where
      dropped : {X : Type 0} (n : ℕ) (xs : List X) (j : ℕ) → slice_get (drop n xs) j ≡ slice_get xs (n + j)
      dropped zero xs j = let same : j ≡ 0 + j = omega arith in ap (slice_get xs) same
      dropped (suc n) [] j = refl
      dropped (suc n) (y ∷ xs) j = let same : suc (n + j) ≡ suc n + j = omega arith in dropped n xs j ∙ ap (slice_get (y ∷ xs)) same

  long : length page.page.items ≡ min per (length (drop from g.lists))
  long = let short = length-drop from g.lists in let count : length page.page.items ≡ min per (p.lists - from) = page.count in omega (arith, short, count, s.count)

  pub from_low : from < 2 ^ 31
  from_low =
      let before : block - 1 ≤ p.lists / per = quotient_low block (p.lists / per) (p.lists % per) high in
      let times : per * (block - 1) ≤ per * (p.lists / per) = mul-le-mul_left per before in
      low_number (block - 1) per (p.lists / per) (p.lists % per) p.lists times (div-add-mod' p.lists per)
      (most_lists p (of_kind p pages g s) (in_range pages p all s.params))

  pub centres_say : (held : Option Content) → held ≡ slice_get pages block
      → Some (OfCentres (all_shown (centre_shown p) from (items_on held))) ≡ told_of p.bits g (AtCentres block)
  centres_say held has =
      let none : 0 + from ≡ from = omega arith in
      let shown : map centre_of (take per (drop from (enumerate_from 0 g.lists))) ≡ all_shown (centre_shown p) from page.page.items =
      ap (λ (l : List (ℕ × IvfList)). map centre_of (take per l)) (drop_numbered g.lists 0 from ∙ ap (λ n. enumerate_from n (drop from g.lists)) none)
      ∙ centres_are p pages page.page.items (drop from g.lists) per from long tuple_here in
      ap (λ (o : Option Content). Some (OfCentres (all_shown (centre_shown p) from (items_on o)))) (has ∙ page.there)
      ∙ sym (ap (λ (l : List Centre). Some (OfCentres l)) shown)
      ∙ sym (ap (λ (b : Bool). if b then Some (OfCentres (centres_of_block p.bits block g)) else None) of_centres)
