use Rattle.std.proofs.Common.{List, refl, sym, ap, ◌∙◌}
use Rattle.std.specs.Prelude.{flat_map}
use Rattle.vec_names.specs.declared.tid.Tid.{Tid}
use Rattle.graph_pages.specs.Standing.{times_in}
use Rattle.graph_pages.specs.Decoding.{naming, pointer_of}
use Rattle.graph_pages.proofs.DecodedItems.{pointers_told}
use Rattle.graph_pages.proofs.Broken.{keeps, first_other}
use Rattle.graph_pages.proofs.standing.graph_of.Goals as goal

pub first_broken-requires-clause-named : goal.first_broken-requires-clause-named
first_broken-requires-clause-named c = λ at.
    let p = c.in-Some.meta.params in
    let same = ap (flat_map (flat_map pointer_of)) c.in_ok-items.ensures ∙ pointers_told p c.args.pages.now in
    c.in_ok-named.ensures at ∙ ap (λ (places : List Tid). naming (times_in at places)) same

pub returns-in-Some-first_broken : goal.returns-in-Some-first_broken
returns-in-Some-first_broken c =
    let first = c.in-Some-first_broken.ensures in
    first_other c.args.pages.now c.in-Some.meta c.in-Some.ensures.told (sym c.is_root.ensures ∙ c.if-not-is_root.false) c.in-Some-first_broken.block first.0 first.1 first.2

pub returns : goal.returns
returns c = record {
  whole = λ block. keeps c.args.pages.now c.in-Some.meta c.in-Some.ensures.told (sym c.is_root.ensures ∙ c.if-not-is_root.false) block (λ low. c.in_default-first_broken.ensures block low);
  meta = c.in-Some.meta;
  read = sym c.in-Some.ensures.told;
  params = refl;
  entry = refl;
  level = refl;
  hint = refl;
  blocks = refl;
  nodes = c.in_ok-nodes.ensures;
}
