use Rattle.std.proofs.Common.{◌≡◌, ◌≤◌, List, length, sym, subst, ◌∙◌}
use Rattle.index_sizes.specs.declared.limits.TheConstants.{MOST_BLOCKS}
use Rattle.page_bytes.specs.Content.{Content}
use Rattle.graph_pages.specs.Standing.{Stands}
use Rattle.ivf_pages.specs.Standing.{Stands as StandsForLists}
use Rattle.vec_steps.specs.Index.{OfNodes, OfLists}
use Rattle.vec_board.proofs.LoadedWhole.{nodes_known, lists_known, whole_loaded, same_whole}
use Rattle.vec_board.proofs.board.Board.from_loaded.Goals as goal

pub returns-clause-nodes : goal.returns-clause-nodes
returns-clause-nodes g c = λ graph stands.
    let read = c.deref.result.now in
    let faults = g.D.Disks.count c.from_core.result.disks in
    let few : length read ≤ MOST_BLOCKS = subst (λ (l : List Content). length l ≤ MOST_BLOCKS) (sym c.deref.ensures.value) c.requires.goes.few in
    let known = nodes_known read c.known_of.result.0 c.known_of.result.1 few c.known_of.ensures.pages c.known_of.ensures.meta c.known_of.ensures.doomed graph
    (subst (λ (l : List Content). Stands l graph) (sym c.deref.ensures.value) stands) in
    let now : c.from_core.result.pages.pages.items ≡ c.args.loaded.pages.items = (let is = c.from_core.ensures.pages in cc) in
    same_whole c.from_core.result.core c.over-core.result c.from_core.result.pages.pages.items read faults (OfNodes graph) c.from_core.ensures.core
    (now ∙ sym c.deref.ensures.value) (whole_loaded c.over-core.result read faults (OfNodes graph) c.over-core.ensures.acts
    (c.over-core.ensures.stands read (OfNodes graph) known.shaped known.of_params known.are_of c.known_of.ensures.as_many known.summary))

pub returns-clause-lists : goal.returns-clause-lists
returns-clause-lists g c = λ p lists stands.
    let read = c.deref.result.now in
    let faults = g.D.Disks.count c.from_core.result.disks in
    let few : length read ≤ MOST_BLOCKS = subst (λ (l : List Content). length l ≤ MOST_BLOCKS) (sym c.deref.ensures.value) c.requires.goes.few in
    let known = lists_known read c.known_of.result.0 c.known_of.result.1 few c.known_of.ensures.pages c.known_of.ensures.meta p lists
    (subst (λ (l : List Content). StandsForLists p l lists) (sym c.deref.ensures.value) stands) in
    let now : c.from_core.result.pages.pages.items ≡ c.args.loaded.pages.items = (let is = c.from_core.ensures.pages in cc) in
    same_whole c.from_core.result.core c.over-core.result c.from_core.result.pages.pages.items read faults (OfLists lists) c.from_core.ensures.core
    (now ∙ sym c.deref.ensures.value) (whole_loaded c.over-core.result read faults (OfLists lists) c.over-core.ensures.acts
    (c.over-core.ensures.stands read (OfLists lists) known.shaped known.of_params known.are_of c.known_of.ensures.as_many known.summary))
