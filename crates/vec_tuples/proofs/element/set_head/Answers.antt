use Rattle.std.proofs.Common.{ℕ, List, ◌++◌, ap, ap₂, ◌∙◌}
use Rattle.vec_names.specs.declared.heap_id.HeapId.{HeapId}
use Rattle.vec_tuples.specs.Spelling.{head_bytes, head_with, element_bytes}
use Rattle.vec_tuples.proofs.ElementLaws.{value_behind}
use Rattle.vec_tuples.proofs.element.set_head.Goals as goal

pub returns : goal.returns
unfolding element_bytes
returns c = λ e is.
    let h = c.args.head.now in
    ap₂ (λ (s t : List ℕ). s ++ t) (c.fill_head.ensures ∙ ap (λ (ids : List HeapId). head_bytes (head_with h.level h.deleted h.version ids h.list_at)) c.as_slice.ensures.value)
    (c.clear_if.ensures e.bits (c.split_at_mut-front.ensures.back ∙ value_behind c.args.bytes.now e is))
