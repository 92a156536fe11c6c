use Rattle.std.proofs.Common.{ap₂, List, ℕ, ◌++◌, length}
use Rattle.bit_code.proofs.PackedTexts.{last_places}
use Rattle.std.proofs.lemmas.List.{drop-replicate}
use Rattle.bit_code.proofs.texts.last_byte.Goals as goal

pub returns : goal.returns
returns c =
    last_places c.args.text.now _ c.packed_byte.result c.requires
    (ap₂ (λ (xs ys : List ℕ). xs ++ ys) c.copy_from_slice.ensures.after (drop-replicate (length c.args.text.now) 8 48)) c.packed_byte.ensures
