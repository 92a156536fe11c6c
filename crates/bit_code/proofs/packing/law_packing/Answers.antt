use Rattle.bit_code.proofs.ExactPacking.{length-packed, packed-below, packed-Packed, unpacked-packed, packed-same, packed-take, below-at}
use Rattle.bit_code.proofs.packing.law_packing.Goals as goal

pub returns : goal.returns
returns c = record {
  long = λ xs. length-packed xs;
  bytes = λ xs. packed-below xs;
  kept = λ xs some few. packed-Packed xs some few;
  back = λ xs. unpacked-packed xs;
  same = λ xs ys long same. packed-same xs ys long same;
  whole = λ count bytes kept small. packed-take count bytes kept (below-at bytes small);
}
