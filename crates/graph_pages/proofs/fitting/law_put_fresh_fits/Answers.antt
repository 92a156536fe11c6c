use Rattle.graph_pages.proofs.PutFreshFits.{put_fresh_fits}
use Rattle.graph_pages.proofs.fitting.law_put_fresh_fits.Goals as goal

pub returns : goal.returns
returns c = λ pages g place level id bits lists all stands is of_bits of_slots few.
    put_fresh_fits pages g all stands place level id bits lists is of_bits of_slots few
