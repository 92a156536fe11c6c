use Rattle.index_pages.proofs.Next.{fits_next, written_next, stand_next}
use Rattle.index_pages.proofs.law.law_next.Goals as goal

pub returns-clause-fits : goal.returns-clause-fits
returns-clause-fits c = λ p pages base acts desk event shaped of are lasting legal. fits_next p pages base acts desk event shaped of.has are lasting legal

pub returns-clause-written : goal.returns-clause-written
returns-clause-written c = λ p pages base acts desk event shaped of are lasting legal. written_next p pages base acts desk event shaped of.has are lasting legal

pub returns-clause-stand : goal.returns-clause-stand
returns-clause-stand c = λ p pages after base acts desk number event shaped of are lasting legal low redone.
    stand_next p pages after base acts desk number event shaped of.has are lasting legal low redone
