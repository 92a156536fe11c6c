use Rattle.ivf_pages.proofs.AllowedFits.{allowed_fits}
use Rattle.ivf_pages.proofs.Written.{written}
use Rattle.ivf_pages.proofs.fitting.law_allowed.Goals as goal

pub returns-clause-fits : goal.returns-clause-fits
returns-clause-fits c = λ p pages g acts desk event all stands may lasts. allowed_fits p pages g acts desk all stands event may lasts

pub returns-clause-written : goal.returns-clause-written
returns-clause-written c = λ p pages g acts desk event few all stands may lasts. written p pages g few all stands acts desk event may lasts
