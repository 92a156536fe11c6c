use Rattle.ivf_pages.proofs.SmallIndex.{small_stands, missing, two_tuples, other_aim, no_first, ring, unnamed}
use Rattle.ivf_pages.proofs.examples.law_examples.Goals as goal

pub returns-clause-missing : goal.returns-clause-missing
returns-clause-missing c = missing

pub returns-clause-stands : goal.returns-clause-stands
returns-clause-stands c = λ centre id bits four also. small_stands centre id bits four also

pub returns-clause-too_many : goal.returns-clause-too_many
returns-clause-too_many c = λ centre id bits four also. two_tuples centre id bits four also

pub returns-clause-other_aim : goal.returns-clause-other_aim
returns-clause-other_aim c = λ centre id bits four also. other_aim centre id bits four also

pub returns-clause-no_first : goal.returns-clause-no_first
returns-clause-no_first c = λ centre id bits four also. no_first centre id bits four also

pub returns-clause-ring : goal.returns-clause-ring
returns-clause-ring c = λ centre id bits four also. ring centre id bits four also

pub returns-clause-unnamed : goal.returns-clause-unnamed
returns-clause-unnamed c = λ centre id bits four also. unnamed centre id bits four also
