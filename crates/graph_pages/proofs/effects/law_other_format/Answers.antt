use Rattle.graph_pages.proofs.OtherFormat.{other_stands, other_bytes, other_format}
use Rattle.graph_pages.proofs.effects.law_other_format.Goals as goal

pub returns-clause-stands : goal.returns-clause-stands
returns-clause-stands c = λ pages g page meta format number all stands there read low high. other_stands pages g page meta format number all stands there read low high

pub returns-clause-bytes : goal.returns-clause-bytes
returns-clause-bytes c = λ pages g page meta format number all stands there read low high small. other_bytes pages g page meta format number all stands there read low high small

pub returns-clause-format : goal.returns-clause-format
returns-clause-format c = λ pages g page meta format number all stands there read low high. other_format pages g page meta format number all stands there read low high
