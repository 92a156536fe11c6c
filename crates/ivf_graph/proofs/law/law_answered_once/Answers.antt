use Rattle.ivf_graph.proofs.OnceProbed.{found_once}
use Rattle.ivf_graph.proofs.law.law_answered_once.Goals as goal

pub returns : goal.returns
returns c = λ low high list block place probes row positions query answer long rising a probed s.
    found_once c.args.base.now c.args.acts.now c.requires.legal c.requires.own low high list block place probes row positions query answer long rising a probed s
