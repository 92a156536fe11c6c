use Rattle.vec_recover.proofs.RedoneEvents.{nodes_told, lists_told}
use Rattle.vec_recover.proofs.replaying.follows.Goals as goal

pub returns-in-Hnsw : goal.returns-in-Hnsw
returns-in-Hnsw c =
    nodes_told c.args.params.now c.args.pages.now c.args.event.now c.follows.result c.args.params.now.kind c.in-Hnsw.is c.requires.pages.stand
    (λ g stands same. c.follows.ensures g c.requires.pages.bytes stands same)

pub returns-in-Ivf : goal.returns-in-Ivf
returns-in-Ivf c =
    lists_told c.args.params.now c.args.pages.now c.args.event.now c.follows-in-Ivf.result c.args.params.now.kind c.in-Ivf.is c.requires.pages.stand
    (λ g stands. c.follows-in-Ivf.ensures g c.requires.pages.bytes stands)
