use Rattle.std.proofs.Common.{◌+◌, ◌-◌, List, ℕ, ◌∙◌, length, take, drop}
use Rattle.script_words.proofs.LineCuts.{first_cut, first_last, drop_whole}
use Rattle.script_words.proofs.Spelling.{rest_of}
use Rattle.script_words.proofs.script.first_line.Goals as goal

pub returns-in-Some-clause-lines : goal.returns-in-Some-clause-lines
returns-in-Some-clause-lines c = first_cut c.args.text.now c.in-Some.at _ c.in-Some.ensures (rest_of c.args.text.now (c.in-Some.at + 1))

pub returns-in-None-clause-lines : goal.returns-in-None-clause-lines
returns-in-None-clause-lines c =
    let left : List ℕ = take (length c.args.text.now - length c.args.text.now) (drop (length c.args.text.now) c.args.text.now) in
    first_last c.args.text.now left c.requires c.in-None.ensures (rest_of c.args.text.now (length c.args.text.now) ∙ drop_whole c.args.text.now)
