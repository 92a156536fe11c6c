use Rattle.std.proofs.Common.{◌≡◌, take}
use Rattle.graph_search.specs.ByHolding.{HoldTheSame}
use Rattle.search_sets.specs.Standing.{IsWhole, begun_from, held, wanted}
use Rattle.search_sets.proofs.frontier.Frontier.begin.Given as goal

abbrev pub invariant-loop-element : goal.invariant-loop-element
invariant-loop-element l = record {
  whole : IsWhole l.self;
  wanted : wanted l.self ≡ wanted l.initial.self;
  begun : HoldTheSame (held l.self) (begun_from (take l.element-index l.from));
}
