use Rattle.graph_search.proofs.Words.{joins_where, stale_join, links_where, held_where, stale_link, put_where, put_new_where, no_room}
use Rattle.graph_search.proofs.law.law_words.Goals as goal

pub returns-clause-joins : goal.returns-clause-joins
returns-clause-joins c = joins_where

pub returns-clause-stale_join : goal.returns-clause-stale_join
returns-clause-stale_join c = stale_join

pub returns-clause-links : goal.returns-clause-links
returns-clause-links c = links_where

pub returns-clause-stale_link : goal.returns-clause-stale_link
returns-clause-stale_link c = stale_link

pub returns-clause-placed : goal.returns-clause-placed
returns-clause-placed c = put_where

pub returns-clause-placed_new : goal.returns-clause-placed_new
returns-clause-placed_new c = put_new_where

pub returns-clause-no_room : goal.returns-clause-no_room
returns-clause-no_room c = no_room

pub returns-clause-held : goal.returns-clause-held
returns-clause-held c = held_where
