-- What is written for the commands of `exact`.
use Rattle.std.specs.Prelude.{ℕ, Bool, Option, Some, None, List, [], ◌∷◌, ◌++◌, take, drop}
use Rattle.std.specs.List.{filter_map}
use Rattle.std.specs.Ordering.{is_lt}
use Rattle.bit_dist.specs.Distances.{hamming_of}
use Rattle.bit_dist.specs.Hits.{Hit, hit_cmp}
use Rattle.list_values.specs.Ranking.{ranked}
use Rattle.vec_names.specs.declared.params.Ops.TheVariants.{Hamming}
use Rattle.script_words.specs.Replies.{hits_text}
use Rattle.script_words.specs.declared.command.Command.{Command}
use Rattle.script_words.specs.declared.command.Command.TheVariants.{Row, Query}

abbrev pub is_nearer : Hit → Hit → Bool
is_nearer a b = is_lt (hit_cmp a b)

-- the hit of a value with a row; no other command is a row
abbrev pub hit_with : List Bool → Command → Option Hit
hit_with value (Row id bits word) = Some (hamming_of bits value, id)
hit_with value _ = None

-- the rows among the commands by (distance, id), equal ones in line order
abbrev pub nearest : List Bool → List Command → List Hit
nearest value above = ranked is_nearer (filter_map (hit_with value) above)

-- what a command is answered, after the commands above it
abbrev pub reply_of : List Command → Command → List ℕ
reply_of above (Query bits) = hits_text Hamming (nearest bits above)
reply_of above _ = []

-- what is written for commands, after those above them
abbrev pub replies_after : List Command → List Command → List ℕ
replies_after above [] = []
replies_after above (command ∷ commands) = reply_of above command ++ replies_after (above ++ command ∷ []) commands

abbrev pub replies_of : List Command → List ℕ
replies_of commands = replies_after [] commands

-- the reply to the command at a place, after those above it; none past the end
abbrev pub reply_from : List Command → List Command → List ℕ
reply_from above [] = []
reply_from above (command ∷ commands) = reply_of above command

abbrev pub reply_at : List Command → ℕ → List ℕ
reply_at commands at = reply_from (take at commands) (drop at commands)
