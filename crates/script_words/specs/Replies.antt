-- The text of each reply.
use Rattle.std.specs.Prelude.{ℕ, List, [], ◌∷◌, ◌++◌, length, codes, decimal}
use Rattle.std.specs.List.{flat_map}
use Rattle.vec_names.specs.declared.tid.Tid.{Tid}
use Rattle.vec_names.specs.declared.params.Ops.{Ops}
use Rattle.vec_names.specs.declared.params.Ops.TheVariants.{Hamming, Jaccard}
use Rattle.bit_dist.specs.declared.dist.Dist.{Dist}
use Rattle.bit_dist.specs.Hits.{Hit}
use Rattle.script_words.specs.Commands.{id_word}
use Rattle.script_words.specs.declared.reply.Reply.{Reply}
use Rattle.script_words.specs.declared.reply.Reply.TheVariants.{Nothing, Hits, Created, Put, Joined, Stats, Refused}
use Rattle.script_words.specs.declared.reply.Counts.{Counts}
use Rattle.script_words.specs.declared.reply.Refusal.{Refusal}
use Rattle.script_words.specs.declared.reply.Refusal.TheVariants.{NoIndex, Exists, Params, Dimensions}

-- a Hamming distance is its count, a Jaccard distance a fraction as it stands
abbrev pub dist_word : Ops → Dist → List ℕ
dist_word Hamming dist = decimal dist.num
dist_word Jaccard dist = decimal dist.num ++ 47 ∷ decimal dist.den

-- `hit ID DIST`
abbrev pub hit_line : Ops → Hit → List ℕ
hit_line ops hit = codes "hit " ++ id_word hit.1 ++ 32 ∷ dist_word ops hit.0 ++ 10 ∷ []

-- `hits N`
abbrev pub count_line : ℕ → List ℕ
count_line n = codes "hits " ++ decimal n ++ 10 ∷ []

-- a line for each hit, and one with their count
abbrev pub hits_text : Ops → List Hit → List ℕ
hits_text ops hits = flat_map (hit_line ops) hits ++ count_line (length hits)

-- a place: B/O
abbrev pub place_word : Tid → List ℕ
place_word at = decimal at.block ++ 47 ∷ decimal at.off

-- a name and a number behind it
abbrev pub counted : List ℕ → ℕ → List ℕ
counted name n = name ++ decimal n

abbrev pub refusal_word : Refusal → List ℕ
refusal_word NoIndex = codes "refused no-index\n"
refusal_word Exists = codes "refused exists\n"
refusal_word Params = codes "refused params\n"
refusal_word Dimensions = codes "refused dimensions\n"

-- `created blocks B entries E`
abbrev pub created_line : ℕ → ℕ → List ℕ
created_line blocks entries = counted (codes "created blocks ") blocks ++ counted (codes " entries ") entries ++ 10 ∷ []

-- `put TID level L version V`
abbrev pub put_line : Tid → ℕ → ℕ → List ℕ
put_line at level version =
    codes "put " ++ place_word at ++ counted (codes " level ") level ++ counted (codes " version ") version ++ 10 ∷ []

-- `joined TID`
abbrev pub joined_line : Tid → List ℕ
joined_line at = codes "joined " ++ place_word at ++ 10 ∷ []

-- `stats blocks B nodes N live L doomed D deleted X entries E`
abbrev pub stats_line : Counts → List ℕ
stats_line c =
    counted (codes "stats blocks ") c.blocks ++ counted (codes " nodes ") c.nodes ++ counted (codes " live ") c.live
    ++ counted (codes " doomed ") c.doomed ++ counted (codes " deleted ") c.deleted ++ counted (codes " entries ") c.entries ++ 10 ∷ []

-- the text of a reply
abbrev pub reply_text : Reply → List ℕ
reply_text Nothing = []
reply_text (Hits ops hits) = hits_text ops hits.items
reply_text (Created blocks entries) = created_line blocks entries
reply_text (Put at level version) = put_line at level version
reply_text (Joined at) = joined_line at
reply_text (Stats counts) = stats_line counts
reply_text (Refused why) = refusal_word why
