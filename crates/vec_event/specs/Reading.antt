-- Reading an event from left to right, field by field, up to the first fault.
use Rattle.std.specs.Prelude.{ℕ, zero, suc, Bool, nat_lt, ◌==◌, if◌then◌else◌, List, [], ◌∷◌, Option}
use Rattle.std.specs.Int.{w16, from_le_bytes}
use Rattle.index_sizes.specs.declared.limits.TheConstants.{LAST_BLOCK, MOST_BITS, MOST_BLOCKS, MOST_SLOTS}
use Rattle.vec_names.specs.declared.tid.Tid.{Tid}
use Rattle.byte_fields.specs.Reading.{Got, Reader, field, with_next, and_then, ◌⨟◌, depending, viewed, times, only_if, byte_from, two_bytes_from, four_bytes_from, place, optional_place, heap_id, level_beside, packed_places}
use Rattle.vec_history.specs.declared.event.Event.{Event}
use Rattle.vec_history.specs.declared.event.Event.TheVariants as events

-- ---- fields

-- a version is not 0
abbrev pub version : Reader ℕ
version = byte_from 1 255

abbrev pub byte : Reader ℕ
byte = byte_from 0 255

abbrev pub number_of_two : Reader ℕ
number_of_two = two_bytes_from 0 65535

-- a block, or the number of a list
abbrev pub block : Reader ℕ
block = four_bytes_from 0 LAST_BLOCK

-- two bytes of a number above low
unfoldable pub two_bytes_above : ℕ → Reader ℕ
two_bytes_above low = field 2 (λ b. only_if (nat_lt low (from_le_bytes w16 b)) (from_le_bytes w16 b))

-- four bytes of a count of places, 1 to 64,000, and the packed places
unfoldable pub bits : Reader (List Bool)
bits = depending (four_bytes_from 1 MOST_BITS) packed_places

-- two bytes of a count, at most 1,358, and that many optional places
unfoldable pub lists : Reader (List (Option Tid))
lists = depending (two_bytes_from 0 MOST_SLOTS) (times optional_place)

-- so many offsets, each above the one before
unfoldable pub rising : ℕ → ℕ → Reader (List ℕ)
rising low zero bytes = Got [] bytes
rising low (suc n) bytes = with_next (λ v vs. v ∷ vs) (two_bytes_above low) (λ v. rising v n) bytes

-- two bytes of a count, not 0, and that many offsets that rise
unfoldable pub offsets : Reader (List ℕ)
offsets = depending (two_bytes_from 1 65535) (rising 0)

-- ---- events

unfoldable pub put : Reader Event
put =
    viewed (λ x. events.Put x.0 x.1.0 x.1.1.0 x.1.1.1.0 x.1.1.1.1.0 x.1.1.1.1.1.0 x.1.1.1.1.1.1)
    (place ⨟ place ⨟ version ⨟ byte ⨟ heap_id ⨟ bits ⨟ lists)

unfoldable pub join : Reader Event
join = viewed (λ x. events.Join x.0 x.1.0 x.1.1) (place ⨟ version ⨟ heap_id)

unfoldable pub link : Reader Event
link = viewed (λ x. events.Link x.0 x.1.0 x.1.1.0 x.1.1.1.0 x.1.1.1.1) (place ⨟ place ⨟ version ⨟ number_of_two ⨟ place)

unfoldable pub relist : Reader Event
relist = viewed (λ x. events.Relist x.0 x.1.0 x.1.1.0 x.1.1.1) (place ⨟ place ⨟ version ⨟ lists)

unfoldable pub drop_ids : Reader Event
drop_ids = viewed (λ x. events.Drop x.0 x.1.0 x.1.1) (place ⨟ version ⨟ two_bytes_from 1 1023)

unfoldable pub mark : Reader Event
mark = viewed (λ x. events.Mark x.0 x.1.0 x.1.1) (place ⨟ place ⨟ version)

unfoldable pub entry : Reader Event
entry = viewed (λ x. events.Entry x.0 x.1) (and_then optional_place level_beside)

unfoldable pub hint : Reader Event
hint = viewed events.Hint (four_bytes_from 0 MOST_BLOCKS)

unfoldable pub ivf_add : Reader Event
ivf_add = viewed (λ x. events.IvfAdd x.0 x.1.0 x.1.1) (block ⨟ heap_id ⨟ bits)

unfoldable pub ivf_grow : Reader Event
ivf_grow = viewed (λ x. events.IvfGrow x.0 x.1.0 x.1.1.0 x.1.1.1.0 x.1.1.1.1) (block ⨟ block ⨟ block ⨟ heap_id ⨟ bits)

unfoldable pub ivf_drop : Reader Event
ivf_drop = viewed (λ x. events.IvfDrop x.0 x.1) (block ⨟ offsets)

unfoldable pub ivf_hint : Reader Event
ivf_hint = viewed (λ x. events.IvfHint x.0 x.1) (block ⨟ block)

-- the fields of an event of this kind, 1 to 12
unfoldable pub fields_of : ℕ → Reader Event
fields_of k =
    if k == 1 then put
    else (if k == 2 then join
    else (if k == 3 then link
    else (if k == 4 then relist
    else (if k == 5 then drop_ids
    else (if k == 6 then mark
    else (if k == 7 then entry
    else (if k == 8 then hint
    else (if k == 9 then ivf_add
    else (if k == 10 then ivf_grow
    else (if k == 11 then ivf_drop
    else ivf_hint))))))))))

-- an event: its kind, a byte, and its fields
unfoldable pub event : Reader Event
event = depending (byte_from 1 12) fields_of
