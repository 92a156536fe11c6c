-- What tuples and items take, in bytes, and the numbers that follow from an index's parameters.
use Rattle.std.specs.Prelude.{ℕ, ◌+◌, ◌*◌, ◌/◌, ◌==◌, ◌||◌, if◌then◌else◌}
use Rattle.index_sizes.specs.declared.limits.TheConstants.{PAGE_ROOM}

-- ---- bytes

-- what an item of so many bytes takes of a page: eight bytes or a multiple of them, and an item pointer of four
abbrev pub item_need : ℕ → ℕ
item_need len = (len + 7) / 8 * 8 + 4

-- eight bits to a byte
abbrev pub packed_size : ℕ → ℕ
packed_size bits = (bits + 7) / 8

-- an element tuple: its head, and the packed value
abbrev pub element_size : ℕ → ℕ
element_size bits = 80 + packed_size bits

-- a neighbour tuple: its head, and six bytes for each slot
abbrev pub links_size : ℕ → ℕ
links_size slots = 4 + 6 * slots

-- a list tuple: its head, and the packed centre
abbrev pub centre_size : ℕ → ℕ
centre_size bits = 20 + packed_size bits

-- an entry tuple: its head, and the packed value
abbrev pub entry_size : ℕ → ℕ
entry_size bits = 16 + packed_size bits

-- ---- counts

-- how many slots a node of this level has: m in each layer above the lowest, and 2m in that
abbrev pub slots_of_level : ℕ → ℕ → ℕ
slots_of_level m level = (level + 2) * m

-- how many list tuples a page holds
abbrev pub centres_on_page : ℕ → ℕ
centres_on_page bits = PAGE_ROOM / item_need (centre_size bits)

-- the version after this one: 1 after 255, and after the version at which an older form of the log wraps
abbrev pub next_version : ℕ → ℕ → ℕ
next_version wrap v = if (v == wrap) || (v == 255) then 1 else v + 1
