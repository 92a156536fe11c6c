-- Which texts spell a bit value, and what is wrong with the others.
use Rattle.std.specs.Prelude.{ℕ, ◌≡◌, ◌<◌, ◌≤◌, ◌==◌, ◌||◌, Bool, not, Option, Some, None, List, [], length, take, map, position}
use Rattle.index_sizes.specs.declared.limits.TheConstants.{MOST_BITS}
use Rattle.bit_code.specs.declared.fault.BitsFault.{BitsFault}
use Rattle.bit_code.specs.declared.fault.BitsFault.TheVariants.{Memory, Empty, BadPlace, TooLong}

-- the character 0 or 1
abbrev pub is_bit_character : ℕ → Bool
is_bit_character byte = (byte == 48) || (byte == 49)

-- the first byte that is neither 0 nor 1
abbrev pub first_bad : List ℕ → Option ℕ
first_bad text = position (λ byte. not (is_bit_character byte)) text

-- one place for each character, 1 for the character 1
abbrev pub places_of_text : List ℕ → List Bool
places_of_text text = map (λ byte. byte == 49) text

-- a text of 1 to 64,000 characters 0 and 1
pub record IsBitText (text : List ℕ) : Type 0 where
  pub some : 1 ≤ length text
  pub few : length text ≤ MOST_BITS
  pub good : first_bad text ≡ None

-- each fault and what is then so of the text; of want of memory nothing is said
abbrev pub IsFaultOf : List ℕ → BitsFault → Type 0
IsFaultOf text Memory = Unit {0}
IsFaultOf text Empty = text ≡ []
IsFaultOf text (BadPlace k) = first_bad (take MOST_BITS text) ≡ Some k
IsFaultOf text TooLong = (MOST_BITS < length text) × (first_bad (take MOST_BITS text) ≡ None)
