-- The words that are drawn for commands, in their order.
use Rattle.std.specs.Prelude.{ℕ, Option, Some, None, List, [], ◌∷◌}
use Rattle.rand_core.specs.Pcg32Seed.{pcg32_seed}
use Rattle.rand_pcg.specs.Lcg.{Lcg}
use Rattle.rand_pcg.specs.Pcg.{pcg64, pcg64_of_seed}
use Rattle.script_words.specs.declared.command.Command.{Command}
use Rattle.script_words.specs.declared.command.Command.TheVariants.{Row, Draw, Insert}

-- the generator of a seed
abbrev pub seeded : ℕ → Lcg
seeded seed = pcg64_of_seed (pcg32_seed 32 seed)

-- a word, drawn where there is none, and the generator after that
abbrev pub filled : Lcg → Option ℕ → Option ℕ × Lcg
filled g None = (Some (pcg64 g).0, (pcg64 g).1)
filled g (Some word) = (Some word, g)

-- a command with its word, and the generator after it
abbrev pub drawn : Lcg → Command → Command × Lcg
drawn g (Draw seed) = (Draw seed, seeded seed)
drawn g (Row id bits word) = (Row id bits (filled g word).0, (filled g word).1)
drawn g (Insert id bits word) = (Insert id bits (filled g word).0, (filled g word).1)
drawn g command = (command, g)

-- commands with their words, drawn one after the other
abbrev pub drawn_all : Lcg → List Command → List Command
drawn_all g [] = []
drawn_all g (command ∷ commands) = (drawn g command).0 ∷ drawn_all (drawn g command).1 commands
