-- Numbers drawn one after another from a seed. The state is a number below 65,537, and each draw makes the next one.
use Rattle.std.specs.Prelude.{ℕ, zero, suc, ◌+◌, ◌*◌, ◌/◌, ◌%◌, ◌^◌, List, [], ◌∷◌}

-- the state that a seed begins with
abbrev pub start : ℕ → ℕ
start seed = seed % 65537

-- a draw replaces the state by this number, which is what was drawn
abbrev pub next : ℕ → ℕ
next state = (75 * state + 74) % 65537

-- the state after so many draws
unfoldable pub after_draws : ℕ → ℕ → ℕ
after_draws state zero = state
after_draws state (suc n) = after_draws (next state) n

-- the number of so many bytes, least significant first, each of them a draw modulo 256
unfoldable pub drawn_bytes : ℕ → ℕ → ℕ
drawn_bytes state zero = 0
drawn_bytes state (suc n) = next state % 256 + 256 * drawn_bytes (next state) n

-- how many bytes a word of B bits needs
abbrev pub bytes_of : ℕ → ℕ
bytes_of B = (B + 7) / 8

-- a word of B bits: as many bytes as it needs, cut to B bits
abbrev pub drawn_word : ℕ → ℕ → ℕ
drawn_word B state = drawn_bytes state (bytes_of B) % 2 ^ B

-- the state after a word of B bits
abbrev pub after_word : ℕ → ℕ → ℕ
after_word B state = after_draws state (bytes_of B)

-- so many words of B bits, one after another
unfoldable pub drawn_words : ℕ → ℕ → ℕ → List ℕ
drawn_words B state zero = []
drawn_words B state (suc n) = drawn_word B state ∷ drawn_words B (after_word B state) n

-- the state after so many words of B bits
unfoldable pub after_words : ℕ → ℕ → ℕ → ℕ
after_words B state zero = state
after_words B state (suc n) = after_words B (after_word B state) n
