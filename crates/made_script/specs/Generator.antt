-- The numbers of which a script is made. Each comes of the one before it, and the first of the seed.
use Rattle.std.specs.Prelude.{ℕ, zero, suc, ◌+◌, ◌-◌, ◌*◌, ◌/◌, ◌%◌, ◌^◌}

-- the number after this one, below 2^31
abbrev pub next : ℕ → ℕ
next x = (1103515245 * x + 12345) % (2 ^ 31)

-- the i-th number
unfoldable pub number_at : ℕ → ℕ → ℕ
number_at seed zero = seed % (2 ^ 31)
number_at seed (suc i) = next (number_at seed i)

-- its upper part, of which a command is made
abbrev pub drawn_at : ℕ → ℕ → ℕ
drawn_at seed i = number_at seed i / 65536

-- the node of the i-th command, from 1: so many nodes take turns
abbrev pub node_at : ℕ → ℕ → ℕ
node_at nodes i = 1 + (i - 1) % nodes

-- the number of its key
abbrev pub key_at : ℕ → ℕ → ℕ
key_at seed i = drawn_at seed i % 16

-- its amount
abbrev pub amount_at : ℕ → ℕ → ℕ
amount_at seed i = drawn_at seed i % 100
