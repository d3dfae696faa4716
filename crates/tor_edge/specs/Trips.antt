-- Calls that are made to fail, and what a sink in memory keeps.
use Rattle.std.specs.Prelude.{ℕ, ◌+◌, ◌≤◌, ◌==◌, List, Option, None, Some, find, min}
use Rattle.tor_edge.specs.Count.{last_count}
use Rattle.tor_edge.specs.declared.mem_sink.Trip.{Trip}

-- how many calls were made after one more; the count stays at its last value
abbrev pub one_more : ℕ → ℕ
one_more calls = min (calls + 1) last_count

-- the first trip for the call of this number, if there is one
abbrev pub trip_of : List Trip → ℕ → Option Trip
trip_of trips call = find (λ trip. trip.call == call) trips

-- how many of so many bytes a put keeps: as many as fit into what is free, and at a trip no more than it lets
abbrev pub kept_bytes : Option Trip → ℕ → ℕ → ℕ
kept_bytes None len free = min len free
kept_bytes (Some trip) len free = min (min len free) trip.keep

-- a put of so many bytes succeeds: it is no trip, and the bytes fit into what is free
abbrev pub Succeeds : Option Trip → ℕ → ℕ → Type 0
Succeeds None len free = len ≤ free
Succeeds (Some trip) len free = ⊥
