-- The limits of thread programs.
use Rattle.std.specs.Prelude.{ℕ}

-- threads beside the setup
abbrev pub most_threads : ℕ
most_threads = 64

-- calls of a thread, the setup too
abbrev pub most_calls : ℕ
most_calls = 256
