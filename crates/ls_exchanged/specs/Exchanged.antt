-- Thread programs with two threads exchanged.
use Rattle.std.specs.Prelude.{◌≡◌, ◌<◌, ℕ, List, [], Option, Some, None, length, nat_eq, slice_get, if◌then◌else◌}
use Rattle.ls_events.specs.declared.event.Event.{Event}
use Rattle.ls_checked.specs.CheckedProgram.{Program, ThreadProgram}
use Rattle.ls_meaning.specs.Threads.{calls_in}

-- a number, with two numbers exchanged
abbrev pub exchanged : ℕ → ℕ → ℕ → ℕ
exchanged u v t = if nat_eq t u then v else (if nat_eq t v then u else t)

-- The second program is the first with the calls of two threads exchanged, neither of which is the setup. Names of
-- threads may differ.
pub record AreExchanged (u v : ℕ) (p q : Program) : Type 0 where
  pub first : 0 < u
  pub second : 0 < v
  pub within : (u < length p.threads) × (v < length p.threads)
  pub many : length p.threads ≡ length q.threads
  pub names : p.names ≡ q.names
  pub calls : (t : ℕ) → calls_in (slice_get q.threads (exchanged u v t)) ≡ calls_in (slice_get p.threads t)

-- the same event of the exchanged thread
abbrev pub exchanged_event : ℕ → ℕ → Event → Event
exchanged_event u v e = record { thread = exchanged u v e.thread; call = e.call; happening = e.happening }

-- ---- names of threads

-- the name of a thread; a thread that isn't there has none
abbrev pub name_in : Option ThreadProgram → List ℕ
name_in None = []
name_in (Some t) = t.name

-- At each place the threads of both programs have the same name, and no two threads of a program have the same.
pub record HaveNamesByPlace (p q : Program) : Type 0 where
  pub same : (t : ℕ) → name_in (slice_get q.threads t) ≡ name_in (slice_get p.threads t)
  pub apart : (s t : ℕ) → s < length p.threads → t < length p.threads →
      name_in (slice_get p.threads s) ≡ name_in (slice_get p.threads t) → s ≡ t
