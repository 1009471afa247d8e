-- Thread programs of which one is the other with the calls of a thread and of the one after it exchanged.
use Rattle.std.specs.Prelude.{◌≡◌, ◌+◌, ◌<◌, ℕ, List, length, map, slice_get}
use Rattle.ls_checked.specs.CheckedProgram.{Program, ThreadProgram}
use Rattle.ls_exchanged.specs.Exchanged.{exchanged}
use Rattle.ls_meaning.specs.Threads.{calls_in}

-- the names of threads
abbrev pub names_of : List ThreadProgram → List (List ℕ)
names_of threads = map (λ t. t.name) threads

-- The exchanged thread of the second list has the calls of this thread of the first. It is exchanged if it is the
-- thread of the first number, or the one after it.
abbrev pub IsExchangedAt : List ThreadProgram → List ThreadProgram → ℕ → ℕ → Type 0
IsExchangedAt first second place at =
    calls_in (slice_get first at) ≡ calls_in (slice_get second (exchanged place (place + 1) at))

-- so it is for each thread
abbrev pub AreExchangedAt : List ThreadProgram → List ThreadProgram → ℕ → Type 0
AreExchangedAt first second place = (at : ℕ) → at < length first → IsExchangedAt first second place at

-- so it is for this number, which isn't that of the setup, and a thread comes after it
pub record HaveExchangedAt (first second : List ThreadProgram) (place : ℕ) : Type 0 where
  pub some : 0 < place
  pub within : place + 1 < length first
  pub calls : AreExchangedAt first second place

-- two programs have the same names, and their threads too
pub record HaveSameNames (first second : Program) : Type 0 where
  pub names : first.names ≡ second.names
  pub threads : names_of first.threads ≡ names_of second.threads

-- The second program is the first with the calls of the thread of this number, and of the one after it exchanged.
pub record AreDoubles (place : ℕ) (first second : Program) : Type 0 where
  pub names : HaveSameNames first second
  pub calls : HaveExchangedAt first.threads second.threads place
