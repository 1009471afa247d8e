-- Bursts one after another.
use Rattle.std.specs.Prelude.{ℕ, zero, suc, Bool, true, false, List, [], ◌∷◌, map}
use Rattle.ls_code.specs.Machine.{Machine, loaded, machine_step, machine_run}
use Rattle.ls_code.specs.declared.step.Did.{Did}
use Rattle.ls_code.specs.declared.step.Did.TheVariants as did

-- whether a step did nothing that another thread could notice, and whether it acted
abbrev pub is_silent : Did → Bool
is_silent did.Silent = true
is_silent (did.Acted action answer) = false
is_silent did.Waits = false
is_silent did.Idle = false
is_silent did.Stopped = false

abbrev pub has_acted : Did → Bool
has_acted (did.Acted action answer) = true
has_acted did.Silent = false
has_acted did.Waits = false
has_acted did.Idle = false
has_acted did.Stopped = false

-- the machine after a thread's steps, and what the last of them did
pub record Tried : Type 0 where
  pub machine : Machine
  pub did : Did

abbrev pub tried_or : Did → Machine → Tried → Tried
tried_or did.Silent m later = later
tried_or (did.Acted action answer) m later = record { machine = m; did = did.Acted action answer }
tried_or did.Waits m later = record { machine = m; did = did.Waits }
tried_or did.Idle m later = record { machine = m; did = did.Idle }
tried_or did.Stopped m later = record { machine = m; did = did.Stopped }

-- a thread's steps up to and with the first that isn't silent, at most so many
unfoldable pub tried : ℕ → Machine → ℕ → Tried
tried zero m t = record { machine = m; did = did.Silent }
tried (suc n) m t = tried_or (machine_step m t).did (machine_step m t).machine (tried n (machine_step m t).machine t)

-- such steps of these threads, one after another
unfoldable pub walked : ℕ → Machine → List ℕ → Machine
walked n m [] = m
walked n m (t ∷ ts) = walked n (tried n m t).machine ts

-- the machine of a machine's code and cells, from which its setup has been run by these steps
abbrev pub root_of : Machine → List ℕ → Machine
root_of m setup = machine_run (loaded m.code m.cells.limit) setup

-- the machines that these paths lead to
abbrev pub led_to : ℕ → Machine → List (List ℕ) → List Machine
led_to n root paths = map (walked n root) paths
