-- Threads that begin their calls again.
use Rattle.std.specs.Prelude.{ℕ, List, [], ◌∷◌, nat_eq, if◌then◌else◌}
use Rattle.ls_meaning.specs.Course.{Answers}
use Rattle.ls_meaning.specs.Threads.{Next}
use Rattle.ls_meaning.specs.Runs.{has_ended}
use Rattle.ls_search_laws.specs.Configuration.{Configuration}

-- What a thread does next after these answers that goes on so, and begins as at the start each time that it has ended.
-- Where it has ended, the next answer is one to its first action.
abbrev pub again : (Answers → Next) → (Answers → Next) → Answers → Next
again begins goes [] = if has_ended (goes []) then begins [] else goes []
again begins goes (answer ∷ later) =
    if has_ended (goes []) then again begins (λ more. begins (answer ∷ more)) later
    else again begins (λ more. goes (answer ∷ more)) later

-- so each thread does but the setup
abbrev pub again_in : (ℕ → Answers → Next) → Configuration → Configuration
again_in begins c = record {
  store = c.store;
  continues = λ u later. if nat_eq u 0 then c.continues u later else again (begins u) (c.continues u) later;
}

-- each thread begins as it does there
abbrev pub for_ever : Configuration → Configuration
for_ever c = again_in c.continues c
