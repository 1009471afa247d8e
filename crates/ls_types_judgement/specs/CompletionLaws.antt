-- The rules of typing agree with the meaning about how statements complete.
use Rattle.std.specs.Prelude.{ℕ, ◌≡◌, Bool, true}
use Rattle.ls_events.specs.declared.value.Value.{Value}
use Rattle.ls_meaning.specs.declared.completion.Completion.{Completion}
use Rattle.ls_meaning.specs.declared.completion.Completion.TheVariants.{Normal, Broke}
use Rattle.ls_checked.specs.CheckedTree.{Statement, Statements, Then}
use Rattle.ls_types_judgement.specs.Leaving.{JumpsInLoops}
use Rattle.ls_types_judgement.specs.Completion.{can_complete, breaks}
use Rattle.ls_types_judgement.specs.Ways.{Closed}
use Rattle.ls_types_judgement.specs.Ends.{AlwaysEnds, Allows, IsIn}

-- if a statement completes normally, or breaks a loop, the rules say that it can (JLS 14.21)
abbrev pub OnlyAsAllowed : Type 0
OnlyAsAllowed = (s : Statement) → AlwaysEnds (Allows s) s

-- If its jumps belong to loops in it or to the n loops around it, a statement jumps to no other loop (JLS 14.15,
-- 14.16).
abbrev pub OnlyToItsLoops : Type 0
OnlyToItsLoops = (n : ℕ) (s : Statement) → JumpsInLoops n s → AlwaysEnds (IsIn n) s

-- The rules allow no more than what follows from the ways in which statements complete. A `break` counts even after a
-- statement that can't complete: the rules don't look for unreachable statements.
abbrev pub NoMoreThanWays : Type 0
NoMoreThanWays =
    (p : Statement → Completion Value → Bool) (q : Statements → Completion Value → Bool)
    → Closed (λ s c. p s c ≡ true) (λ ss c. q ss c ≡ true)
    → ((s : Statement) (ss : Statements) (n : ℕ) → q ss (Broke n) ≡ true → q (Then s ss) (Broke n) ≡ true)
    → (s : Statement) → (can_complete s ≡ true → p s Normal ≡ true) ×
    ((n : ℕ) → breaks n s ≡ true → p s (Broke n) ≡ true)
