-- The thread of a step, by small words: of three threads, and by chance 1 in 20.
use Rattle.std.specs.Prelude.{◌≡◌, ℕ}
use Rattle.ls_batch.specs.Samples.{next_thread}

-- after this thread and by this word the next is that one
abbrev pub Follows : ℕ → ℕ → ℕ → Type 0
Follows last word next = next_thread 3 20 last word ≡ next

-- after the setup one is drawn, whatever the word
abbrev pub DrawnFirst : Type 0
DrawnFirst = Follows 0 0 1 × Follows 0 19 1 × Follows 0 20 2 × Follows 0 57 3 × Follows 0 60 1 × Follows 0 61 1

-- a word that 20 divides draws one, which may be the same
abbrev pub DrawnByChance : Type 0
DrawnByChance = Follows 3 0 1 × Follows 3 20 2 × Follows 1 40 3 × Follows 1 60 1 × Follows 2 80 2 × Follows 2 100 3

-- after any other word the thread goes on
abbrev pub GoesOn : Type 0
GoesOn = Follows 1 1 1 × Follows 1 19 1 × Follows 2 21 2 × Follows 2 39 2 × Follows 3 61 3 × Follows 3 99 3
