-- What is so of two programs of which one is the other with two threads exchanged.
use Rattle.std.specs.Prelude.{◌≡◌, ◌+◌, ℕ, slice_get}
use Rattle.ls_checked.specs.CheckedProgram.{Program}
use Rattle.ls_exchanged.specs.Exchanged.{AreExchanged, name_in}
use Rattle.ls_exchanged.specs.Doubles.{AreDoubles}

-- a thread and the one after it are exchanged
abbrev pub DoublesAreExchanged : Type 0
DoublesAreExchanged = (u : ℕ) (p q : Program) → AreDoubles u p q → AreExchanged u (u + 1) p q

-- at each place the threads have the same name
abbrev pub DoublesHaveNames : Type 0
DoublesHaveNames =
    (u : ℕ) (p q : Program) → AreDoubles u p q → (t : ℕ) →
    name_in (slice_get q.threads t) ≡ name_in (slice_get p.threads t)
