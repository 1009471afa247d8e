-- Other numbers for objects.
use Rattle.std.specs.Prelude.{ℕ, zero, suc, ◌+◌, ◌-◌, List, Option, Some, None, length, slice_get}

abbrev pub number_or : ℕ → Option ℕ → ℕ
number_or n None = n
number_or n (Some m) = m

-- The objects 1, 2 and so on have these numbers. Those after them come after so many others.
abbrev pub naming : List ℕ → ℕ → ℕ → ℕ
naming numbers others zero = 0
naming numbers others (suc n) = number_or ((suc n - length numbers) + others) (slice_get numbers n)
