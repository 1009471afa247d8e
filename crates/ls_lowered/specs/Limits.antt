-- The limits of trees over words.
use Rattle.std.specs.Prelude.{ℕ}

-- the most locals of a method: `this`, parameters, its own, and those that the lowerings add
abbrev pub most_locals : ℕ
most_locals = 128
