-- The pieces of `try b finally f` by copies.
use Rattle.std.specs.Prelude.{ℕ}
use Rattle.ls_lowered.specs.LoweredTree.{Statement, Block, Guarded, Throw, Leave, Statements, Done, Then}

-- the first statement, and then the second
abbrev pub both : Statement → Statement → Statement
both a b = Block (Then a (Then b Done))

-- b leaves for exit 0 if it completes normally, and for exit 1 if it throws; local k keeps the kind of the throw
abbrev pub guarded : ℕ → Statement → Statement
guarded k b = both (Guarded b k (Leave 1)) (Leave 0)

-- Exit 0 and exit 1, before the others. Each has a copy of f of its own, and neither lies in the guarded region. After
-- f the throw goes on, unless f ends in another way (JLS 14.20.2).
abbrev pub first_ways : ℕ → Statement → Statements → Statements
first_ways k f others = Then f (Then (both f (Throw k)) others)
