-- The trees whose form without `try` has code: each number is there, and nothing is guarded yet.
use Rattle.std.specs.Prelude.{ℕ, suc, ◌+◌, ◌<◌, ◌^◌}
use Rattle.ls_lowered.specs.LoweredTree.{Statement, Block, SetLocal, SetField, AddField, SetItem, Evaluate, If, While}
use Rattle.ls_lowered.specs.LoweredTree.{Return, Try, Guarded, Throw, Leavable, Leave, Statements, Done, Then, File}
use Rattle.ls_emit.specs.Emittable.{statement_count, IsEmittable}

-- a statement of a method with k locals, from which leaves with these numbers may lead out; the calls are to methods
-- of the first file
abbrev mutual
  -- a statement of which the form without `try` has code
  pub Flattens : File → ℕ → ℕ → Statement → Type 0
  Flattens ms k around (Block ss) = AllFlatten ms k around ss
  Flattens ms k around (SetLocal n e) = (n < k) × IsEmittable ms k e
  Flattens ms k around (SetField e f a) = (f + 1 < 2 ^ 32) × IsEmittable ms k e × IsEmittable ms k a
  Flattens ms k around (AddField e f a) = (f + 1 < 2 ^ 32) × IsEmittable ms k e × IsEmittable ms k a
  Flattens ms k around (SetItem a i e) = IsEmittable ms k a × IsEmittable ms k i × IsEmittable ms k e
  Flattens ms k around (Evaluate e) = IsEmittable ms k e
  Flattens ms k around (If e a b) = IsEmittable ms k e × Flattens ms k around a × Flattens ms k around b
  Flattens ms k around (While e s) = IsEmittable ms k e × Flattens ms k around s
  Flattens ms k around (Return e) = IsEmittable ms k e
  Flattens ms k around (Try b f) = Flattens ms k around b × Flattens ms k around f
  Flattens ms k around (Guarded b n h) = ⊥
  Flattens ms k around (Throw n) = ⊥
  Flattens ms k around (Leavable b xs) = Flattens ms k (suc (statement_count xs) + around) b × AllFlatten ms k around xs
  Flattens ms k around (Leave n) = n < around

  -- the same of statements
  pub AllFlatten : File → ℕ → ℕ → Statements → Type 0
  AllFlatten ms k around Done = Unit {0}
  AllFlatten ms k around (Then s ss) = Flattens ms k around s × AllFlatten ms k around ss
