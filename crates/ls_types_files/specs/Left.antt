-- The loops that a `break` in a statement can leave, counted outward from the innermost loop around the statement.
use Rattle.std.specs.Prelude.{ℕ, zero, suc, Bool, false, ◌||◌, nat_eq, List, [], ◌∷◌, ◌++◌, if◌then◌else◌}
use Rattle.ls_checked.specs.CheckedTree.{Statement, Block, If, While, Break, Try, Statements, Done, Then}
use Rattle.ls_types_judgement.specs.Completion.{can_complete}

-- the loops as counted from outside of the innermost loop, which is left out
abbrev pub outward : List ℕ → List ℕ
outward [] = []
outward (zero ∷ ns) = outward ns
outward (suc n ∷ ns) = n ∷ outward ns

abbrev pub has : ℕ → List ℕ → Bool
has n [] = false
has n (m ∷ ms) = nat_eq m n || has n ms

abbrev mutual
  pub left : Statement → List ℕ
  left (Block ss) = all_left ss
  left (If c a b) = left a ++ left b
  left (While c s) = outward (left s)
  left (Break n) = n ∷ []
  left (Try b f) = left f ++ (if can_complete f then left b else [])
  left _ = []

  pub all_left : Statements → List ℕ
  all_left Done = []
  all_left (Then s ss) = left s ++ all_left ss
