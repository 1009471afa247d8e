-- Which statements need no lowering. The lowering moves them, and doesn't copy them.
use Rattle.ls_lowered.specs.LoweredTree.{Statement, Block, If, While, Try, Guarded, Leavable, Statements, Done, Then}

abbrev pub HasNone : Statements → Type 0
HasNone Done = Unit {0}
HasNone (Then s ss) = ⊥

-- there is no try, and no leavable statement has exits
abbrev mutual
  pub IsFlat : Statement → Type 0
  IsFlat (Block ss) = AreFlat ss
  IsFlat (If e a b) = IsFlat a × IsFlat b
  IsFlat (While e s) = IsFlat s
  IsFlat (Try b f) = ⊥
  IsFlat (Guarded b n h) = IsFlat b × IsFlat h
  IsFlat (Leavable b xs) = IsFlat b × HasNone xs
  IsFlat _ = Unit {0}

  pub AreFlat : Statements → Type 0
  AreFlat Done = Unit {0}
  AreFlat (Then s ss) = IsFlat s × AreFlat ss
