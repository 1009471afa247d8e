-- The statements without others in them.
use Rattle.ls_lowered.specs.LoweredTree.{Statement, Block, SetLocal, SetField, AddField, SetItem, Evaluate, If, While}
use Rattle.ls_lowered.specs.LoweredTree.{Return, Try, Guarded, Throw, Leavable, Leave}

-- a `try` has no code, so what is in it doesn't count
abbrev pub IsAlone : Statement → Type 0
IsAlone (Block ss) = ⊥
IsAlone (SetLocal n e) = Unit {0}
IsAlone (SetField e f a) = Unit {0}
IsAlone (AddField e f a) = Unit {0}
IsAlone (SetItem a i e) = Unit {0}
IsAlone (Evaluate e) = Unit {0}
IsAlone (If e a b) = ⊥
IsAlone (While e s) = ⊥
IsAlone (Return e) = Unit {0}
IsAlone (Try b f) = Unit {0}
IsAlone (Guarded b n h) = ⊥
IsAlone (Throw n) = Unit {0}
IsAlone (Leavable b xs) = ⊥
IsAlone (Leave n) = Unit {0}
