-- How many copies of finally blocks a method has without `try`, and which files are refused.
use Rattle.ls_lowered.specs.Limits.{most_locals}
use Rattle.std.specs.Prelude.{ℕ, ◌+◌, ◌*◌, ◌≤◌, length, All}
use Rattle.ls_lowered.specs.declared.fault.LowerFault.{LowerFault}
use Rattle.ls_lowered.specs.declared.fault.LowerFault.TheVariants.{Memory, TooManyLocals, TooManyCopies}
use Rattle.ls_lowered.specs.LoweredTree.{Statement, Block, If, While, Try, Guarded, Leavable, Statements, Done, Then}
use Rattle.ls_lowered.specs.LoweredTree.{Method, File}
use Rattle.ls_finally_exits.specs.Exits.{exits, count}
use Rattle.ls_finally.specs.Flat.{tries, flat}

-- The copies in a statement, if the locals of its tries begin at k. Inner statements are lowered first. For `try b
-- finally f` there are two copies of lowered f, and one for each exit of lowered b out of the `try`. Each copy has the
-- copies in f with it. A tree that is to be lowered has no exits of leavable statements yet. If it has any, each
-- counts as a copy.
abbrev mutual
  pub copies : ℕ → Statement → ℕ
  copies k (Block ss) = all_copies k ss
  copies k (If e a b) = copies k a + copies (k + 2 * tries a) b
  copies k (While e s) = copies k s
  copies k (Try b f) = copies k b + (2 + length (exits 0 (flat k b))) * (1 + copies (k + 2 * tries b) f)
  copies k (Guarded b n h) = copies k b + copies (k + 2 * tries b) h
  copies k (Leavable b xs) = count xs + copies k b + all_copies (k + 2 * tries b) xs
  copies k _ = 0

  pub all_copies : ℕ → Statements → ℕ
  all_copies k Done = 0
  all_copies k (Then s ss) = copies k s + all_copies (k + 2 * tries s) ss

abbrev pub copies_of : Method → ℕ
copies_of m = copies (m.arguments + m.locals) m.body

-- the locals of a method, with two for each try
abbrev pub locals_of : Method → ℕ
locals_of m = m.arguments + m.locals + 2 * tries m.body

-- no method has more than 4,096 copies
abbrev pub FewCopies : File → Type 0
FewCopies methods = All (λ m. copies_of m ≤ 4096) methods

-- no method has more than 128 locals
abbrev pub FewLocals : File → Type 0
FewLocals methods = All (λ m. locals_of m ≤ most_locals) methods

abbrev pub Refused : File → LowerFault → Type 0
Refused methods Memory = FewLocals methods
Refused methods TooManyLocals = ¬ FewLocals methods
Refused methods TooManyCopies = ¬ FewCopies methods
