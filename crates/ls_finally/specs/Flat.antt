-- The tree without `try`. Inner statements are lowered first.
use Rattle.std.specs.Prelude.{ℕ, ◌+◌, ◌*◌, map}
use Rattle.ls_lowered.specs.LoweredTree.{Statement, Block, SetLocal, SetField, AddField, SetItem, Evaluate, If, While}
use Rattle.ls_lowered.specs.LoweredTree.{Return, Try, Guarded, Throw, Leavable, Leave, Statements, Done, Then, Method}
use Rattle.ls_lowered.specs.LoweredTree.{File}
use Rattle.ls_finally_exits.specs.Exits.{finally_of}

-- the try statements
abbrev mutual
  pub tries : Statement → ℕ
  tries (Block ss) = all_tries ss
  tries (If e a b) = tries a + tries b
  tries (While e s) = tries s
  tries (Try b f) = tries b + tries f + 1
  tries (Guarded b n h) = tries b + tries h
  tries (Leavable b xs) = tries b + all_tries xs
  tries _ = 0

  pub all_tries : Statements → ℕ
  all_tries Done = 0
  all_tries (Then s ss) = tries s + all_tries ss

-- from local k on two locals serve each try
abbrev mutual
  pub flat : ℕ → Statement → Statement
  flat k (Block ss) = Block (all_flat k ss)
  flat k (SetLocal n e) = SetLocal n e
  flat k (SetField e f a) = SetField e f a
  flat k (AddField e f a) = AddField e f a
  flat k (SetItem a i e) = SetItem a i e
  flat k (Evaluate e) = Evaluate e
  flat k (If e a b) = If e (flat k a) (flat (k + 2 * tries a) b)
  flat k (While e s) = While e (flat k s)
  flat k (Return e) = Return e
  flat k (Try b f) = finally_of (k + 2 * tries b + 2 * tries f) (flat k b) (flat (k + 2 * tries b) f)
  flat k (Guarded b n h) = Guarded (flat k b) n (flat (k + 2 * tries b) h)
  flat k (Throw n) = Throw n
  flat k (Leavable b xs) = Leavable (flat k b) (all_flat (k + 2 * tries b) xs)
  flat k (Leave n) = Leave n

  pub all_flat : ℕ → Statements → Statements
  all_flat k Done = Done
  all_flat k (Then s ss) = Then (flat k s) (all_flat (k + 2 * tries s) ss)

abbrev pub flat_method : Method → Method
flat_method m = record {
  arguments = m.arguments;
  locals = m.locals + 2 * tries m.body;
  body = flat (m.arguments + m.locals) m.body;
}

abbrev pub flat_file : File → File
flat_file methods = map flat_method methods
