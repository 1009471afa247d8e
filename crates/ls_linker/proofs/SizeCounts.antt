-- How long the code of `try b finally f` by copies of f is.
use Rattle.std.proofs.Common.{◌≡◌, ℕ, suc, ◌+◌, ◌*◌, List, [], ◌∷◌, length, Option, Some, None, refl, arith}
use Rattle.ls_lowered.specs.LoweredTree.{Statement, Block, SetLocal, SetField, AddField, SetItem, Evaluate, If, While}
use Rattle.ls_lowered.specs.LoweredTree.{Return, Try, Guarded, Throw, Leavable, Leave, Statements, Done, Then}
use Rattle.ls_finally_exits.specs.Exits.{outward, count, Exit, LeaveOut, ReturnOut, exits, or_leave, replaced}
use Rattle.ls_finally_exits.specs.Exits.{all_replaced, exit_of, ways, finally_of}
use Rattle.ls_emit.specs.Statements.{statement_size, statements_size, exits_size}
use Rattle.ls_linker.proofs.Flats.{HasNoTry, HaveNoTry}
use Rattle.ls_linker.proofs.Returns.{returns, all_returns, is_return, return_exits, exits_return}
use Rattle.ls_linker.proofs.Products.{two_more}

leave_size : (o : Option ℕ) (n j : ℕ) → statement_size (or_leave o n j) ≡ 1
leave_size None n j = refl
leave_size (Some m) n j = refl

mutual
  -- a return is two instructions in the place of one
  replaced_size : (s : Statement) (r l j : ℕ) →
      HasNoTry s →
      statement_size (replaced r l j s) ≡ statement_size s + returns s
  replaced_size (Block ss) r l j t = all_replaced_size ss r l j t
  replaced_size (SetLocal n e) r l j t = omega arith
  replaced_size (SetField e f a) r l j t = omega arith
  replaced_size (AddField e f a) r l j t = omega arith
  replaced_size (SetItem a i e) r l j t = omega arith
  replaced_size (Evaluate e) r l j t = omega arith
  replaced_size (If e a b) r l j t = omega (
    arith,
    replaced_size a r l j t.0,
    replaced_size b r l (j + length (exits l a)) t.1,
  )
  replaced_size (While e s) r l j t = omega (arith, replaced_size s r l j t)
  replaced_size (Return e) r l j t = omega arith
  replaced_size (Try b f) r l j t = absurd t
  replaced_size (Guarded b n h) r l j t = omega (
    arith,
    replaced_size b r l j t.0,
    replaced_size h r l (j + length (exits l b)) t.1,
  )
  replaced_size (Throw n) r l j t = omega arith
  replaced_size (Leavable b xs) r l j t =
      omega (
        arith,
        replaced_size b r (suc (count xs) + l) j t.0,
        exits_replaced_size xs r l (j + length (exits (suc (count xs) + l) b)) t.1,
      )
  replaced_size (Leave n) r l j t = omega (arith, leave_size (outward l n) n (l + j))

  all_replaced_size : (ss : Statements) (r l j : ℕ) →
      HaveNoTry ss →
      statements_size (all_replaced r l j ss) ≡ statements_size ss + all_returns ss
  all_replaced_size Done r l j t = refl
  all_replaced_size (Then s ss) r l j t = omega (
    arith,
    replaced_size s r l j t.0,
    all_replaced_size ss r l (j + length (exits l s)) t.1,
  )

  exits_replaced_size : (xs : Statements) (r l j : ℕ) →
      HaveNoTry xs →
      exits_size (all_replaced r l j xs) ≡ exits_size xs + all_returns xs
  exits_replaced_size Done r l j t = refl
  exits_replaced_size (Then x xs) r l j t = omega (
    arith,
    replaced_size x r l j t.0,
    exits_replaced_size xs r l (j + length (exits l x)) t.1,
  )

exit_size : (r : ℕ) (x : Exit) → statement_size (exit_of r x) ≡ 1 + is_return x
exit_size r (LeaveOut n) = refl
exit_size r ReturnOut = refl

ways_size : (xs : List Exit) (r : ℕ) (f : Statement) →
    exits_size (ways r f xs) ≡ length xs * (statement_size f + 2) + return_exits xs
ways_size [] r f = omega arith
ways_size (x ∷ xs) r f = omega (arith, exit_size r x, ways_size xs r f)

-- how long the code of a `try` by copies is
pub finally_size : (k : ℕ) (b f : Statement) → HasNoTry b →
    statement_size (finally_of k b f) ≡ statement_size b + (2 + length (exits 0 b)) * (statement_size f + 2) + 2 *
    returns b + 4
finally_size k b f t =
    omega (
      arith,
      replaced_size b (k + 1) 0 2 t,
      ways_size (exits 0 b) (k + 1) f,
      exits_return b 0,
      two_more (length (exits 0 b)) (statement_size f + 2),
    )
