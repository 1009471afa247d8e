-- Nodes of lowered trees.
use Rattle.std.proofs.Common.{◌≡◌, ℕ, ◌+◌, ◌*◌, ◌≤◌, List, arith}
use Rattle.ls_checked.specs.declared.tree.Called.{Called}
use Rattle.ls_checked.specs.declared.tree.Called.TheVariants.{Method as OfMethod, LockIt, UnlockIt, TryIt, AskIt}
use Rattle.ls_checked.specs.declared.tree.Called.TheVariants.{HoldMonitor, FreeMonitor, GetReference, IsMarked, GetBoth}
use Rattle.ls_checked.specs.declared.tree.Called.TheVariants.{SetBoth, CompareAndSet, Attempt}
use Rattle.ls_checked.specs.CheckedTree as checked
use Rattle.ls_lowered.specs.LoweredTree.{Expression, Expressions, End, More, Statement, Statements, Done, Then}
use Rattle.ls_refs.specs.Calls.{own_temporaries, first_of, rest_of, lowered_call}
use Rattle.ls_refs.specs.Temporaries.{temporaries, statement_temporaries}
use Rattle.ls_refs.specs.Lowered.{lowered, all_lowered, lowered_statement, lowered_block, joined, ahead}
use Rattle.ls_refs.proofs.Ahead.{by_inner}
use Rattle.ls_linker.specs.Counts.{nodes, all_nodes, statement_nodes, statements_nodes, checked_nodes}
use Rattle.ls_linker.specs.Counts.{all_checked_nodes, written_nodes, block_nodes}

-- a block is replaced by its statements
joined_nodes : (ss rest : Statements) → statements_nodes (joined ss rest) ≡ statements_nodes ss + statements_nodes rest
joined_nodes Done rest = omega arith
joined_nodes (Then s ss) rest = omega (arith, joined_nodes ss rest)

ahead_few : (s : Statement) (rest : Statements) →
    statements_nodes (ahead s rest) ≤ statement_nodes s + statements_nodes rest
ahead_few s rest =
    by_inner (λ s all. statements_nodes all ≤ statement_nodes s + statements_nodes rest) s rest (omega arith)
    (λ ss. omega (arith, joined_nodes ss rest))

-- an argument that isn't there is a word
split : (es : Expressions) → nodes (first_of es) + all_nodes (rest_of es) ≤ 1 + all_nodes es
split End = omega arith
split (More e es) = omega arith

call_few : (free : ℕ) (called : Called) (o : Expression) (es : Expressions) →
    nodes (lowered_call free called o es) ≤ 15 + nodes o + all_nodes es
call_few free (OfMethod m) o es = omega arith
call_few free LockIt o es = omega arith
call_few free UnlockIt o es = omega arith
call_few free TryIt o es = omega arith
call_few free AskIt o es = omega arith
call_few free (HoldMonitor c) o es = omega arith
call_few free (FreeMonitor c) o es = omega arith
call_few free (GetReference class) o es = omega arith
call_few free (IsMarked class) o es = omega arith
call_few free (GetBoth class) o es = omega (arith, split es)
call_few free SetBoth o es = omega (arith, split es, split (rest_of es))
call_few free CompareAndSet o es = omega (
  arith,
  split es,
  split (rest_of es),
  split (rest_of (rest_of es)),
  split (rest_of (rest_of (rest_of es))),
)
call_few free Attempt o es = omega (arith, split es, split (rest_of es))

module _ (classes : List checked.Class) where
  mutual
    few : (e : checked.Expression) (free : ℕ) → nodes (lowered classes free e) ≤ 16 * checked_nodes e
    few (checked.Literal v) free = omega arith
    few (checked.Slot n) free = omega arith
    few (checked.Field e class field) free = omega (arith, few e free)
    few (checked.Item a i) free = omega (arith, few a free, few i (free + temporaries a))
    few (checked.Negate e) free = omega (arith, few e free)
    few (checked.Not e) free = omega (arith, few e free)
    few (checked.Binary op a b) free = omega (arith, few a free, few b (free + temporaries a))
    few (checked.And a b) free = omega (arith, few a free, few b (free + temporaries a))
    few (checked.Or a b) free = omega (arith, few a free, few b (free + temporaries a))
    few (checked.Call e called es) free =
        omega (
          arith,
          call_few free called (lowered classes (free + own_temporaries called) e)
              (all_lowered classes (free + own_temporaries called + temporaries e) es),
          few e (free + own_temporaries called),
          all_few es (free + own_temporaries called + temporaries e),
        )
    few (checked.MakeObject class es) free = omega (arith, all_few es free)
    few checked.MakeLock free = omega arith
    few (checked.MakeMarkable class es) free = omega (
      arith,
      all_few es free,
      split (all_lowered classes free es),
      split (rest_of (all_lowered classes free es)),
    )
    few (checked.MakeArray e) free = omega (arith, few e free)

    all_few : (es : checked.Expressions) (free : ℕ) →
        all_nodes (all_lowered classes free es) ≤ 16 * all_checked_nodes es
    all_few checked.End free = omega arith
    all_few (checked.More e es) free = omega (arith, few e free, all_few es (free + temporaries e))

  mutual
    -- a statement is lowered to at most 16 nodes for each of its nodes
    pub statement_few : (s : checked.Statement) (free : ℕ) →
        statement_nodes (lowered_statement classes free s) ≤ 16 * written_nodes s
    statement_few (checked.Block ss) free = omega (arith, block_few ss free)
    statement_few (checked.SetSlot n e) free = omega (arith, few e free)
    statement_few (checked.SetField e field v) free = omega (arith, few e free, few v (free + temporaries e))
    statement_few (checked.AddField e field v) free = omega (arith, few e free, few v (free + temporaries e))
    statement_few (checked.SetItem a i v) free = omega (
      arith,
      few a free,
      few i (free + temporaries a),
      few v (free + temporaries a + temporaries i),
    )
    statement_few (checked.Evaluate e) free = omega (arith, few e free)
    statement_few (checked.If e a b) free = omega (
      arith,
      few e free,
      statement_few a (free + temporaries e),
      statement_few b (free + temporaries e + statement_temporaries a),
    )
    statement_few (checked.While e s) free = omega (arith, few e free, statement_few s (free + temporaries e))
    statement_few (checked.Break n) free = omega arith
    statement_few (checked.Continue n) free = omega arith
    statement_few checked.ReturnNothing free = omega arith
    statement_few (checked.ReturnValue e) free = omega (arith, few e free)
    statement_few (checked.Try b f) free = omega (
      arith,
      statement_few b free,
      statement_few f (free + statement_temporaries b),
    )

    block_few : (ss : checked.Statements) (free : ℕ) →
        statements_nodes (lowered_block classes free ss) ≤ 16 * block_nodes ss
    block_few checked.Done free = omega arith
    block_few (checked.Then s ss) free =
        omega (
          arith,
          statement_few s free,
          block_few ss (free + statement_temporaries s),
          ahead_few (lowered_statement classes free s) (lowered_block classes (free + statement_temporaries s) ss),
        )
