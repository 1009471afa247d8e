-- The numbers of an emittable tree are operands.
use Rattle.ls_code.specs.Limits.{most_instructions}
use Rattle.std.proofs.Common.{ℕ, suc, ◌+◌, ◌<◌, ◌≤◌, ◌^◌, arith}
use Rattle.ls_lowered.specs.LoweredTree.{Expression, Word, Local, Unary, Binary, And, Or, Hold, Keep, After, Field}
use Rattle.ls_lowered.specs.LoweredTree.{Item, SetFirst, ReadPair, SetPair, SwapPair, AttemptMark, OnLock, Call}
use Rattle.ls_lowered.specs.LoweredTree.{MakeObject, MakeLock, MakeMarkable, MakeArray, Expressions, End, More}
use Rattle.ls_lowered.specs.LoweredTree.{Statement, Block, SetLocal, SetField, AddField, SetItem, Evaluate, If, While}
use Rattle.ls_lowered.specs.LoweredTree.{Return, Try, Guarded, Throw, Leavable, Leave, Statements, Done, Then, File}
use Rattle.ls_emit.specs.Emittable.{statement_count, IsEmittable, AreEmittable, IsEmittableStatement}
use Rattle.ls_emit.specs.Emittable.{AreEmittableStatements}
use Rattle.ls_emit.specs.Small.{IsSmall, AreSmall, IsSmallStatement, AreSmallStatements}

below : (k n : ℕ) → k ≤ most_instructions → n < k → n < 2 ^ 32
below k n few h = omega arith

module _ (ms : File) (k : ℕ) (few : k ≤ most_instructions) where
  mutual
    pub small : (e : Expression) → IsEmittable ms k e → IsSmall e
    small (Word w) h = h
    small (Local n) h = below k n few h
    small (Unary o e) h = small e h
    small (Binary o a b) h = (small a h.0, small b h.1)
    small (And a b) h = (small a h.0, small b h.1)
    small (Or a b) h = (small a h.0, small b h.1)
    small (Hold a n b) h = (small a h.0, below k n few h.1, small b h.2)
    small (Keep n a b) h = (small a h.0, below k n few h.1, small b h.2)
    small (After a b) h = (small a h.0, small b h.1)
    small (Field e f) h = (small e h.0, h.1)
    small (Item a b) h = (small a h.0, small b h.1)
    small (SetFirst a b) h = (small a h.0, small b h.1)
    small (ReadPair e) h = small e h
    small (SetPair a b) h = (small a h.0, small b h.1)
    small (SwapPair e a b) h = (small e h.0, small a h.1, small b h.2)
    small (AttemptMark e a b) h = (small e h.0, small a h.1, small b h.2)
    small (OnLock o e) h = small e h
    small (Call m e es) h = (h.0.0, small e h.1, all_small es h.2)
    small (MakeObject c m es) h = (h.0, h.1.0, all_small es h.2)
    small MakeLock h = tt
    small (MakeMarkable e) h = small e h
    small (MakeArray e) h = small e h

    pub all_small : (es : Expressions) → AreEmittable ms k es → AreSmall es
    all_small End h = tt
    all_small (More e es) h = (small e h.0, all_small es h.1)

  mutual
    -- a statement that may be emitted is small
    pub small_statement : (s : Statement) (exits : ℕ) → IsEmittableStatement ms k exits s → IsSmallStatement s
    small_statement (Block ss) exits h = all_small_statements ss exits h
    small_statement (SetLocal n e) exits h = (below k n few h.0, small e h.1)
    small_statement (SetField e f a) exits h = (h.0, small e h.1, small a h.2)
    small_statement (AddField e f a) exits h = (h.0, small e h.1, small a h.2)
    small_statement (SetItem a i e) exits h = (small a h.0, small i h.1, small e h.2)
    small_statement (Evaluate e) exits h = small e h
    small_statement (If e a b) exits h = (small e h.0, small_statement a exits h.1, small_statement b exits h.2)
    small_statement (While e s) exits h = (small e h.0, small_statement s exits h.1)
    small_statement (Return e) exits h = small e h
    small_statement (Try b f) exits h = tt
    small_statement (Guarded b n x) exits h = (
      below k n few h.0,
      small_statement b exits h.1,
      small_statement x exits h.2,
    )
    small_statement (Throw n) exits h = below k n few h
    small_statement (Leavable b xs) exits h = (
      small_statement b (suc (statement_count xs) + exits) h.0,
      all_small_statements xs exits h.1,
    )
    small_statement (Leave n) exits h = tt

    pub all_small_statements : (ss : Statements) (exits : ℕ) →
        AreEmittableStatements ms k exits ss →
        AreSmallStatements ss
    all_small_statements Done exits h = tt
    all_small_statements (Then s ss) exits h = (small_statement s exits h.0, all_small_statements ss exits h.1)
