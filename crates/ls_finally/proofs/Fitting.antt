-- The lowered tree speaks of its locals alone.
use Rattle.std.proofs.Common.{ℕ, suc, ◌+◌, ◌*◌, ◌<◌, ◌≤◌, List, [], ◌∷◌, length, Option, Some, None, arith}
use Rattle.ls_lowered.specs.LoweredTree.{Expression, Word, Local, Unary, Binary, And, Or, Hold, Keep, After, Field}
use Rattle.ls_lowered.specs.LoweredTree.{Item, SetFirst, ReadPair, SetPair, SwapPair, AttemptMark, OnLock, Call}
use Rattle.ls_lowered.specs.LoweredTree.{MakeObject, MakeLock, MakeMarkable, MakeArray, Expressions, End, More}
use Rattle.ls_lowered.specs.LoweredTree.{Statement, Block, SetLocal, SetField, AddField, SetItem, Evaluate, If, While}
use Rattle.ls_lowered.specs.LoweredTree.{Return, Try, Guarded, Throw, Leavable, Leave, Statements, Done, Then, File}
use Rattle.ls_finally_exits.specs.Exits.{outward, count, Exit, LeaveOut, ReturnOut, exits, or_leave, replaced}
use Rattle.ls_finally_exits.specs.Exits.{all_replaced, exit_of, ways, finally_of}
use Rattle.ls_finally.specs.Flat.{tries, all_tries, flat, all_flat}
use Rattle.ls_finally.specs.Agreement.{IsBelow, AreBelow, Fits, AllFit}
use Rattle.ls_finally.specs.Placed.{IsPlacedStatement, ArePlaced}

module _ (k m : ℕ) (le : k ≤ m) where
  mutual
    pub below_more : (e : Expression) → IsBelow k e → IsBelow m e
    below_more (Word w) t = tt
    below_more (Local n) t = omega arith
    below_more (Unary op e) t = below_more e t
    below_more (Binary op a b) t = (below_more a t.0, below_more b t.1)
    below_more (And a b) t = (below_more a t.0, below_more b t.1)
    below_more (Or a b) t = (below_more a t.0, below_more b t.1)
    below_more (Hold a n b) t = (omega (arith, t.0), below_more a t.1, below_more b t.2)
    below_more (Keep n a b) t = (omega (arith, t.0), below_more a t.1, below_more b t.2)
    below_more (After a b) t = (below_more a t.0, below_more b t.1)
    below_more (Field e f) t = below_more e t
    below_more (Item a i) t = (below_more a t.0, below_more i t.1)
    below_more (SetFirst a e) t = (below_more a t.0, below_more e t.1)
    below_more (ReadPair e) t = below_more e t
    below_more (SetPair e a) t = (below_more e t.0, below_more a t.1)
    below_more (SwapPair e a b) t = (below_more e t.0, below_more a t.1, below_more b t.2)
    below_more (AttemptMark e a b) t = (below_more e t.0, below_more a t.1, below_more b t.2)
    below_more (OnLock op e) t = below_more e t
    below_more (Call n e es) t = (below_more e t.0, all_below_more es t.1)
    below_more (MakeObject c n es) t = all_below_more es t
    below_more MakeLock t = tt
    below_more (MakeMarkable e) t = below_more e t
    below_more (MakeArray e) t = below_more e t

    all_below_more : (es : Expressions) → AreBelow k es → AreBelow m es
    all_below_more End t = tt
    all_below_more (More e es) t = (below_more e t.0, all_below_more es t.1)

  mutual
    -- a statement on locals below k is one on locals below any larger number
    pub fits_more : (s : Statement) → Fits k s → Fits m s
    fits_more (Block ss) t = all_fit_more ss t
    fits_more (SetLocal n x) t = (omega (arith, t.0), below_more x t.1)
    fits_more (SetField x f a) t = (below_more x t.0, below_more a t.1)
    fits_more (AddField x f a) t = (below_more x t.0, below_more a t.1)
    fits_more (SetItem a i x) t = (below_more a t.0, below_more i t.1, below_more x t.2)
    fits_more (Evaluate x) t = below_more x t
    fits_more (If x a b) t = (below_more x t.0, fits_more a t.1, fits_more b t.2)
    fits_more (While x s) t = (below_more x t.0, fits_more s t.1)
    fits_more (Return x) t = below_more x t
    fits_more (Try b f) t = absurd t
    fits_more (Guarded b n x) t = (omega (arith, t.0), fits_more b t.1, fits_more x t.2)
    fits_more (Throw n) t = omega arith
    fits_more (Leavable b xs) t = (fits_more b t.0, all_fit_more xs t.1)
    fits_more (Leave n) t = tt

    pub all_fit_more : (ss : Statements) → AllFit k ss → AllFit m ss
    all_fit_more Done t = tt
    all_fit_more (Then s ss) t = (fits_more s t.0, all_fit_more ss t.1)

module _ (r k m : ℕ) (le : k ≤ m) (lt : r < m) where
  leave_fits : (o : Option ℕ) (n j : ℕ) → Fits m (or_leave o n j)
  leave_fits None n j = tt
  leave_fits (Some beyond) n j = tt

  mutual
    replaced_fits : (s : Statement) (l j : ℕ) → Fits k s → Fits m (replaced r l j s)
    replaced_fits (Block ss) l j t = all_replaced_fit ss l j t
    replaced_fits (SetLocal i x) l j t = fits_more k m le (SetLocal i x) t
    replaced_fits (SetField x f a) l j t = fits_more k m le (SetField x f a) t
    replaced_fits (AddField x f a) l j t = fits_more k m le (AddField x f a) t
    replaced_fits (SetItem a i x) l j t = fits_more k m le (SetItem a i x) t
    replaced_fits (Evaluate x) l j t = fits_more k m le (Evaluate x) t
    replaced_fits (If x a b) l j t = (
      below_more k m le x t.0,
      replaced_fits a l j t.1,
      replaced_fits b l (j + length (exits l a)) t.2,
    )
    replaced_fits (While x s) l j t = (below_more k m le x t.0, replaced_fits s l j t.1)
    replaced_fits (Return x) l j t = ((lt, below_more k m le x t), (tt, tt))
    replaced_fits (Try b f) l j t = absurd t
    replaced_fits (Guarded b i x) l j t = (
      omega (arith, t.0),
      replaced_fits b l j t.1,
      replaced_fits x l (j + length (exits l b)) t.2,
    )
    replaced_fits (Throw i) l j t = omega arith
    replaced_fits (Leavable b xs) l j t = (
      replaced_fits b (suc (count xs) + l) j t.0,
      all_replaced_fit xs l (j + length (exits (suc (count xs) + l) b)) t.1,
    )
    replaced_fits (Leave i) l j t = leave_fits (outward l i) i (l + j)

    all_replaced_fit : (ss : Statements) (l j : ℕ) → AllFit k ss → AllFit m (all_replaced r l j ss)
    all_replaced_fit Done l j t = tt
    all_replaced_fit (Then s ss) l j t = (replaced_fits s l j t.0, all_replaced_fit ss l (j + length (exits l s)) t.1)

  exit_fits : (x : Exit) → Fits m (exit_of r x)
  exit_fits (LeaveOut n) = tt
  exit_fits ReturnOut = lt

  ways_fit : (f : Statement) (xs : List Exit) → Fits m f → AllFit m (ways r f xs)
  ways_fit f [] t = tt
  ways_fit f (x ∷ xs) t = ((t, (exit_fits x, tt)), ways_fit f xs t)

pub finally_fits : (k : ℕ) (b f : Statement) → Fits k b → Fits k f → Fits (k + 2) (finally_of k b f)
finally_fits k b f t u =
    let low : k < k + 2 = omega arith in
    let f_fits = fits_more k (k + 2) (omega arith) f u in (
      ((low, replaced_fits (k + 1) k (k + 2) (omega arith) (omega arith) b 0 2 t, tt), (tt, tt)),
      (f_fits, ((f_fits, (low, tt)), ways_fit (k + 1) k (k + 2) (omega arith) (omega arith) f (exits 0 b) f_fits)),
    )

module _ (ms : File) (m : ℕ) where
  mutual
    -- the lowered form of a statement has its own locals, and two for each `try`
    pub flat_fits : (s : Statement) (k : ℕ) → m ≤ k → IsPlacedStatement ms m s → Fits (k + 2 * tries s) (flat k s)
    flat_fits (Block ss) k h t = all_flat_fit ss k h t
    flat_fits (SetLocal n e) k h t = (omega (arith, t.0), below_more m (k + 2 * 0) (omega arith) e t.1.0)
    flat_fits (SetField e f a) k h t = (
      below_more m (k + 2 * 0) (omega arith) e t.0.0,
      below_more m (k + 2 * 0) (omega arith) a t.1.0,
    )
    flat_fits (AddField e f a) k h t = (
      below_more m (k + 2 * 0) (omega arith) e t.0.0,
      below_more m (k + 2 * 0) (omega arith) a t.1.0,
    )
    flat_fits (SetItem a i e) k h t = (
      below_more m (k + 2 * 0) (omega arith) a t.0.0,
      below_more m (k + 2 * 0) (omega arith) i t.1.0,
      below_more m (k + 2 * 0) (omega arith) e t.2.0,
    )
    flat_fits (Evaluate e) k h t = below_more m (k + 2 * 0) (omega arith) e t.0
    flat_fits (If e a b) k h t = (
      below_more m (k + 2 * (tries a + tries b)) (omega arith) e t.0.0,
      fits_more (k + 2 * tries a) (k + 2 * (tries a + tries b)) (omega arith) (flat k a) (flat_fits a k h t.1),
      fits_more (k + 2 * tries a + 2 * tries b) (k + 2 * (tries a + tries b)) (omega arith) (flat (k + 2 * tries a) b)
          (flat_fits b (k + 2 * tries a) (omega arith) t.2),
    )
    flat_fits (While e s) k h t = (below_more m (k + 2 * tries s) (omega arith) e t.0.0, flat_fits s k h t.1)
    flat_fits (Return e) k h t = below_more m (k + 2 * 0) (omega arith) e t.0
    flat_fits (Try b f) k h t =
        fits_more (k + 2 * tries b + 2 * tries f + 2) (k + 2 * (tries b + tries f + 1)) (omega arith)
        (finally_of (k + 2 * tries b + 2 * tries f) (flat k b) (flat (k + 2 * tries b) f))
        (finally_fits (k + 2 * tries b + 2 * tries f) (flat k b) (flat (k + 2 * tries b) f)
        (fits_more (k + 2 * tries b) (k + 2 * tries b + 2 * tries f) (omega arith) (flat k b) (flat_fits b k h t.0))
        (flat_fits f (k + 2 * tries b) (omega arith) t.1))
    flat_fits (Guarded b n x) k h t = absurd t
    flat_fits (Throw n) k h t = absurd t
    flat_fits (Leavable b xs) k h t = (
      fits_more (k + 2 * tries b) (k + 2 * (tries b + all_tries xs)) (omega arith) (flat k b) (flat_fits b k h t.0),
      all_fit_more (k + 2 * tries b + 2 * all_tries xs) (k + 2 * (tries b + all_tries xs)) (omega arith)
          (all_flat (k + 2 * tries b) xs) (all_flat_fit xs (k + 2 * tries b) (omega arith) t.1),
    )
    flat_fits (Leave n) k h t = tt

    all_flat_fit : (ss : Statements) (k : ℕ) → m ≤ k → ArePlaced ms m ss → AllFit (k + 2 * all_tries ss) (all_flat k ss)
    all_flat_fit Done k h t = tt
    all_flat_fit (Then s ss) k h t = (
      fits_more (k + 2 * tries s) (k + 2 * (tries s + all_tries ss)) (omega arith) (flat k s) (flat_fits s k h t.0),
      all_fit_more (k + 2 * tries s + 2 * all_tries ss) (k + 2 * (tries s + all_tries ss)) (omega arith)
          (all_flat (k + 2 * tries s) ss) (all_flat_fit ss (k + 2 * tries s) (omega arith) t.1),
    )
