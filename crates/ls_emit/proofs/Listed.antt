-- The sizes that are listed ahead are those that the code needs.
use Rattle.std.proofs.Common.{◌≡◌, ◌∙◌, ℕ, ◌≤◌, ◌++◌, List, [], ◌∷◌, drop, take, length, refl, ap, sym, subst, arith}
use Rattle.std.specs.Prelude.{reverse}
use Rattle.std.proofs.lemmas.List.{reverse-append}
use Rattle.ls_lowered.specs.LoweredTree.{Statement, Block, SetLocal, SetField, AddField, SetItem, Evaluate, If, While}
use Rattle.ls_lowered.specs.LoweredTree.{Return, Try, Guarded, Throw, Leavable, Leave, Statements, Done, Then}
use Rattle.ls_emit.specs.Ahead.{exit_sizes, exit_count, sizes_ahead, block_ahead, exits_ahead, left_by}
use Rattle.ls_emit.specs.Ahead.{left_by_block, left_by_exits, AreAhead, AreAheadOfBlock, AreAheadOfExits}

-- sizes on others, the last first
pub reversed_all : (xs ys : List ℕ) → reverse (xs ++ ys) ≡ reverse ys ++ reverse xs
reversed_all xs ys = reverse-append xs ys

-- one size on others
pub reversed_one : (xs : List ℕ) (x : ℕ) → reverse (xs ++ x ∷ []) ≡ x ∷ reverse xs
reversed_one xs x = reverse-append xs (x ∷ [])

drop_front : {A : Type 0} (xs ys : List A) → drop (length xs) (xs ++ ys) ≡ ys
drop_front [] ys = refl
drop_front (x ∷ xs) ys = drop_front xs ys

take_front : {A : Type 0} (xs ys : List A) → take (length xs) (xs ++ ys) ≡ xs
take_front [] ys = refl
take_front (x ∷ xs) ys = ap (λ l. x ∷ l) (take_front xs ys)

long_front : {A : Type 0} (xs ys : List A) → length xs ≤ length (xs ++ ys)
long_front [] ys = omega arith
long_front (x ∷ xs) ys = let e = long_front xs ys in omega (arith, e)

mutual
  -- what is listed after the sizes of a statement is left
  pub others_left : (s : Statement) (r : List ℕ) → left_by s (sizes_ahead s r) ≡ r
  others_left (Block ss) r = block_left ss r
  others_left (SetLocal n e) r = refl
  others_left (SetField e f a) r = refl
  others_left (AddField e f a) r = refl
  others_left (SetItem a i e) r = refl
  others_left (Evaluate e) r = refl
  others_left (If e a b) r = ap (left_by b) (others_left a (sizes_ahead b r)) ∙ others_left b r
  others_left (While e s) r = others_left s r
  others_left (Return e) r = refl
  others_left (Try b f) r = refl
  others_left (Guarded b n h) r = ap (left_by h) (others_left b (sizes_ahead h r)) ∙ others_left h r
  others_left (Throw n) r = refl
  others_left (Leavable b xs) r =
      ap (λ l. left_by_exits xs (left_by b l)) (drop_front (exit_sizes xs) (sizes_ahead b (exits_ahead xs r)))
      ∙ ap (left_by_exits xs) (others_left b (exits_ahead xs r)) ∙ exits_left xs r
  others_left (Leave n) r = refl

  block_left : (ss : Statements) (r : List ℕ) → left_by_block ss (block_ahead ss r) ≡ r
  block_left Done r = refl
  block_left (Then s ss) r = ap (left_by_block ss) (others_left s (block_ahead ss r)) ∙ block_left ss r

  exits_left : (xs : Statements) (r : List ℕ) → left_by_exits xs (exits_ahead xs r) ≡ r
  exits_left Done r = refl
  exits_left (Then x xs) r = ap (left_by_exits xs) (others_left x (exits_ahead xs r)) ∙ exits_left xs r

mutual
  -- what is listed ahead is there
  pub listed_ahead : (s : Statement) (r : List ℕ) → AreAhead s (sizes_ahead s r)
  listed_ahead (Block ss) r = listed_block ss r
  listed_ahead (SetLocal n e) r = tt
  listed_ahead (SetField e f a) r = tt
  listed_ahead (AddField e f a) r = tt
  listed_ahead (SetItem a i e) r = tt
  listed_ahead (Evaluate e) r = tt
  listed_ahead (If e a b) r = (
    (omega arith, refl),
    listed_ahead a (sizes_ahead b r),
    subst (AreAhead b) (sym (others_left a (sizes_ahead b r))) (listed_ahead b r),
  )
  listed_ahead (While e s) r = listed_ahead s r
  listed_ahead (Return e) r = tt
  listed_ahead (Try b f) r = tt
  listed_ahead (Guarded b n h) r = (
    (omega arith, refl),
    listed_ahead b (sizes_ahead h r),
    subst (AreAhead h) (sym (others_left b (sizes_ahead h r))) (listed_ahead h r),
  )
  listed_ahead (Throw n) r = tt
  listed_ahead (Leavable b xs) r =
      let rest = sizes_ahead b (exits_ahead xs r) in
      let e : drop (exit_count xs) (exit_sizes xs ++ rest) ≡ rest = drop_front (exit_sizes xs) rest in (
        long_front (exit_sizes xs) rest,
        take_front (exit_sizes xs) rest,
        subst (AreAhead b) (sym e) (listed_ahead b (exits_ahead xs r)),
        subst (AreAheadOfExits xs) (sym (ap (left_by b) e ∙ others_left b (exits_ahead xs r))) (listed_exits xs r),
      )
  listed_ahead (Leave n) r = tt

  listed_block : (ss : Statements) (r : List ℕ) → AreAheadOfBlock ss (block_ahead ss r)
  listed_block Done r = tt
  listed_block (Then s ss) r = (
    (omega arith, refl),
    listed_ahead s (block_ahead ss r),
    subst (AreAheadOfBlock ss) (sym (others_left s (block_ahead ss r))) (listed_block ss r),
  )

  listed_exits : (xs : Statements) (r : List ℕ) → AreAheadOfExits xs (exits_ahead xs r)
  listed_exits Done r = tt
  listed_exits (Then x xs) r = (
    listed_ahead x (exits_ahead xs r),
    subst (AreAheadOfExits xs) (sym (others_left x (exits_ahead xs r)))
        (listed_exits xs r),
  )
