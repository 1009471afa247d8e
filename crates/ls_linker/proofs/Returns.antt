-- How many returns a statement has, and its exits.
use Rattle.std.proofs.Common.{◌≡◌, ℕ, suc, ◌+◌, ◌*◌, List, [], ◌∷◌, ◌++◌, length, Option, Some, None, refl, arith}
use Rattle.ls_lowered.specs.LoweredTree.{Statement, Block, SetLocal, SetField, AddField, SetItem, Evaluate, If, While}
use Rattle.ls_lowered.specs.LoweredTree.{Return, Try, Guarded, Throw, Leavable, Leave, Statements, Done, Then}
use Rattle.ls_finally_exits.specs.Exits.{outward, count, Exit, LeaveOut, ReturnOut, leave_exit, exits, all_exits}
use Rattle.ls_finally_exits.specs.Exits.{or_leave, replaced, all_replaced, exit_of, ways, finally_of}
use Rattle.ls_finally.specs.Flat.{tries, flat, all_flat}
use Rattle.ls_linker.specs.declared.ways.Way.{Way}
use Rattle.ls_linker.specs.Costs.{total, scaled, at_number, numbered_beyond, one_beyond, beyond, ways_of}
use Rattle.ls_linker.specs.Costs.{all_ways, returned_one, returned}
use Rattle.ls_linker.proofs.Flats.{HasNoTry, HaveNoTry, flat_none}
use Rattle.ls_linker.proofs.Products.{two_more, distribute, nothing, products}

abbrev mutual
  -- how many returns a statement has
  pub returns : Statement → ℕ
  returns (Block ss) = all_returns ss
  returns (If e a b) = returns a + returns b
  returns (While e s) = returns s
  returns (Return e) = 1
  returns (Try b f) = returns b + returns f
  returns (Guarded b n h) = returns b + returns h
  returns (Leavable b xs) = returns b + all_returns xs
  returns _ = 0

  -- how many returns statements have
  pub all_returns : Statements → ℕ
  all_returns Done = 0
  all_returns (Then s ss) = returns s + all_returns ss

-- how many of some exits are returns
abbrev pub is_return : Exit → ℕ
is_return (LeaveOut n) = 0
is_return ReturnOut = 1

-- how many of some exits are returns
abbrev pub return_exits : List Exit → ℕ
return_exits [] = 0
return_exits (x ∷ xs) = is_return x + return_exits xs

return_append : (xs ys : List Exit) → return_exits (xs ++ ys) ≡ return_exits xs + return_exits ys
return_append [] ys = omega arith
return_append (x ∷ xs) ys = omega (arith, return_append xs ys)

leave_exits : (o : Option ℕ) → return_exits (leave_exit o) ≡ 0
leave_exits None = refl
leave_exits (Some n) = refl

mutual
  -- each return is an exit, whatever numbers are around it
  pub exits_return : (s : Statement) (l : ℕ) → return_exits (exits l s) ≡ returns s
  exits_return (Block ss) l = all_exits_return ss l
  exits_return (SetLocal n e) l = refl
  exits_return (SetField e f a) l = refl
  exits_return (AddField e f a) l = refl
  exits_return (SetItem a i e) l = refl
  exits_return (Evaluate e) l = refl
  exits_return (If e a b) l = omega (arith, return_append (exits l a) (exits l b), exits_return a l, exits_return b l)
  exits_return (While e s) l = exits_return s l
  exits_return (Return e) l = refl
  exits_return (Try b f) l = omega (arith, return_append (exits l b) (exits l f), exits_return b l, exits_return f l)
  exits_return (Guarded b n h) l = omega (
    arith,
    return_append (exits l b) (exits l h),
    exits_return b l,
    exits_return h l,
  )
  exits_return (Throw n) l = refl
  exits_return (Leavable b xs) l =
      let inner : ℕ = suc (count xs) + l in
      omega (arith, return_append (exits inner b) (all_exits l xs), exits_return b inner, all_exits_return xs l)
  exits_return (Leave n) l = leave_exits (outward l n)

  all_exits_return : (ss : Statements) (l : ℕ) → return_exits (all_exits l ss) ≡ all_returns ss
  all_exits_return Done l = refl
  all_exits_return (Then s ss) l = omega (
    arith,
    return_append (exits l s) (all_exits l ss),
    exits_return s l,
    all_exits_return ss l,
  )

leave_returns : (o : Option ℕ) (n j : ℕ) → returns (or_leave o n j) ≡ 0
leave_returns None n j = refl
leave_returns (Some m) n j = refl

mutual
  -- if each exit is a leave, no return is left
  replaced_returns : (s : Statement) (r l j : ℕ) → HasNoTry s → returns (replaced r l j s) ≡ 0
  replaced_returns (Block ss) r l j t = all_replaced_returns ss r l j t
  replaced_returns (SetLocal n e) r l j t = refl
  replaced_returns (SetField e f a) r l j t = refl
  replaced_returns (AddField e f a) r l j t = refl
  replaced_returns (SetItem a i e) r l j t = refl
  replaced_returns (Evaluate e) r l j t = refl
  replaced_returns (If e a b) r l j t = omega (
    arith,
    replaced_returns a r l j t.0,
    replaced_returns b r l (j + length (exits l a)) t.1,
  )
  replaced_returns (While e s) r l j t = replaced_returns s r l j t
  replaced_returns (Return e) r l j t = refl
  replaced_returns (Try b f) r l j t = absurd t
  replaced_returns (Guarded b n h) r l j t = omega (
    arith,
    replaced_returns b r l j t.0,
    replaced_returns h r l (j + length (exits l b)) t.1,
  )
  replaced_returns (Throw n) r l j t = refl
  replaced_returns (Leavable b xs) r l j t =
      omega (
        arith,
        replaced_returns b r (suc (count xs) + l) j t.0,
        all_replaced_returns xs r l (j + length (exits (suc (count xs) + l) b)) t.1,
      )
  replaced_returns (Leave n) r l j t = leave_returns (outward l n) n (l + j)

  all_replaced_returns : (ss : Statements) (r l j : ℕ) → HaveNoTry ss → all_returns (all_replaced r l j ss) ≡ 0
  all_replaced_returns Done r l j t = refl
  all_replaced_returns (Then s ss) r l j t = omega (
    arith,
    replaced_returns s r l j t.0,
    all_replaced_returns ss r l (j + length (exits l s)) t.1,
  )

exit_returns : (r : ℕ) (x : Exit) → returns (exit_of r x) ≡ is_return x
exit_returns r (LeaveOut n) = refl
exit_returns r ReturnOut = refl

ways_return : (xs : List Exit) (r : ℕ) (f : Statement) →
    all_returns (ways r f xs) ≡ length xs * returns f + return_exits xs
ways_return [] r f = omega arith
ways_return (x ∷ xs) r f = omega (arith, exit_returns r x, ways_return xs r f)

finally_returns : (k : ℕ) (b f : Statement) →
    HasNoTry b →
    returns (finally_of k b f) ≡ returns b + (2 + length (exits 0 b)) * returns f
finally_returns k b f t =
    omega (
      arith,
      replaced_returns b (k + 1) 0 2 t,
      ways_return (exits 0 b) (k + 1) f,
      exits_return b 0,
      two_more (length (exits 0 b)) (returns f),
    )

returned_append : (xs ys : List Way) → returned (xs ++ ys) ≡ returned xs + returned ys
returned_append [] ys = omega arith
returned_append (x ∷ xs) ys = omega (arith, returned_append xs ys)

scaled_one : (o : Option ℕ) (n t : ℕ) → returned_one o (n * t) ≡ n * returned_one o t
scaled_one None n t = refl
scaled_one (Some m) n t = omega (arith, nothing n)

pub returned_scaled : (n : ℕ) (ws : List Way) → returned (scaled n ws) ≡ n * returned ws
returned_scaled n [] = omega (arith, nothing n)
returned_scaled n (w ∷ ws) = omega (
  arith,
  scaled_one w.number n w.times,
  returned_scaled n ws,
  distribute n (returned_one w.number w.times) (returned ws),
)

at_return : (t : ℕ) (o : Option ℕ) → returned (at_number t o) ≡ 0
at_return t None = refl
at_return t (Some n) = refl

one_return : (o : Option ℕ) (l t : ℕ) → returned (numbered_beyond l t o) ≡ returned_one o t
one_return None l t = omega arith
one_return (Some n) l t = at_return t (outward l n)

returned_beyond : (l : ℕ) (ws : List Way) → returned (beyond l ws) ≡ returned ws
returned_beyond l [] = refl
returned_beyond l (w ∷ ws) = omega (
  arith,
  returned_append (one_beyond l w) (beyond l ws),
  one_return w.number l w.times,
  returned_beyond l ws,
)

mutual
  -- the returns that are counted are those of the lowered tree
  pub returned_right : (s : Statement) (k : ℕ) (exits_right : (s : Statement) (k : ℕ) →
      total (ways_of s) ≡ length (exits 0 (flat k s))) →
      returned (ways_of s) ≡ returns (flat k s)
  returned_right (Block ss) k x = all_returned_right ss k x
  returned_right (SetLocal n e) k x = refl
  returned_right (SetField e f a) k x = refl
  returned_right (AddField e f a) k x = refl
  returned_right (SetItem a i e) k x = refl
  returned_right (Evaluate e) k x = refl
  returned_right (If e a b) k x = omega (
    arith,
    returned_append (ways_of a) (ways_of b),
    returned_right a k x,
    returned_right b (k + 2 * tries a) x,
  )
  returned_right (While e s) k x = returned_right s k x
  returned_right (Return e) k x = refl
  returned_right (Try b f) k x =
      let after : ℕ = k + 2 * tries b in
      let both = products (total (ways_of b)) (length (exits 0 (flat k b))) (returned (ways_of f))
      (returns (flat after f)) (x b k) (returned_right f after x) in
      omega (
        arith,
        returned_append (ways_of b) (scaled (2 + total (ways_of b)) (ways_of f)),
        returned_scaled (2 + total (ways_of b)) (ways_of f),
        both,
        returned_right b k x,
        finally_returns (k + 2 * tries b + 2 * tries f) (flat k b) (flat after f) (flat_none b k),
      )
  returned_right (Guarded b n h) k x = omega (
    arith,
    returned_append (ways_of b) (ways_of h),
    returned_right b k x,
    returned_right h (k + 2 * tries b) x,
  )
  returned_right (Throw n) k x = refl
  returned_right (Leavable b xs) k x =
      let inner : ℕ = suc (count xs) in
      omega (
        arith,
        returned_append (beyond inner (ways_of b)) (all_ways xs),
        returned_beyond inner (ways_of b),
        returned_right b k x,
        all_returned_right xs (k + 2 * tries b) x,
      )
  returned_right (Leave n) k x = refl

  all_returned_right : (ss : Statements) (k : ℕ) (exits_right : (s : Statement) (k : ℕ) →
      total (ways_of s) ≡ length (exits 0 (flat k s))) →
      returned (all_ways ss) ≡ all_returns (all_flat k ss)
  all_returned_right Done k x = refl
  all_returned_right (Then s ss) k x = omega (
    arith,
    returned_append (ways_of s) (all_ways ss),
    returned_right s k x,
    all_returned_right ss (k + 2 * tries s) x,
  )
