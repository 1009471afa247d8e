-- How many exits `try b finally f` has by copies of f.
use Rattle.std.proofs.Common.{◌≡◌, ℕ, suc, ◌+◌, ◌*◌, ◌≤◌, List, [], ◌∷◌, ◌++◌, length, Option, Some, None, refl, ap}
use Rattle.std.proofs.Common.{◌∙◌, arith, length-append}
use Rattle.ls_lowered.specs.LoweredTree.{Statement, Block, SetLocal, SetField, AddField, SetItem, Evaluate, If, While}
use Rattle.ls_lowered.specs.LoweredTree.{Return, Try, Guarded, Throw, Leavable, Leave, Statements, Done, Then}
use Rattle.ls_finally_exits.specs.Exits.{outward, count, Exit, LeaveOut, ReturnOut, leave_exit, exits, all_exits}
use Rattle.ls_finally_exits.specs.Exits.{or_leave, replaced, all_replaced, exit_of, ways, finally_of}
use Rattle.ls_finally_exits.proofs.Numbers.{is_inside}
use Rattle.ls_finally_copies.specs.Ways.{both}
use Rattle.ls_linker.proofs.Outward.{inward, outs, beyond_both}
use Rattle.ls_linker.proofs.Flats.{HasNoTry, HaveNoTry}
use Rattle.ls_linker.proofs.Products.{two_more}

count_replaced : (ss : Statements) (r l j : ℕ) → count (all_replaced r l j ss) ≡ count ss
count_replaced Done r l j = refl
count_replaced (Then s ss) r l j = ap suc (count_replaced ss r l (j + length (exits l s)))

-- a leave that takes the place of an exit leads nowhere beyond
leave_inside : (o : Option ℕ) (n l j m : ℕ) →
    outward l n ≡ o →
    l + j + length (leave_exit o) ≤ m →
    length (exits m (or_leave o n (l + j))) ≡ 0
leave_inside None n l j m e h = let low = inward l n e in ap (λ o. length (leave_exit o))
    (is_inside m n (omega (arith, low, h)))
leave_inside (Some x) n l j m e h = ap (λ o. length (leave_exit o)) (is_inside m (l + j) (omega (arith, h)))

mutual
  inside : (s : Statement) (r l j m : ℕ) →
      HasNoTry s →
      l + j + length (exits l s) ≤ m →
      length (exits m (replaced r l j s)) ≡ 0
  inside (Block ss) r l j m t h = all_inside ss r l j m t h
  inside (SetLocal n e) r l j m t h = refl
  inside (SetField e f a) r l j m t h = refl
  inside (AddField e f a) r l j m t h = refl
  inside (SetItem a i e) r l j m t h = refl
  inside (Evaluate e) r l j m t h = refl
  inside (If e a b) r l j m t h =
      let whole = length-append (exits l a) (exits l b) in
      omega (
        arith,
        length-append (exits m (replaced r l j a)) (exits m (replaced r l (j + length (exits l a)) b)),
        inside a r l j m t.0 (omega (arith, h, whole)),
        inside b r l (j + length (exits l a)) m t.1 (omega (arith, h, whole)),
      )
  inside (While e s) r l j m t h = inside s r l j m t h
  inside (Return e) r l j m t h = ap (λ o. length (leave_exit o ++ [])) (is_inside m (l + j) (omega (arith, h)))
  inside (Try b f) r l j m t h = absurd t
  inside (Guarded b n x) r l j m t h =
      let whole = length-append (exits l b) (exits l x) in
      omega (
        arith,
        length-append (exits m (replaced r l j b)) (exits m (replaced r l (j + length (exits l b)) x)),
        inside b r l j m t.0 (omega (arith, h, whole)),
        inside x r l (j + length (exits l b)) m t.1 (omega (arith, h, whole)),
      )
  inside (Throw n) r l j m t h = refl
  inside (Leavable b xs) r l j m t h =
      let inner : ℕ = suc (count xs) + l in
      let next : ℕ = j + length (exits inner b) in
      let far : ℕ = suc (count (all_replaced r l next xs)) + m in
      let same = count_replaced xs r l next in
      let whole = length-append (exits inner b) (all_exits l xs) in
      omega (
        arith,
        length-append (exits far (replaced r inner j b)) (all_exits m (all_replaced r l next xs)),
        inside b r inner j far t.0 (omega (arith, h, whole, same)),
        all_inside xs r l next m t.1 (omega (arith, h, whole)),
      )
  inside (Leave n) r l j m t h = leave_inside (outward l n) n l j m refl h

  all_inside : (ss : Statements) (r l j m : ℕ) →
      HaveNoTry ss →
      l + j + length (all_exits l ss) ≤ m →
      length (all_exits m (all_replaced r l j ss)) ≡ 0
  all_inside Done r l j m t h = refl
  all_inside (Then s ss) r l j m t h =
      let whole = length-append (exits l s) (all_exits l ss) in
      omega (
        arith,
        length-append (exits m (replaced r l j s)) (all_exits m (all_replaced r l (j + length (exits l s)) ss)),
        inside s r l j m t.0 (omega (arith, h, whole)),
        all_inside ss r l (j + length (exits l s)) m t.1 (omega (arith, h, whole)),
      )

outs_append : (l : ℕ) (xs ys : List Exit) → outs l (xs ++ ys) ≡ outs l xs + outs l ys
outs_append l [] ys = omega arith
outs_append l (LeaveOut n ∷ xs) ys = omega (arith, outs_append l xs ys)
outs_append l (ReturnOut ∷ xs) ys = omega (arith, outs_append l xs ys)

mutual
  -- of the exits beyond some, those that lead beyond more
  pub composed : (s : Statement) (m l : ℕ) → outs l (exits m s) ≡ length (exits (m + l) s)
  composed (Block ss) m l = all_composed ss m l
  composed (SetLocal n e) m l = refl
  composed (SetField e f a) m l = refl
  composed (AddField e f a) m l = refl
  composed (SetItem a i e) m l = refl
  composed (Evaluate e) m l = refl
  composed (If e a b) m l = omega (
    arith,
    outs_append l (exits m a) (exits m b),
    length-append (exits (m + l) a) (exits (m + l) b),
    composed a m l,
    composed b m l,
  )
  composed (While e s) m l = composed s m l
  composed (Return e) m l = refl
  composed (Try b f) m l = omega (
    arith,
    outs_append l (exits m b) (exits m f),
    length-append (exits (m + l) b) (exits (m + l) f),
    composed b m l,
    composed f m l,
  )
  composed (Guarded b n h) m l = omega (
    arith,
    outs_append l (exits m b) (exits m h),
    length-append (exits (m + l) b) (exits (m + l) h),
    composed b m l,
    composed h m l,
  )
  composed (Throw n) m l = refl
  composed (Leavable b xs) m l =
      let inner : ℕ = suc (count xs) + m in
      let outer : ℕ = suc (count xs) + (m + l) in
      let far : inner + l ≡ outer = omega arith in
      let deep = composed b inner l ∙ ap (λ n. length (exits n b)) far in
      omega (
        arith,
        outs_append l (exits inner b) (all_exits m xs),
        length-append (exits outer b) (all_exits (m + l) xs),
        deep,
        all_composed xs m l,
      )
  composed (Leave n) m l = beyond_both m l n

  all_composed : (ss : Statements) (m l : ℕ) → outs l (all_exits m ss) ≡ length (all_exits (m + l) ss)
  all_composed Done m l = refl
  all_composed (Then s ss) m l =
      omega (
        arith,
        outs_append l (exits m s) (all_exits m ss),
        length-append (exits (m + l) s) (all_exits (m + l) ss),
        composed s m l,
        all_composed ss m l,
      )

count_ways : (r : ℕ) (f : Statement) (xs : List Exit) → count (ways r f xs) ≡ length xs
count_ways r f [] = refl
count_ways r f (x ∷ xs) = ap suc (count_ways r f xs)

exit_outs : (r l : ℕ) (x : Exit) (xs : List Exit) → outs l (x ∷ xs) ≡ length (exits l (exit_of r x)) + outs l xs
exit_outs r l (LeaveOut n) xs = refl
exit_outs r l ReturnOut xs = refl

-- the exits of a copy of f with one more statement
copy_exits : (l : ℕ) (f x : Statement) → length (exits l (both f x)) ≡ length (exits l f) + length (exits l x)
copy_exits l f x = omega (arith, length-append (exits l f) (exits l x ++ []), length-append (exits l x) [])

ways_exits : (xs : List Exit) (r l : ℕ) (f : Statement) →
    length (all_exits l (ways r f xs)) ≡ length xs * length (exits l f) + outs l xs
ways_exits [] r l f = omega arith
ways_exits (x ∷ xs) r l f =
    omega (
      arith,
      length-append (exits l (both f (exit_of r x))) (all_exits l (ways r f xs)),
      copy_exits l f (exit_of r x),
      exit_outs r l x xs,
      ways_exits xs r l f,
    )

-- how many exits a `try` by copies has
pub finally_exits : (k l : ℕ) (b f : Statement) →
    HasNoTry b →
    length (exits l (finally_of k b f)) ≡ length (exits l b) + (2 + length (exits 0 b)) * length (exits l f)
finally_exits k l b f t =
    let xs : List Exit = exits 0 b in
    let others : Statements = ways (k + 1) f xs in
    let own : Statements = Then f (Then (both f (Throw k)) others) in
    let far : ℕ = suc (count own) + l in
    let body : Statement = replaced (k + 1) 0 2 b in
    let region : Statement = Guarded body k (Leave 1) in
    let numbers : count own ≡ suc (suc (length xs)) = ap (λ n. suc (suc n)) (count_ways (k + 1) f xs) in
    let none : length (exits far body) ≡ 0 = inside b (k + 1) 0 2 far t (omega (arith, numbers)) in
    let one : length (exits far (Leave 1)) ≡ 0 = ap (λ o. length (leave_exit o))
    (is_inside far 1 (omega (arith, numbers))) in
    let naught : length (exits far (Leave 0) ++ []) ≡ 0 = ap (λ o. length (leave_exit o ++ []))
    (is_inside far 0 (omega arith)) in
    let whole : length (exits l (finally_of k b f)) ≡ length (exits far (both region (Leave 0))) + length
    (all_exits l own) = length-append (exits far (both region (Leave 0))) (all_exits l own) in
    let first : length (exits far (both region (Leave 0))) ≡ length (exits far region) + length
    (exits far (Leave 0) ++ []) = length-append (exits far region) (exits far (Leave 0) ++ []) in
    let guarded : length (exits far region) ≡ length (exits far body) + length (exits far (Leave 1)) = length-append
    (exits far body) (exits far (Leave 1)) in
    let normal : length (all_exits l own) ≡ length (exits l f) + length
    (exits l (both f (Throw k)) ++ all_exits l others) = length-append (exits l f)
    (exits l (both f (Throw k)) ++ all_exits l others) in
    let thrown : length (exits l (both f (Throw k)) ++ all_exits l others) ≡ length (exits l (both f (Throw k))) +
    length (all_exits l others) = length-append (exits l (both f (Throw k))) (all_exits l others) in
    let copy : length (exits l (both f (Throw k))) ≡ length (exits l f) + 0 = copy_exits l f (Throw k) in
    let left : outs l xs ≡ length (exits l b) = composed b 0 l ∙
    ap (λ n. length (exits n b)) (let e : 0 + l ≡ l = omega arith in e) in
    omega (
      arith,
      none,
      one,
      naught,
      whole,
      first,
      guarded,
      normal,
      thrown,
      copy,
      ways_exits xs (k + 1) l f,
      left,
      two_more (length xs) (length (exits l f)),
    )
