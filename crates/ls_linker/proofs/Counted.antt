-- What is counted of a statement is what it has without `try`.
use Rattle.std.proofs.Common.{◌≡◌, ℕ, zero, suc, ◌+◌, ◌*◌, Bool, true, false, cond, List, [], ◌∷◌, ◌++◌, length, Option}
use Rattle.std.proofs.Common.{Some, None, refl, ap, sym, ◌∙◌, arith, length-append, is_some}
use Rattle.ls_lowered.specs.LoweredTree.{Statement, Block, SetLocal, SetField, AddField, SetItem, Evaluate, If, While}
use Rattle.ls_lowered.specs.LoweredTree.{Return, Try, Guarded, Throw, Leavable, Leave, Statements, Done, Then}
use Rattle.ls_finally_exits.specs.Exits.{outward, count, leave_exit, exits, all_exits}
use Rattle.ls_finally.specs.Flat.{tries, flat, all_flat}
use Rattle.ls_finally.specs.Counts.{copies, all_copies}
use Rattle.ls_emit.specs.Statements.{statement_size, statements_size, exits_size}
use Rattle.ls_linker.specs.declared.ways.Way.{Way}
use Rattle.ls_linker.specs.Costs.{total, scaled, at_number, numbered_beyond, one_beyond, beyond, ways_of}
use Rattle.ls_linker.specs.Costs.{all_ways, copied, all_copied, flat_size, all_flat_size}
use Rattle.ls_linker.proofs.Flats.{flat_none}
use Rattle.ls_linker.proofs.ExitCounts.{finally_exits}
use Rattle.ls_linker.proofs.Returns.{returned_right}
use Rattle.ls_linker.proofs.SizeCounts.{finally_size}
use Rattle.ls_linker.proofs.Products.{distribute, nothing, products}

-- whether a leave or a return leads beyond this many numbers
abbrev leads : ℕ → Option ℕ → Bool
leads l None = true
leads l (Some n) = is_some (outward l n)

-- how many ways lead beyond this many numbers
abbrev pub reach : ℕ → List Way → ℕ
reach l [] = 0
reach l (w ∷ ws) = cond (leads l w.number) w.times 0 + reach l ws

reach_append : (l : ℕ) (xs ys : List Way) → reach l (xs ++ ys) ≡ reach l xs + reach l ys
reach_append l [] ys = omega arith
reach_append l (x ∷ xs) ys = omega (arith, reach_append l xs ys)

scaled_one : (b : Bool) (n t : ℕ) → cond b (n * t) 0 ≡ n * cond b t 0
scaled_one true n t = refl
scaled_one false n t = sym (nothing n)

reach_scaled : (l n : ℕ) (ws : List Way) → reach l (scaled n ws) ≡ n * reach l ws
reach_scaled l n [] = sym (nothing n)
reach_scaled l n (w ∷ ws) =
    omega (
      arith,
      scaled_one (leads l w.number) n w.times,
      reach_scaled l n ws,
      distribute n (cond (leads l w.number) w.times 0) (reach l ws),
    )

-- a leave that leads beyond some, and then beyond more
moved_leave : (o : Option ℕ) (l m n t : ℕ) →
    outward m n ≡ o →
    reach l (at_number t o) ≡ cond (is_some (outward (m + l) n)) t 0
moved_leave o l m n t e = leave_so m n o e
  where
    leave_so : (m n : ℕ) (o : Option ℕ) →
        outward m n ≡ o →
        reach l (at_number t o) ≡ cond (is_some (outward (m + l) n)) t 0
    leave_so zero n None e = absurd (let f : ⊥ = cc e in f)
    leave_so zero n (Some x) e =
        let same : n ≡ x = cc e in
        let none : l ≡ zero + l = omega arith in
        omega (arith, ap (λ z. cond (is_some (outward l z)) t 0) same, ap (λ z. cond (is_some (outward z n)) t 0) none)
    leave_so (suc m) zero None e =
        let one : suc (m + l) ≡ suc m + l = omega arith in
        ap (λ z. cond (is_some (outward z zero)) t 0) one
    leave_so (suc m) zero (Some x) e = absurd (let f : ⊥ = cc e in f)
    leave_so (suc m) (suc n) o e =
        let one : suc (m + l) ≡ suc m + l = omega arith in
        leave_so m n o e ∙ ap (λ z. cond (is_some (outward z (suc n))) t 0) one

moved_one : (o : Option ℕ) (l m t : ℕ) → reach l (numbered_beyond m t o) ≡ cond (leads (m + l) o) t 0
moved_one None l m t = omega arith
moved_one (Some n) l m t = moved_leave (outward m n) l m n t refl

reach_beyond : (l m : ℕ) (ws : List Way) → reach l (beyond m ws) ≡ reach (m + l) ws
reach_beyond l m [] = refl
reach_beyond l m (w ∷ ws) =
    omega (arith, reach_append l (one_beyond m w) (beyond m ws), moved_one w.number l m w.times, reach_beyond l m ws)

led : (o : Option ℕ) (t : ℕ) → cond (leads 0 o) t 0 ≡ t
led None t = refl
led (Some n) t = refl

reach_all : (ws : List Way) → reach 0 ws ≡ total ws
reach_all [] = refl
reach_all (w ∷ ws) = omega (arith, led w.number w.times, reach_all ws)

one_leave : (o : Option ℕ) → cond (is_some o) 1 0 ≡ length (leave_exit o)
one_leave None = refl
one_leave (Some n) = refl

count_flat : (ss : Statements) (k : ℕ) → count (all_flat k ss) ≡ count ss
count_flat Done k = refl
count_flat (Then s ss) k = ap suc (count_flat ss (k + 2 * tries s))

mutual
  pub ways_right : (s : Statement) (k l : ℕ) → reach l (ways_of s) ≡ length (exits l (flat k s))
  ways_right (Block ss) k l = all_ways_right ss k l
  ways_right (SetLocal n e) k l = refl
  ways_right (SetField e f a) k l = refl
  ways_right (AddField e f a) k l = refl
  ways_right (SetItem a i e) k l = refl
  ways_right (Evaluate e) k l = refl
  ways_right (If e a b) k l =
      omega (
        arith,
        reach_append l (ways_of a) (ways_of b),
        length-append (exits l (flat k a))
            (exits l (flat (k + 2 * tries a) b)),
        ways_right a k l,
        ways_right b (k + 2 * tries a) l,
      )
  ways_right (While e s) k l = ways_right s k l
  ways_right (Return e) k l = refl
  ways_right (Try b f) k l =
      let after : ℕ = k + 2 * tries b in
      let both = products (total (ways_of b)) (length (exits 0 (flat k b))) (reach l (ways_of f))
      (length (exits l (flat after f))) (sym (reach_all (ways_of b)) ∙ ways_right b k 0) (ways_right f after l)
      in
      omega (
        arith,
        reach_append l (ways_of b) (scaled (2 + total (ways_of b)) (ways_of f)),
        reach_scaled l (2 + total (ways_of b)) (ways_of f),
        both,
        ways_right b k l,
        finally_exits (k + 2 * tries b + 2 * tries f) l (flat k b) (flat after f) (flat_none b k),
      )
  ways_right (Guarded b n h) k l =
      omega (
        arith,
        reach_append l (ways_of b) (ways_of h),
        length-append (exits l (flat k b))
            (exits l (flat (k + 2 * tries b) h)),
        ways_right b k l,
        ways_right h (k + 2 * tries b) l,
      )
  ways_right (Throw n) k l = refl
  ways_right (Leavable b xs) k l =
      let after : ℕ = k + 2 * tries b in
      let inner : ℕ = suc (count xs) in
      let numbers = count_flat xs after in
      let far : inner + l ≡ suc (count (all_flat after xs)) + l = omega (arith, numbers) in
      let deep = ways_right b k (inner + l) ∙ ap (λ n. length (exits n (flat k b))) far in
      omega (
        arith,
        reach_append l (beyond inner (ways_of b)) (all_ways xs),
        reach_beyond l inner (ways_of b),
        deep,
        all_ways_right xs after l,
        length-append (exits (suc (count (all_flat after xs)) + l) (flat k b)) (all_exits l (all_flat after xs)),
      )
  ways_right (Leave n) k l = omega (arith, one_leave (outward l n))

  all_ways_right : (ss : Statements) (k l : ℕ) → reach l (all_ways ss) ≡ length (all_exits l (all_flat k ss))
  all_ways_right Done k l = refl
  all_ways_right (Then s ss) k l =
      omega (
        arith,
        reach_append l (ways_of s) (all_ways ss),
        length-append (exits l (flat k s)) (all_exits l (all_flat (k + 2 * tries s) ss)),
        ways_right s k l,
        all_ways_right ss (k + 2 * tries s) l,
      )

exits_right : (s : Statement) (k : ℕ) → total (ways_of s) ≡ length (exits 0 (flat k s))
exits_right s k = sym (reach_all (ways_of s)) ∙ ways_right s k 0

mutual
  -- the copies that are counted are those of the lowering
  pub copied_right : (s : Statement) (k : ℕ) → copies k s ≡ copied s
  copied_right (Block ss) k = all_copied_right ss k
  copied_right (SetLocal n e) k = refl
  copied_right (SetField e f a) k = refl
  copied_right (AddField e f a) k = refl
  copied_right (SetItem a i e) k = refl
  copied_right (Evaluate e) k = refl
  copied_right (If e a b) k = omega (arith, copied_right a k, copied_right b (k + 2 * tries a))
  copied_right (While e s) k = copied_right s k
  copied_right (Return e) k = refl
  copied_right (Try b f) k =
      let inner : 1 + copied f ≡ 1 + copies (k + 2 * tries b) f = ap (λ n. 1 + n)
      (sym (copied_right f (k + 2 * tries b))) in
      omega (
        arith,
        copied_right b k,
        products (total (ways_of b)) (length (exits 0 (flat k b))) (1 + copied f)
            (1 + copies (k + 2 * tries b) f) (exits_right b k) inner,
      )
  copied_right (Guarded b n h) k = omega (arith, copied_right b k, copied_right h (k + 2 * tries b))
  copied_right (Throw n) k = refl
  copied_right (Leavable b xs) k = omega (arith, copied_right b k, all_copied_right xs (k + 2 * tries b))
  copied_right (Leave n) k = refl

  all_copied_right : (ss : Statements) (k : ℕ) → all_copies k ss ≡ all_copied ss
  all_copied_right Done k = refl
  all_copied_right (Then s ss) k = omega (arith, copied_right s k, all_copied_right ss (k + 2 * tries s))

mutual
  -- the instructions that are counted are those of the lowered tree
  pub size_right : (s : Statement) (k : ℕ) → flat_size s ≡ statement_size (flat k s)
  size_right (Block ss) k = all_size_right ss k
  size_right (SetLocal n e) k = refl
  size_right (SetField e f a) k = refl
  size_right (AddField e f a) k = refl
  size_right (SetItem a i e) k = refl
  size_right (Evaluate e) k = refl
  size_right (If e a b) k = omega (arith, size_right a k, size_right b (k + 2 * tries a))
  size_right (While e s) k = omega (arith, size_right s k)
  size_right (Return e) k = refl
  size_right (Try b f) k =
      let after : ℕ = k + 2 * tries b in
      let inner : flat_size f + 2 ≡ statement_size (flat after f) + 2 = ap (λ n. n + 2) (size_right f after) in
      omega (
        arith,
        products (total (ways_of b)) (length (exits 0 (flat k b))) (flat_size f + 2) (statement_size (flat after f) + 2)
            (exits_right b k) inner,
        returned_right b k exits_right,
        size_right b k,
        finally_size (k + 2 * tries b + 2 * tries f) (flat k b) (flat after f) (flat_none b k),
      )
  size_right (Guarded b n h) k = omega (arith, size_right b k, size_right h (k + 2 * tries b))
  size_right (Throw n) k = refl
  size_right (Leavable b xs) k = omega (arith, size_right b k, exits_size_right xs (k + 2 * tries b))
  size_right (Leave n) k = refl

  all_size_right : (ss : Statements) (k : ℕ) → all_flat_size ss ≡ statements_size (all_flat k ss)
  all_size_right Done k = refl
  all_size_right (Then s ss) k = omega (arith, size_right s k, all_size_right ss (k + 2 * tries s))

  -- each exit comes after a jump
  exits_size_right : (xs : Statements) (k : ℕ) → count xs + all_flat_size xs ≡ exits_size (all_flat k xs)
  exits_size_right Done k = refl
  exits_size_right (Then x xs) k = omega (arith, size_right x k, exits_size_right xs (k + 2 * tries x))
