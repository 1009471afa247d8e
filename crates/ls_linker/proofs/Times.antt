-- No way out of a statement is there more often than the statement has copies of finally blocks, and once.
use Rattle.std.proofs.Common.{◌≡◌, ℕ, suc, ◌+◌, ◌*◌, ◌≤◌, List, [], ◌∷◌, ◌++◌, All, Option, Some, None, arith}
use Rattle.std.proofs.lemmas.List.Elements.{All-nil, All-cons, All-head, All-tail, All-same, All-append, All-weaker}
use Rattle.std.proofs.lemmas.Nat.{mul-le}
use Rattle.ls_lowered.specs.LoweredTree.{Statement, Block, SetLocal, SetField, AddField, SetItem, Evaluate, If, While}
use Rattle.ls_lowered.specs.LoweredTree.{Return, Try, Guarded, Throw, Leavable, Leave, Statements, Done, Then}
use Rattle.ls_finally_exits.specs.Exits.{outward, count}
use Rattle.ls_linker.specs.declared.ways.Way.{Way}
use Rattle.ls_linker.specs.Costs.{total, scaled, at_number, numbered_beyond, one_beyond, beyond, once, ways_of}
use Rattle.ls_linker.specs.Costs.{all_ways, copied, all_copied}

-- each is there so often at most
abbrev pub AtMost : ℕ → List Way → Type 0
AtMost n ws = All (λ (w : Way). w.times ≤ n) ws

none : (n : ℕ) → AtMost n []
none n = All-nil (λ (w : Way). w.times ≤ n)

and_more : (n : ℕ) (w : Way) (ws : List Way) → w.times ≤ n → AtMost n ws → AtMost n (w ∷ ws)
and_more n w ws h hs = All-cons (λ (w : Way). w.times ≤ n) w ws h hs

more_often : (m n : ℕ) (ws : List Way) → m ≤ n → AtMost m ws → AtMost n ws
more_often m n ws l h = All-weaker (λ (w : Way). w.times ≤ m) (λ (w : Way). w.times ≤ n) (λ w g. omega (arith, l, g)) ws
    h

two_lists : (m n k : ℕ) (xs ys : List Way) → m ≤ k → n ≤ k → AtMost m xs → AtMost n ys → AtMost k (xs ++ ys)
two_lists m n k xs ys l r h g = All-append (λ (w : Way). w.times ≤ k) xs ys (more_often m k xs l h)
    (more_often n k ys r g)

scaled_times : (n m : ℕ) (ws : List Way) → AtMost m ws → AtMost (n * m) (scaled n ws)
scaled_times n m [] h = none (n * m)
scaled_times n m (w ∷ ws) h =
    let P : Way → Type 0 = λ w. w.times ≤ m in
    let here : n * w.times ≤ n * m = mul-le n w.times n m (omega arith) (All-head P w ws h) in
    and_more (n * m) (record { number = w.number; times = n * w.times }) (scaled n ws) here
    (scaled_times n m ws (All-tail P w ws h))

at_number_times : (t n : ℕ) (o : Option ℕ) → t ≤ n → AtMost n (at_number t o)
at_number_times t n None h = none n
at_number_times t n (Some x) h = and_more n (record { number = Some x; times = t }) [] h (none n)

beyond_one_times : (l t n : ℕ) (o : Option ℕ) → t ≤ n → AtMost n (numbered_beyond l t o)
beyond_one_times l t n None h = and_more n (record { number = None; times = t }) [] h (none n)
beyond_one_times l t n (Some x) h = at_number_times t n (outward l x) h

beyond_times : (l n : ℕ) (ws : List Way) → AtMost n ws → AtMost n (beyond l ws)
beyond_times l n [] h = none n
beyond_times l n (w ∷ ws) h =
    let P : Way → Type 0 = λ w. w.times ≤ n in
    two_lists n n n (one_beyond l w) (beyond l ws) (omega arith) (omega arith)
    (beyond_one_times l w.times n w.number (All-head P w ws h))
    (beyond_times l n ws (All-tail P w ws h))

once_times : (o : Option ℕ) → AtMost (1 + 0) (once o)
once_times o = and_more (1 + 0) (record { number = o; times = 1 }) [] (omega arith) (none (1 + 0))

mutual
  pub times_few : (s : Statement) → AtMost (1 + copied s) (ways_of s)
  times_few (Block ss) = all_times_few ss
  times_few (SetLocal n e) = none (1 + 0)
  times_few (SetField e f a) = none (1 + 0)
  times_few (AddField e f a) = none (1 + 0)
  times_few (SetItem a i e) = none (1 + 0)
  times_few (Evaluate e) = none (1 + 0)
  times_few (If e a b) =
      two_lists (1 + copied a) (1 + copied b) (1 + (copied a + copied b)) (ways_of a) (ways_of b) (omega arith)
      (omega arith) (times_few a) (times_few b)
  times_few (While e s) = times_few s
  times_few (Return e) = once_times None
  times_few (Try b f) =
      let n : ℕ = 2 + total (ways_of b) in
      two_lists (1 + copied b) (n * (1 + copied f)) (1 + (copied b + n * (1 + copied f))) (ways_of b)
      (scaled n (ways_of f)) (omega arith) (omega arith)
      (times_few b) (scaled_times n (1 + copied f) (ways_of f) (times_few f))
  times_few (Guarded b n h) =
      two_lists (1 + copied b) (1 + copied h) (1 + (copied b + copied h)) (ways_of b) (ways_of h) (omega arith)
      (omega arith) (times_few b) (times_few h)
  times_few (Throw n) = none (1 + 0)
  times_few (Leavable b xs) =
      let l : ℕ = suc (count xs) in
      two_lists (1 + copied b) (1 + all_copied xs) (1 + (count xs + copied b + all_copied xs)) (beyond l (ways_of b))
      (all_ways xs) (omega arith) (omega arith)
      (beyond_times l (1 + copied b) (ways_of b) (times_few b)) (all_times_few xs)
  times_few (Leave n) = once_times (Some n)

  all_times_few : (ss : Statements) → AtMost (1 + all_copied ss) (all_ways ss)
  all_times_few Done = none (1 + 0)
  all_times_few (Then s ss) =
      two_lists (1 + copied s) (1 + all_copied ss) (1 + (copied s + all_copied ss)) (ways_of s) (all_ways ss)
      (omega arith) (omega arith) (times_few s) (all_times_few ss)

-- so often as a finally block with few copies inside is there, each way out of it is there seldom enough to be counted
pub scaled_few : (before n : ℕ) (f : Statement) (ws : List Way) →
    ws ≡ ways_of f →
    before + n * (1 + copied f) ≤ 4096 →
    All (λ (w : Way). n * w.times ≤ 4096) ws
scaled_few before n f ws e h =
    let P : Way → Type 0 = λ w. n * w.times ≤ 4096 in
    let m : ℕ = 1 + copied f in
    All-same P ws (ways_of f) e (All-weaker (λ (w : Way). w.times ≤ m) P
    (λ w g. omega (arith, h, mul-le n w.times n m (omega arith) g)) (ways_of f) (times_few f))
