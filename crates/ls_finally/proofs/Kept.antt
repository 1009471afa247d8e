-- A statement that needs no lowering stays as it is.
use Rattle.std.proofs.Common.{◌≡◌, ℕ, ◌+◌, ◌*◌, ◌≤◌, refl, sym, ap, ap₂, ◌∙◌, length, List, [], ◌∷◌, arith}
use Rattle.ls_lowered.specs.LoweredTree.{Statement, Block, SetLocal, SetField, AddField, SetItem, Evaluate, If, While}
use Rattle.ls_lowered.specs.LoweredTree.{Return, Try, Guarded, Throw, Leavable, Leave, Statements, Done, Then, Method}
use Rattle.ls_finally.specs.Flat.{tries, all_tries, flat, all_flat, flat_method}
use Rattle.ls_lowered.specs.declared.tree.Statement as code
use Rattle.ls_lowered.specs.Plain.{statements_of}
use Rattle.ls_finally.specs.Stays.{IsFlat, AreFlat, HasNone}
use Rattle.ls_finally.specs.Counts.{copies, all_copies, copies_of}
use Rattle.ls_finally_exits.specs.Exits.{exits, finally_of}

-- an empty list has no exits
pub has_none : (ss : List code.Statement) → length ss ≡ 0 → HasNone (statements_of ss)
has_none [] e = tt
has_none (s ∷ ss) e = omega (arith, e)

mutual
  -- it has no try
  pub no_tries : (s : Statement) → IsFlat s → tries s ≡ 0
  no_tries (Block ss) h = no_tries_in ss h
  no_tries (SetLocal n e) h = refl
  no_tries (SetField e f a) h = refl
  no_tries (AddField e f a) h = refl
  no_tries (SetItem a i e) h = refl
  no_tries (Evaluate e) h = refl
  no_tries (If e a b) h = let p = no_tries a h.0 in let q = no_tries b h.1 in omega (arith, p, q)
  no_tries (While e s) h = no_tries s h
  no_tries (Return e) h = refl
  no_tries (Try b f) h = absurd h
  no_tries (Guarded b n x) h = let p = no_tries b h.0 in let q = no_tries x h.1 in omega (arith, p, q)
  no_tries (Throw n) h = refl
  no_tries (Leavable b Done) h = let p = no_tries b h.0 in omega (arith, p)
  no_tries (Leavable b (Then x xs)) h = absurd h.1
  no_tries (Leave n) h = refl

  pub no_tries_in : (ss : Statements) → AreFlat ss → all_tries ss ≡ 0
  no_tries_in Done h = refl
  no_tries_in (Then s ss) h = let p = no_tries s h.0 in let q = no_tries_in ss h.1 in omega (arith, p, q)

mutual
  -- its lowered form is the same
  pub stays : (k : ℕ) (s : Statement) → IsFlat s → flat k s ≡ s
  stays k (Block ss) h = ap Block (all_stay k ss h)
  stays k (SetLocal n e) h = refl
  stays k (SetField e f a) h = refl
  stays k (AddField e f a) h = refl
  stays k (SetItem a i e) h = refl
  stays k (Evaluate e) h = refl
  stays k (If e a b) h = ap₂ (If e) (stays k a h.0) (stays (k + 2 * tries a) b h.1)
  stays k (While e s) h = ap (While e) (stays k s h)
  stays k (Return e) h = refl
  stays k (Try b f) h = absurd h
  stays k (Guarded b n x) h = ap₂ (λ b x. Guarded b n x) (stays k b h.0) (stays (k + 2 * tries b) x h.1)
  stays k (Throw n) h = refl
  stays k (Leavable b Done) h = ap (λ b. Leavable b Done) (stays k b h.0)
  stays k (Leavable b (Then x xs)) h = absurd h.1
  stays k (Leave n) h = refl

  pub all_stay : (k : ℕ) (ss : Statements) → AreFlat ss → all_flat k ss ≡ ss
  all_stay k Done h = refl
  all_stay k (Then s ss) h = ap₂ Then (stays k s h.0) (all_stay (k + 2 * tries s) ss h.1)

mutual
  -- it has no copies
  pub no_copies : (k : ℕ) (s : Statement) → IsFlat s → copies k s ≡ 0
  no_copies k (Block ss) h = no_copies_in k ss h
  no_copies k (SetLocal n e) h = refl
  no_copies k (SetField e f a) h = refl
  no_copies k (AddField e f a) h = refl
  no_copies k (SetItem a i e) h = refl
  no_copies k (Evaluate e) h = refl
  no_copies k (If e a b) h =
      let p = no_copies k a h.0 in let q = no_copies (k + 2 * tries a) b h.1 in omega (arith, p, q)
  no_copies k (While e s) h = no_copies k s h
  no_copies k (Return e) h = refl
  no_copies k (Try b f) h = absurd h
  no_copies k (Guarded b n x) h =
      let p = no_copies k b h.0 in let q = no_copies (k + 2 * tries b) x h.1 in omega (arith, p, q)
  no_copies k (Throw n) h = refl
  no_copies k (Leavable b Done) h = let p = no_copies k b h.0 in omega (arith, p)
  no_copies k (Leavable b (Then x xs)) h = absurd h.1
  no_copies k (Leave n) h = refl

  pub no_copies_in : (k : ℕ) (ss : Statements) → AreFlat ss → all_copies k ss ≡ 0
  no_copies_in k Done h = refl
  no_copies_in k (Then s ss) h =
      let p = no_copies k s h.0 in let q = no_copies_in (k + 2 * tries s) ss h.1 in omega (arith, p, q)

-- a method whose body needs no lowering
pub method_stays : (m : Method) → IsFlat m.body → m ≡ flat_method m
method_stays m h =
    let t = no_tries m.body h in
    let l : m.locals ≡ m.locals + 2 * tries m.body = omega (arith, t) in
    ap₂ (λ n (b : Statement). record { arguments = m.arguments; locals = n; body = b }) l
    (sym (stays (m.arguments + m.locals) m.body h))

-- its copies are few
pub method_has_none : (m : Method) → IsFlat m.body → copies_of m ≤ 4096
method_has_none m h = let e = no_copies (m.arguments + m.locals) m.body h in omega (arith, e)

-- a try whose parts need no lowering
pub try_stays : (k : ℕ) (b f : Statement) → IsFlat b → IsFlat f → flat k (Try b f) ≡ finally_of k b f
try_stays k b f h g =
    let p = no_tries b h in
    let q = no_tries f g in
    let e : k + 2 * tries b + 2 * tries f ≡ k = omega (arith, p, q) in
    ap (λ n. finally_of n (flat k b) (flat (k + 2 * tries b) f)) e ∙
    ap₂ (finally_of k) (stays k b h) (stays (k + 2 * tries b) f g)

no_more : (m n : ℕ) → m ≡ 0 → m + n ≡ n
no_more m n e = omega (arith, e)

-- its copies
pub try_copies : (k : ℕ) (b f : Statement) → IsFlat b → IsFlat f →
    copies k (Try b f) ≡ (2 + length (exits 0 b)) * (1 + 0)
try_copies k b f h g =
    no_more _ _ (no_copies k b h)
    ∙ ap₂ (λ (s : Statement) n. (2 + length (exits 0 s)) * (1 + n)) (stays k b h) (no_copies (k + 2 * tries b) f g)
