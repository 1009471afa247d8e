-- Where a silent instruction leads: to a later place, or back to the SEE of a lock() that waits. Rows of instructions
-- that lead so, joined.
use Rattle.std.proofs.Common.{◌≡◌, ℕ, ◌+◌, ◌<◌, List, [], ◌∷◌, ◌++◌, length, Option, Some, None}
use Rattle.std.proofs.Common.{subst, arith, length-append, ◌⊎◌, inl, inr}
use Rattle.std.proofs.lemmas.Option.{none-some}
use Rattle.ls_code.specs.declared.instruction.Instruction.{Instruction}
use Rattle.ls_code.specs.declared.instruction.Instruction.TheVariants as op

-- is a SEE, with whichever operand
abbrev pub IsASee : Option Instruction → Type 0
IsASee a = (y : ℕ) × (a ≡ Some (op.See y))

-- one instruction more
pub one_more : (i : Instruction) (xs : List Instruction) (k : ℕ) → length xs ≡ k → length (i ∷ xs) ≡ k + 1
one_more i xs k e = omega (arith, e)

module _ (n : ℕ) where
  -- An instruction that is silent leads to a later place, or is a jump back to a known place. An instruction that no
  -- unit has does neither.
  abbrev pub Ahead : (ℕ → Type 0) → ℕ → Instruction → Type 0
  Ahead B p (op.Jump x) = (p < x) × (x < n)
  Ahead B p (op.JumpIfFalse x) = (p + 1 < n) × (((p < x) × (x < n)) ⊎ B x)
  Ahead B p (op.JumpIfTrue x) = (p < x) × (x < n)
  Ahead B p (op.Turn x) = Unit {0}
  Ahead B p op.LeaveWith = Unit {0}
  Ahead B p op.Throw = Unit {0}
  Ahead B p op.Halt = ⊥
  Ahead B p op.Leave = ⊥
  Ahead B p op.Trap = ⊥
  Ahead B p (op.Call x) = ⊥
  Ahead B p (op.Result x) = ⊥
  Ahead B p i = p + 1 < n

  -- the place two before, where SEE is known to be
  abbrev pub Back : Option Instruction → ℕ → ℕ → Type 0
  Back a p x = (x + 2 ≡ p) × IsASee a

  -- after two instructions that are known, or aren't
  abbrev pub AllBehind : Option Instruction → Option Instruction → ℕ → List Instruction → Type 0
  AllBehind a b p [] = Unit {0}
  AllBehind a b p (i ∷ is) = Ahead (Back a p) p i × AllBehind b (Some i) (p + 1) is

  -- each instruction leads ahead, or back to a SEE two places before
  abbrev pub AllAt : ℕ → List Instruction → Type 0
  AllAt p xs = AllBehind None None p xs

  turned_by : (B C : ℕ → Type 0) →
      ((x : ℕ) → B x → C x) →
      (p x : ℕ) →
      (((p < x) × (x < n)) ⊎ B x) →
      ((p < x) × (x < n)) ⊎ C x
  turned_by B C f p x (inl h) = inl h
  turned_by B C f p x (inr h) = inr (f x h)

  -- the same with other places to lead back to
  pub turned : (B C : ℕ → Type 0) → ((x : ℕ) → B x → C x) → (p : ℕ) (i : Instruction) → Ahead B p i → Ahead C p i
  turned B C f p op.Halt h = h
  turned B C f p (op.Push x) h = h
  turned B C f p (op.Load x) h = h
  turned B C f p (op.Store x) h = h
  turned B C f p op.Pop h = h
  turned B C f p op.Dup h = h
  turned B C f p op.Add h = h
  turned B C f p op.Sub h = h
  turned B C f p op.Mul h = h
  turned B C f p op.Div h = h
  turned B C f p op.Remainder h = h
  turned B C f p op.Neg h = h
  turned B C f p op.Lt h = h
  turned B C f p op.Le h = h
  turned B C f p op.Gt h = h
  turned B C f p op.Ge h = h
  turned B C f p op.Eq h = h
  turned B C f p op.Ne h = h
  turned B C f p op.Not h = h
  turned B C f p (op.Jump x) h = h
  turned B C f p (op.JumpIfFalse x) h = (h.0, turned_by B C f p x h.1)
  turned B C f p (op.JumpIfTrue x) h = h
  turned B C f p (op.Turn x) h = h
  turned B C f p (op.GetField x) h = h
  turned B C f p (op.PutField x) h = h
  turned B C f p op.GetItem h = h
  turned B C f p op.PutItem h = h
  turned B C f p (op.GetName x) h = h
  turned B C f p (op.PutName x) h = h
  turned B C f p (op.NewObject x) h = h
  turned B C f p op.NewLock h = h
  turned B C f p op.NewMarkable h = h
  turned B C f p op.NewArray h = h
  turned B C f p op.Lock h = h
  turned B C f p op.Unlock h = h
  turned B C f p op.TryLock h = h
  turned B C f p op.IsHeld h = h
  turned B C f p (op.See x) h = h
  turned B C f p (op.Take x) h = h
  turned B C f p (op.DropLock x) h = h
  turned B C f p op.ReadPair h = h
  turned B C f p op.ReferenceOf h = h
  turned B C f p op.MarkOf h = h
  turned B C f p op.Pack h = h
  turned B C f p op.SetPair h = h
  turned B C f p op.SwapPair h = h
  turned B C f p op.AttemptMark h = h
  turned B C f p (op.Enter x) h = h
  turned B C f p op.Leave h = h
  turned B C f p op.LeaveWith h = h
  turned B C f p op.Throw h = h
  turned B C f p (op.Call x) h = h
  turned B C f p (op.Result x) h = h
  turned B C f p op.Trap h = h

  -- more is known
  abbrev Keeps : Option Instruction → Option Instruction → Type 0
  Keeps a b = IsASee a → IsASee b

  knowing : (a b c d : Option Instruction) (p : ℕ) (xs : List Instruction) →
      Keeps a c →
      Keeps b d →
      AllBehind a b p xs →
      AllBehind c d p xs
  knowing a b c d p [] f g h = tt
  knowing a b c d p (i ∷ is) f g h = (
    turned (Back a p) (Back c p) (λ x e. (e.0, f e.1)) p i h.0,
    knowing b (Some i) d (Some i) (p + 1) is g (λ e. e) h.1,
  )

  none_known : (c : Option Instruction) → Keeps None c
  none_known c e = absurd (none-some (op.See e.0) e.1)

  pub on : (a b : Option Instruction) (p : ℕ) (xs : List Instruction) → AllAt p xs → AllBehind a b p xs
  on a b p xs h = knowing None None a b p xs (none_known a) (none_known b) h

  pub at : (p q : ℕ) (xs : List Instruction) → p ≡ q → AllAt p xs → AllAt q xs
  at p q xs e h = subst (λ k. AllAt k xs) e h

  append_behind : (a b : Option Instruction) (p : ℕ) (xs ys : List Instruction) →
      AllBehind a b p xs →
      AllAt (p + length xs) ys →
      AllBehind a b p (xs ++ ys)
  append_behind a b p [] ys h g = on a b p ys (at (p + 0) p ys (omega arith) g)
  append_behind a b p (x ∷ xs) ys h g = (
    h.0,
    append_behind b (Some x) (p + 1) xs ys h.1
        (at (p + length (x ∷ xs)) (p + 1 + length xs) ys (omega arith) g),
  )

  append_at : (p : ℕ) (xs ys : List Instruction) → AllAt p xs → AllAt (p + length xs) ys → AllAt p (xs ++ ys)
  append_at p xs ys h g = append_behind None None p xs ys h g

  pub two_at : (p k : ℕ) (xs ys : List Instruction) → length xs ≡ k → AllAt p xs → AllAt (p + k) ys → AllAt p (xs ++ ys)
  two_at p k xs ys e h g = append_at p xs ys h (at (p + k) (p + length xs) ys (omega (arith, e)) g)

  pub three_at : (p j k : ℕ) (xs ys zs : List Instruction) →
      length xs ≡ j →
      length ys ≡ k →
      AllAt p xs →
      AllAt (p + j) ys →
      AllAt (p + j + k) zs →
      AllAt p ((xs ++ ys) ++ zs)
  three_at p j k xs ys zs e1 e2 h1 h2 h3 =
      two_at p (j + k) (xs ++ ys) zs (omega (arith, length-append xs ys, e1, e2)) (two_at p j xs ys e1 h1 h2)
      (at (p + j + k) (p + (j + k)) zs (omega arith) h3)

  pub four_at : (p i j k : ℕ) (xs ys zs ws : List Instruction) →
      length xs ≡ i →
      length ys ≡ j →
      length zs ≡ k →
      AllAt p xs →
      AllAt (p + i) ys →
      AllAt (p + i + j) zs →
      AllAt (p + i + j + k) ws →
      AllAt p (((xs ++ ys) ++ zs) ++ ws)
  four_at p i j k xs ys zs ws e1 e2 e3 h1 h2 h3 h4 =
      three_at p (i + j) k (xs ++ ys) zs ws (omega (arith, length-append xs ys, e1, e2)) e3 (two_at p i xs ys e1 h1 h2)
      (at (p + i + j) (p + (i + j)) zs (omega arith) h3) (at (p + i + j + k) (p + (i + j) + k) ws (omega arith) h4)
