-- A loop is among those left exactly if the rules say that it has a `break`.
use Rattle.std.proofs.Common.{◌≡◌, ℕ, zero, suc, ◌+◌, ◌-◌, ◌<◌, refl, sym, ap, ◌∙◌, arith, Bool, true, false, ◌&&◌}
use Rattle.std.proofs.Common.{◌||◌, nat_eq, List, [], ◌∷◌, ◌++◌}
use Rattle.std.specs.Prelude.{if◌then◌else◌}
use Rattle.ls_checked.specs.CheckedTree.{Statement, Block, If, While, Break, Try, Statements, Done, Then}
use Rattle.ls_types_judgement.specs.Completion.{breaks, any_breaks, can_complete}
use Rattle.ls_types_files.specs.Left.{outward, has, left, all_left}

or_assoc : (a b c : Bool) → ((a || b) || c) ≡ (a || (b || c))
or_assoc true b c = refl
or_assoc false b c = refl

or_false : (a : Bool) → (a || false) ≡ a
or_false true = refl
or_false false = refl

or_comm : (a b : Bool) → (a || b) ≡ (b || a)
or_comm true true = refl
or_comm true false = refl
or_comm false true = refl
or_comm false false = refl

has_both : (n : ℕ) (ms ks : List ℕ) → has n (ms ++ ks) ≡ (has n ms || has n ks)
has_both n [] ks = refl
has_both n (m ∷ ms) ks = ap (λ (b : Bool). nat_eq m n || b) (has_both n ms ks) ∙
    sym (or_assoc (nat_eq m n) (has n ms) (has n ks))

eq_next : (m n : ℕ) → nat_eq (suc m) (n + 1) ≡ nat_eq m n
eq_next m n = grind arith

eq_zero : (n : ℕ) → nat_eq zero (n + 1) ≡ false
eq_zero n = grind arith

has_outward : (n : ℕ) (ms : List ℕ) → has n (outward ms) ≡ has (n + 1) ms
has_outward n [] = refl
has_outward n (zero ∷ ms) = has_outward n ms ∙ sym (ap (λ (b : Bool). b || has (n + 1) ms) (eq_zero n))
has_outward n (suc m ∷ ms) = ap (λ (b : Bool). nat_eq m n || b) (has_outward n ms) ∙
    sym (ap (λ (b : Bool). b || has (n + 1) ms) (eq_next m n))

has_if : (n : ℕ) (b : Bool) (ms : List ℕ) → has n (if b then ms else []) ≡ (b && has n ms)
has_if n true ms = refl
has_if n false ms = refl

mutual
  -- a statement leaves exactly the loops that it breaks
  pub left_broken : (n : ℕ) (s : Statement) → has n (left s) ≡ breaks n s
  left_broken n (Block ss) = all_left_broken n ss
  left_broken n (If c a b) = has_both n (left a) (left b) ∙ ap (λ (x : Bool). x || has n (left b)) (left_broken n a) ∙
      ap (λ (x : Bool). breaks n a || x) (left_broken n b)
  left_broken n (While c s) = has_outward n (left s) ∙ left_broken (n + 1) s
  left_broken n (Break m) = or_false (nat_eq m n)
  left_broken n (Try b f) =
      has_both n (left f) (if can_complete f then left b else [])
      ∙ or_comm (has n (left f)) (has n (if can_complete f then left b else []))
      ∙ ap (λ (x : Bool). x || has n (left f)) (has_if n (can_complete f) (left b) ∙
      ap (λ (x : Bool). can_complete f && x) (left_broken n b))
      ∙ ap (λ (x : Bool). (can_complete f && breaks n b) || x) (left_broken n f)
  left_broken n _ = refl

  pub all_left_broken : (n : ℕ) (ss : Statements) → has n (all_left ss) ≡ any_breaks n ss
  all_left_broken n Done = refl
  all_left_broken n (Then s ss) = has_both n (left s) (all_left ss) ∙
      ap (λ (x : Bool). x || has n (all_left ss)) (left_broken n s) ∙
      ap (λ (x : Bool). breaks n s || x) (all_left_broken n ss)

-- a break of an outer loop, seen from outside of the inner one
pub goes_out : (n : ℕ) (ns : List ℕ) → 0 < n → outward (n ∷ ns) ≡ (n - 1) ∷ outward ns
goes_out zero ns h = absurd (none h)
  where
    none : 0 < 0 → ⊥
    none h = omega (arith, h)
goes_out (suc n) ns h = ap (λ (m : ℕ). m ∷ outward ns) (omega arith)

append_assoc : (a b c : List ℕ) → (a ++ b) ++ c ≡ a ++ (b ++ c)
append_assoc [] b c = refl
append_assoc (n ∷ a) b c = ap (λ (ns : List ℕ). n ∷ ns) (append_assoc a b c)

-- two of three lists joined, then the third
pub joined : (a b c whole : List ℕ) → a ++ (b ++ c) ≡ whole → (a ++ b) ++ c ≡ whole
joined a b c whole h = append_assoc a b c ∙ h

-- a list before an empty list
pub none_more : (a : List ℕ) → a ++ [] ≡ a
none_more [] = refl
none_more (n ∷ a) = ap (λ (ns : List ℕ). n ∷ ns) (none_more a)
