-- A block whose statements are replaced, one after the other.
use Rattle.std.proofs.Common.{◌≡◌, ℕ, ◌+◌, ◌≤◌, length, length-append, ap, sym, ◌∙◌, List, [], ◌∷◌, ◌++◌, arith}
use Rattle.ls_lowered.specs.declared.tree.Statement.{Statement}
use Rattle.ls_lowered.specs.LoweredTree.{Then}
use Rattle.ls_lowered.specs.Plain.{plain_statement, in_front, statements_of}
use Rattle.ls_finally_exits.specs.Exits.{exits, all_exits, replaced, all_replaced}
use Rattle.ls_finally_copies.proofs.Fronts.{one_made}

-- what is done of a block, and what is left
pub record Going (r l first : ℕ) (whole done : List Statement) (next : ℕ) (rest : List Statement) : Type 0 where
  pub tree : in_front done (all_replaced r l next (statements_of rest)) ≡ all_replaced r l first (statements_of whole)
  pub count : next + length (all_exits l (statements_of rest)) ≡ first + length (all_exits l (statements_of whole))
  pub room : next + length (all_exits l (statements_of rest)) ≤ 10000

-- the exits of a block are those of its first statement and the others'
exits_split : (l : ℕ) (items rest : List Statement) (s : Statement) → items ≡ s ∷ rest →
    length (all_exits l (statements_of items)) ≡ length (exits l (plain_statement s)) + length
    (all_exits l (statements_of rest))
exits_split l items rest s split =
    ap (λ (xs : List Statement). length (all_exits l (statements_of xs))) split ∙
    length-append (exits l (plain_statement s)) (all_exits l (statements_of rest))

pub goes_on : (r l first : ℕ) (whole done new : List Statement) (next after : ℕ) (items rest : List Statement)
    (s t : Statement) →
    items ≡ s ∷ rest →
    new ≡ done ++ t ∷ [] → plain_statement t ≡ replaced r l next (plain_statement s) →
    after ≡ next + length (exits l (plain_statement s)) →
    Going r l first whole done next items → Going r l first whole new after rest
goes_on r l first whole done new next after items rest s t split pushed is ends g =
    let e = exits_split l items rest s split in
    let c = g.count in
    let h = g.room in record {
      tree =
          one_made done new t (replaced r l next (plain_statement s)) (all_replaced r l after (statements_of rest))
          pushed is
          ∙ ap (λ n. in_front done (Then (replaced r l next (plain_statement s))
          (all_replaced r l n (statements_of rest)))) ends
          ∙ ap (λ (xs : List Statement). in_front done (all_replaced r l next (statements_of xs))) (sym split)
          ∙ g.tree;
      count = omega (arith, e, c, ends);
      room = omega (arith, e, h, ends);
    }

-- a statement of a block has room
pub one_fits : (r l first : ℕ) (whole done : List Statement) (next : ℕ) (items rest : List Statement) (s : Statement) →
    items ≡ s ∷ rest →
    Going r l first whole done next items →
    next + length (exits l (plain_statement s)) ≤ 10000
one_fits r l first whole done next items rest s split g =
    let e = exits_split l items rest s split in
    let h = g.room in
    omega (arith, e, h)
