-- A block whose statements are lowered, one after the other.
use Rattle.ls_lowered.specs.Limits.{most_locals}
use Rattle.std.proofs.Common.{◌≡◌, ℕ, ◌+◌, ◌*◌, ◌≤◌, ap, sym, ◌∙◌, List, [], ◌∷◌, ◌++◌, arith}
use Rattle.ls_lowered.specs.declared.tree.Statement.{Statement}
use Rattle.ls_lowered.specs.declared.fault.LowerFault.{LowerFault}
use Rattle.ls_lowered.specs.declared.fault.LowerFault.TheVariants.{Memory, TooManyLocals, TooManyCopies}
use Rattle.ls_lowered.specs.LoweredTree.{Then}
use Rattle.ls_lowered.specs.Plain.{plain_statement, in_front, statements_of}
use Rattle.ls_finally.specs.Flat.{tries, all_tries, flat, all_flat}
use Rattle.ls_finally.specs.Code.{TooMany}
use Rattle.ls_finally.specs.Counts.{copies, all_copies}
use Rattle.ls_finally_copies.proofs.Fronts.{one_made}

-- what is done of a block, and what is left
pub record Flattening (first so_far : ℕ) (whole : List Statement) (done : List Statement) (free count : ℕ)
    (rest : List Statement) : Type 0 where
  pub trees : in_front done (all_flat free (statements_of rest)) ≡ all_flat first (statements_of whole)
  pub locals : free + 2 * all_tries (statements_of rest) ≡ first + 2 * all_tries (statements_of whole)
  pub copied : count + all_copies free (statements_of rest) ≡ so_far + all_copies first (statements_of whole)
  pub small : count ≤ 4096

tries_split : (items rest : List Statement) (s : Statement) →
    items ≡ s ∷ rest →
    all_tries (statements_of items) ≡ tries (plain_statement s) + all_tries (statements_of rest)
tries_split items rest s split = ap (λ (xs : List Statement). all_tries (statements_of xs)) split

copies_split : (free : ℕ) (items rest : List Statement) (s : Statement) → items ≡ s ∷ rest →
    all_copies free (statements_of items) ≡ copies free (plain_statement s) + all_copies
    (free + 2 * tries (plain_statement s)) (statements_of rest)
copies_split free items rest s split = ap (λ (xs : List Statement). all_copies free (statements_of xs)) split

-- one more statement of a block is lowered
pub goes_on : (first so_far : ℕ) (whole done new : List Statement) (free after count more : ℕ)
    (items rest : List Statement) (s t : Statement) →
    items ≡ s ∷ rest →
    new ≡ done ++ t ∷ [] → plain_statement t ≡ flat free (plain_statement s) →
    after ≡ free + 2 * tries (plain_statement s) → more ≡ count + copies free (plain_statement s) → more ≤ 4096 →
    Flattening first so_far whole done free count items → Flattening first so_far whole new after more rest
goes_on first so_far whole done new free after count more items rest s t split pushed is ends counts few g =
    let e = tries_split items rest s split in
    let f = copies_split free items rest s split in
    let a : all_copies after (statements_of rest) ≡ all_copies (free + 2 * tries (plain_statement s))
    (statements_of rest) = ap (λ n. all_copies n (statements_of rest)) ends in
    let l = g.locals in
    let m = g.copied in record {
      trees =
          one_made done new t (flat free (plain_statement s)) (all_flat after (statements_of rest)) pushed is
          ∙ ap (λ n. in_front done (Then (flat free (plain_statement s)) (all_flat n (statements_of rest)))) ends
          ∙ ap (λ (xs : List Statement). in_front done (all_flat free (statements_of xs))) (sym split)
          ∙ g.trees;
      locals = omega (arith, e, l, ends);
      copied = omega (arith, f, a, m, counts);
      small = few;
    }

-- what is refused stays so with more copies
pub too_many_more : (e : LowerFault) (m n : ℕ) → TooMany e m → m ≤ n → TooMany e n
too_many_more Memory m n h l = tt
too_many_more TooManyLocals m n h l = h
too_many_more TooManyCopies m n h l = omega (arith, h, l)

-- a statement of a block has room
pub one_fits : (first so_far : ℕ) (whole done : List Statement) (free count : ℕ) (items rest : List Statement)
    (s : Statement) →
    items ≡ s ∷ rest →
    Flattening first so_far whole done free count items → first + 2 * all_tries (statements_of whole) ≤ most_locals →
    free + 2 * tries (plain_statement s) ≤ most_locals
one_fits first so_far whole done free count items rest s split g h =
    let e = tries_split items rest s split in
    let l = g.locals in
    omega (arith, e, l, h)
