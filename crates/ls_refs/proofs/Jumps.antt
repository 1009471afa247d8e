-- Jumps that have their loops, and how far they lead.
use Rattle.std.proofs.Common.{◌≡◌, ℕ, ◌+◌, ◌≤◌, List, ◌∷◌, subst, arith}
use Rattle.std.specs.Prelude.{All, slice_index_or}
use Rattle.std.proofs.Props.{props}
use Rattle.std.proofs.lemmas.Option.{slice_get-get_or}
use Rattle.ls_checked.specs.declared.tree.Statement as code
use Rattle.ls_checked.specs.Plain.{statements_of, plain_statement}
use Rattle.ls_checked.specs.CheckedTree.{Statement, Block, SetSlot, SetField, AddField, SetItem, Evaluate, If, While}
use Rattle.ls_checked.specs.CheckedTree.{Break, Continue, ReturnNothing, ReturnValue, Try, Statements, Done, Then}
use Rattle.ls_checked.specs.CheckedTree.{Method, File}
use Rattle.ls_types_judgement.specs.Leaving.{JumpsInLoops, JumpInLoops}
use Rattle.ls_types_judgement.specs.Jumps.{HasItsLoops}
use Rattle.ls_refs.specs.Loops.{loops, block_loops, JumpsBelow, JumpBelow}

mutual
  -- no jump leads farther than there are loops
  pub below : (m n : ℕ) (s : Statement) → n + loops s ≤ m → JumpsInLoops n s → JumpsBelow m s
  below m n (Block ss) l j = all_below m n ss l j
  below m n (SetSlot x e) l j = tt
  below m n (SetField e f v) l j = tt
  below m n (AddField e f v) l j = tt
  below m n (SetItem a i v) l j = tt
  below m n (Evaluate e) l j = tt
  below m n (If c a b) l j = (below m n a (omega (arith, l)) j.0, below m n b (omega (arith, l)) j.1)
  below m n (While c s) l j = below m (n + 1) s (omega (arith, l)) j
  below m n (Break x) l j = omega (arith, l, j)
  below m n (Continue x) l j = omega (arith, l, j)
  below m n ReturnNothing l j = tt
  below m n (ReturnValue e) l j = tt
  below m n (Try b f) l j = (below m n b (omega (arith, l)) j.0, below m n f (omega (arith, l)) j.1)

  all_below : (m n : ℕ) (ss : Statements) → n + block_loops ss ≤ m → JumpInLoops n ss → JumpBelow m ss
  all_below m n Done l j = tt
  all_below m n (Then s ss) l j = (below m n s (omega (arith, l)) j.0, all_below m n ss (omega (arith, l)) j.1)

-- the jumps of what is left of a block
pub left_below : (m : ℕ) (s : code.Statement) (items rest : List code.Statement) →
    items ≡ s ∷ rest →
    JumpBelow m (statements_of items) →
    JumpsBelow m (plain_statement s) × JumpBelow m (statements_of rest)
left_below m s items rest split h = subst (λ (ss : List code.Statement). JumpBelow m (statements_of ss)) split h

-- in a file whose jumps have their loops each method's have
pub all_in_loops : (file : File) → HasItsLoops file → All (λ (m : Method). JumpsInLoops 0 m.body) file.methods
all_in_loops file h = λ k d l. h k (slice_index_or file.methods k d) (slice_get-get_or file.methods k d l)

mutual
  in_loops : (n : ℕ) (s : Statement) → IsProp (JumpsInLoops n s)
  in_loops n (Block ss) = all_in n ss
  in_loops n (SetSlot x e) = hlevel
  in_loops n (SetField e f v) = hlevel
  in_loops n (AddField e f v) = hlevel
  in_loops n (SetItem a i v) = hlevel
  in_loops n (Evaluate e) = hlevel
  in_loops n (If c a b) = hlevel (in_loops n a, in_loops n b)
  in_loops n (While c s) = in_loops (n + 1) s
  in_loops n (Break x) = hlevel props
  in_loops n (Continue x) = hlevel props
  in_loops n ReturnNothing = hlevel
  in_loops n (ReturnValue e) = hlevel
  in_loops n (Try b f) = hlevel (in_loops n b, in_loops n f)

  all_in : (n : ℕ) (ss : Statements) → IsProp (JumpInLoops n ss)
  all_in n Done = hlevel
  all_in n (Then s ss) = hlevel (in_loops n s, all_in n ss)

-- that a file has its loops has one proof at most
pub loops_once : (file : File) → IsProp (HasItsLoops file)
loops_once file = hlevel in_loops
