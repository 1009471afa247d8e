-- The jumps and rows of a unit name places of the unit, or the place just after it.
use Rattle.ls_code.specs.Limits.{most_instructions}
use Rattle.std.proofs.Common.{ℕ, zero, suc, ◌+◌, ◌≤◌, ◌<◌, List, [], ◌∷◌, ◌++◌, length, arith}
use Rattle.std.specs.Prelude.{All, slice_index_or}
use Rattle.std.proofs.lemmas.List.{length-append}
use Rattle.ls_code.specs.declared.instruction.Instruction.{Instruction}
use Rattle.ls_code.specs.declared.instruction.Instruction.TheVariants as op
use Rattle.ls_code.specs.declared.code.HandlerRow.{HandlerRow}
use Rattle.ls_lowered.specs.declared.tree.UnaryOperator.{UnaryOperator}
use Rattle.ls_lowered.specs.declared.tree.UnaryOperator.TheVariants.{Negate, Not, ReferenceOf, MarkOf}
use Rattle.ls_lowered.specs.declared.tree.BinaryOperator.{BinaryOperator}
use Rattle.ls_lowered.specs.declared.tree.BinaryOperator.TheVariants as binary
use Rattle.ls_lowered.specs.declared.tree.LockOperation.{LockOperation}
use Rattle.ls_lowered.specs.declared.tree.LockOperation.TheVariants as lock
use Rattle.ls_lowered.specs.LoweredTree.{Expression, Word, Local, Unary, Binary, And, Or, Hold, Keep, After, Field}
use Rattle.ls_lowered.specs.LoweredTree.{Item, SetFirst, ReadPair, SetPair, SwapPair, AttemptMark, OnLock, Call}
use Rattle.ls_lowered.specs.LoweredTree.{MakeObject, MakeLock, MakeMarkable, MakeArray, Expressions, End, More}
use Rattle.ls_lowered.specs.LoweredTree.{Statement, Block, SetLocal, SetField, AddField, SetItem, Evaluate, If, While}
use Rattle.ls_lowered.specs.LoweredTree.{Return, Try, Guarded, Throw, Leavable, Leave, Statements, Done, Then, Method}
use Rattle.ls_lowered.specs.LoweredTree.{File}
use Rattle.ls_emit.specs.LockCode.{lock_code}
use Rattle.ls_emit.specs.Expressions.{unary_code, binary_code, size, all_size, code, all_code}
use Rattle.ls_emit.specs.Statements.{Targets, target_of, places, statement_size, statements_size, exits_size}
use Rattle.ls_emit.specs.Statements.{statement_code, statements_code, exits_code, row_of, statement_rows}
use Rattle.ls_emit.specs.Statements.{statements_rows, exits_rows}
use Rattle.ls_emit.specs.Units.{method_size, method_code, method_rows, unit_of, units_of}
use Rattle.ls_emit.specs.Emittable.{IsEmittableMethod, AllEmittable, IsEmittableFile}
use Rattle.ls_emit.proofs.StatementPlaces.{statement_size_is}
use Rattle.ls_emit.specs.Short.{AllShort}
use Rattle.ls_linker.specs.Landing.{Lands, RowLands, UnitLands}

-- each item has a property
abbrev pub Each : {A : Type 0} → (A → Type 0) → List A → Type 0
Each P [] = Unit {0}
Each P (x ∷ xs) = P x × Each P xs

each_both : {A : Type 0} (P : A → Type 0) (xs ys : List A) → Each P xs → Each P ys → Each P (xs ++ ys)
each_both P [] ys h k = k
each_both P (x ∷ xs) ys h k = (h.0, each_both P xs ys h.1 k)

module _ (n : ℕ) where
  abbrev AllLand : List Instruction → Type 0
  AllLand xs = Each (Lands n) xs

  joined : (xs ys : List Instruction) → AllLand xs → AllLand ys → AllLand (xs ++ ys)
  joined xs ys h k = each_both (Lands n) xs ys h k

  jump : (place : ℕ) → place ≤ n → Lands n (op.Jump place)
  jump place h = h

  jump_if_false : (place : ℕ) → place ≤ n → Lands n (op.JumpIfFalse place)
  jump_if_false place h = h

  turn : (place : ℕ) → place ≤ n → Lands n (op.Turn place)
  turn place h = h

  unary_lands : (o : UnaryOperator) → Lands n (unary_code o)
  unary_lands Negate = tt
  unary_lands Not = tt
  unary_lands ReferenceOf = tt
  unary_lands MarkOf = tt

  binary_lands : (o : BinaryOperator) → Lands n (binary_code o)
  binary_lands binary.Add = tt
  binary_lands binary.Subtract = tt
  binary_lands binary.Multiply = tt
  binary_lands binary.Divide = tt
  binary_lands binary.Remainder = tt
  binary_lands binary.Less = tt
  binary_lands binary.LessEqual = tt
  binary_lands binary.Greater = tt
  binary_lands binary.GreaterEqual = tt
  binary_lands binary.Equal = tt
  binary_lands binary.NotEqual = tt
  binary_lands binary.Pack = tt

  lock_lands : (o : LockOperation) (p : ℕ) → p ≤ n → AllLand (lock_code p o)
  lock_lands lock.Lock p room = (tt, (tt, (jump_if_false p room, (tt, (tt, tt)))))
  lock_lands lock.Unlock p room = (tt, (tt, (tt, tt)))
  lock_lands lock.TryLock p room = (tt, (tt, (tt, (tt, tt))))
  lock_lands lock.IsHeld p room = (tt, tt)
  lock_lands lock.LockMonitor p room = (tt, (tt, (jump_if_false p room, (tt, (tt, tt)))))
  lock_lands lock.UnlockMonitor p room = (tt, (tt, (tt, tt)))

  mutual
    code_lands : (p : ℕ) (e : Expression) → p + size e ≤ n → AllLand (code p e)
    code_lands p (Word w) room = (tt, tt)
    code_lands p (Local n) room = (tt, tt)
    code_lands p (Unary o e) room = joined (code p e) (unary_code o ∷ []) (code_lands p e (omega (arith, room)))
        ((unary_lands o, tt))
    code_lands p (Binary o a b) room = joined (code p a ++ code (p + size a) b) (binary_code o ∷ [])
        (joined (code p a) (code (p + size a) b) (code_lands p a (omega (arith, room)))
        (code_lands (p + size a) b (omega (arith, room)))) ((binary_lands o, tt))
    code_lands p (And a b) room = joined (code p a ++ op.JumpIfFalse (p + size a + size b + 2) ∷
        code (p + size a + 1) b) (op.Jump (p + size a + size b + 3) ∷ op.Push 0 ∷ [])
        (joined (code p a) (op.JumpIfFalse (p + size a + size b + 2) ∷ code (p + size a + 1) b)
        (code_lands p a (omega (arith, room))) ((
          jump_if_false (p + size a + size b + 2) (omega (arith, room)),
          code_lands (p + size a + 1) b (omega (arith, room)),
        )))
        ((jump (p + size a + size b + 3) (omega (arith, room)), (tt, tt)))
    code_lands p (Or a b) room = joined (code p a) (op.JumpIfFalse (p + size a + 3) ∷ op.Push 1 ∷
        op.Jump (p + size a + size b + 3) ∷ code (p + size a + 3) b) (code_lands p a (omega (arith, room)))
        ((
          jump_if_false (p + size a + 3) (omega (arith, room)),
          (
            tt,
            (
              jump (p + size a + size b + 3) (omega (arith, room)),
              code_lands (p + size a + 3) b (omega (arith, room)),
            ),
          ),
        ))
    code_lands p (Hold a n b) room = joined (code p a ++ code (p + size a) b) (op.Store n ∷ [])
        (joined (code p a) (code (p + size a) b) (code_lands p a (omega (arith, room)))
        (code_lands (p + size a) b (omega (arith, room)))) ((tt, tt))
    code_lands p (Keep n a b) room = joined (code p a) (op.Store n ∷ code (p + size a + 1) b)
        (code_lands p a (omega (arith, room))) ((tt, code_lands (p + size a + 1) b (omega (arith, room))))
    code_lands p (After a b) room = joined (code p a) (op.Pop ∷ code (p + size a + 1) b)
        (code_lands p a (omega (arith, room))) ((tt, code_lands (p + size a + 1) b (omega (arith, room))))
    code_lands p (Field e f) room = joined (code p e) (op.GetField (f + 1) ∷ []) (code_lands p e (omega (arith, room)))
        ((tt, tt))
    code_lands p (Item a i) room = joined (code p a ++ code (p + size a) i) (op.GetItem ∷ [])
        (joined (code p a) (code (p + size a) i) (code_lands p a (omega (arith, room)))
        (code_lands (p + size a) i (omega (arith, room)))) ((tt, tt))
    code_lands p (SetFirst a e) room = joined (code p a ++ op.Push 0 ∷ code (p + size a + 1) e)
        (op.PutItem ∷ op.Push 0 ∷ []) (joined (code p a) (op.Push 0 ∷ code (p + size a + 1) e)
        (code_lands p a (omega (arith, room))) ((tt, code_lands (p + size a + 1) e (omega (arith, room)))))
        ((tt, (tt, tt)))
    code_lands p (ReadPair e) room = joined (code p e) (op.ReadPair ∷ []) (code_lands p e (omega (arith, room)))
        ((tt, tt))
    code_lands p (SetPair e a) room = joined (code p e ++ code (p + size e) a) (op.SetPair ∷ op.Push 0 ∷ [])
        (joined (code p e) (code (p + size e) a) (code_lands p e (omega (arith, room)))
        (code_lands (p + size e) a (omega (arith, room)))) ((tt, (tt, tt)))
    code_lands p (SwapPair e a b) room = joined (code p e ++ code (p + size e) a ++ code (p + size e + size a) b)
        (op.SwapPair ∷ []) (joined (code p e ++ code (p + size e) a) (code (p + size e + size a) b)
        (joined (code p e) (code (p + size e) a) (code_lands p e (omega (arith, room)))
        (code_lands (p + size e) a (omega (arith, room)))) (code_lands (p + size e + size a) b (omega (arith, room))))
        ((tt, tt))
    code_lands p (AttemptMark e a b) room = joined (code p e ++ code (p + size e) a ++ code (p + size e + size a) b)
        (op.AttemptMark ∷ []) (joined (code p e ++ code (p + size e) a) (code (p + size e + size a) b)
        (joined (code p e) (code (p + size e) a) (code_lands p e (omega (arith, room)))
        (code_lands (p + size e) a (omega (arith, room)))) (code_lands (p + size e + size a) b (omega (arith, room))))
        ((tt, tt))
    code_lands p (OnLock o e) room = joined (code p e) (lock_code (p + size e) o) (code_lands p e (omega (arith, room)))
        (lock_lands o (p + size e) (omega (arith, room)))
    code_lands p (Call m e es) room = joined (code p e ++ all_code (p + size e) es) (op.Enter m ∷ [])
        (joined (code p e) (all_code (p + size e) es) (code_lands p e (omega (arith, room)))
        (all_lands (p + size e) es (omega (arith, room)))) ((tt, tt))
    code_lands p (MakeObject c m es) room = joined (op.NewObject c ∷ op.Dup ∷ all_code (p + 2) es)
        (op.Enter m ∷ op.Pop ∷ []) ((tt, (tt, all_lands (p + 2) es (omega (arith, room))))) ((tt, (tt, tt)))
    code_lands p MakeLock room = (tt, tt)
    code_lands p (MakeMarkable e) room = joined (code p e) (op.NewMarkable ∷ []) (code_lands p e (omega (arith, room)))
        ((tt, tt))
    code_lands p (MakeArray e) room = joined (code p e) (op.NewArray ∷ []) (code_lands p e (omega (arith, room)))
        ((tt, tt))

    all_lands : (p : ℕ) (es : Expressions) → p + all_size es ≤ n → AllLand (all_code p es)
    all_lands p End room = tt
    all_lands p (More e es) room = joined (code p e) (all_code (p + size e) es) (code_lands p e (omega (arith, room)))
        (all_lands (p + size e) es (omega (arith, room)))

  -- where jumps out of a statement lead
  abbrev AllLead : Targets → Type 0
  AllLead t = (i : ℕ) → target_of t i ≤ n

  lead_nowhere : AllLead []
  lead_nowhere i = omega arith

  lead_more : (place : ℕ) (t : Targets) → place ≤ n → AllLead t → AllLead (place ∷ t)
  lead_more place t a h zero = a
  lead_more place t a h (suc i) = h i

  lead_places : (p : ℕ) (xs : Statements) (t : Targets) → p + exits_size xs ≤ n → AllLead t → AllLead (places p xs ++ t)
  lead_places p Done t room h = lead_more p t (omega (arith, room)) h
  lead_places p (Then x xs) t room h =
      lead_more (p + 1) (places (p + 1 + statement_size x) xs ++ t) (omega (arith, room))
      (lead_places (p + 1 + statement_size x) xs t (omega (arith, room)) h)

  mutual
    statement_lands : (t : Targets) (p : ℕ) (s : Statement) →
        AllLead t →
        p + statement_size s ≤ n →
        AllLand (statement_code t p s)
    statement_lands t p (Block ss) lead room = statements_land t p ss lead (omega (arith, room))
    statement_lands t p (SetLocal n e) lead room = joined (code p e) (op.Store n ∷ [])
        (code_lands p e (omega (arith, room))) ((tt, tt))
    statement_lands t p (SetField e f a) lead room = joined (code p e ++ code (p + size e) a) (op.PutField (f + 1) ∷ [])
        (joined (code p e) (code (p + size e) a) (code_lands p e (omega (arith, room)))
        (code_lands (p + size e) a (omega (arith, room)))) ((tt, tt))
    statement_lands t p (AddField e f a) lead room = joined (code p e ++ op.Dup ∷ op.GetField (f + 1) ∷
        code (p + size e + 2) a) (op.Add ∷ op.PutField (f + 1) ∷ [])
        (joined (code p e) (op.Dup ∷ op.GetField (f + 1) ∷ code (p + size e + 2) a)
        (code_lands p e (omega (arith, room))) ((tt, (tt, code_lands (p + size e + 2) a (omega (arith, room))))))
        ((tt, (tt, tt)))
    statement_lands t p (SetItem a i e) lead room = joined (code p a ++ code (p + size a) i ++
        code (p + size a + size i) e) (op.PutItem ∷ []) (joined (code p a ++ code (p + size a) i)
        (code (p + size a + size i) e) (joined (code p a) (code (p + size a) i) (code_lands p a (omega (arith, room)))
        (code_lands (p + size a) i (omega (arith, room)))) (code_lands (p + size a + size i) e (omega (arith, room))))
        ((tt, tt))
    statement_lands t p (Evaluate e) lead room = joined (code p e) (op.Pop ∷ []) (code_lands p e (omega (arith, room)))
        ((tt, tt))
    statement_lands t p (If e a b) lead room = joined (code p e ++ op.JumpIfFalse (p + size e + statement_size a + 2) ∷
        statement_code t (p + size e + 1) a) (op.Jump (p + size e + statement_size a + statement_size b + 2) ∷
        statement_code t (p + size e + statement_size a + 2) b)
        (joined (code p e) (op.JumpIfFalse (p + size e + statement_size a + 2) ∷ statement_code t (p + size e + 1) a)
        (code_lands p e (omega (arith, room)))
        ((
          jump_if_false (p + size e + statement_size a + 2) (omega (arith, room)),
          statement_lands t (p + size e + 1) a lead (omega (arith, room)),
        )))
        ((
          jump (p + size e + statement_size a + statement_size b + 2) (omega (arith, room)),
          statement_lands t (p + size e + statement_size a + 2) b lead (omega (arith, room)),
        ))
    statement_lands t p (While e s) lead room = joined (code p e ++ op.JumpIfFalse (p + size e + statement_size s + 2) ∷
        statement_code t (p + size e + 1) s) (op.Turn p ∷ [])
        (joined (code p e) (op.JumpIfFalse (p + size e + statement_size s + 2) ∷ statement_code t (p + size e + 1) s)
        (code_lands p e (omega (arith, room)))
        ((
          jump_if_false (p + size e + statement_size s + 2) (omega (arith, room)),
          statement_lands t (p + size e + 1) s lead (omega (arith, room)),
        ))) ((turn p (omega (arith, room)), tt))
    statement_lands t p (Return e) lead room = joined (code p e) (op.LeaveWith ∷ [])
        (code_lands p e (omega (arith, room))) ((tt, tt))
    statement_lands t p (Try b f) lead room = tt
    statement_lands t p (Guarded b n h) lead room = joined (statement_code t p b)
        (op.Jump (p + statement_size b + statement_size h + 2) ∷ op.Store n ∷
        statement_code t (p + statement_size b + 2) h) (statement_lands t p b lead (omega (arith, room)))
        ((
          jump (p + statement_size b + statement_size h + 2) (omega (arith, room)),
          (tt, statement_lands t (p + statement_size b + 2) h lead (omega (arith, room))),
        ))
    statement_lands t p (Throw n) lead room = (tt, (tt, tt))
    statement_lands t p (Leavable b xs) lead room =
        let q : ℕ = p + statement_size b in
        joined (statement_code (places q xs ++ t) p b) (exits_code t (q + exits_size xs) q xs)
        (statement_lands (places q xs ++ t) p b (lead_places q xs t (omega (arith, room)) lead)
        (omega (arith, room))) (exits_land t (q + exits_size xs) q xs lead (omega (arith, room))
        (omega (arith, room)))
    statement_lands t p (Leave n) lead room = (lead n, tt)

    statements_land : (t : Targets) (p : ℕ) (ss : Statements) →
        AllLead t →
        p + statements_size ss ≤ n →
        AllLand (statements_code t p ss)
    statements_land t p Done lead room = tt
    statements_land t p (Then s ss) lead room = joined (statement_code t p s)
        (statements_code t (p + statement_size s) ss) (statement_lands t p s lead (omega (arith, room)))
        (statements_land t (p + statement_size s) ss lead (omega (arith, room)))

    exits_land : (t : Targets) (end p : ℕ) (xs : Statements) →
        AllLead t →
        end ≤ n →
        p + exits_size xs ≤ n →
        AllLand (exits_code t end p xs)
    exits_land t end p Done lead ends room = tt
    exits_land t end p (Then x xs) lead ends room = joined (op.Jump end ∷ statement_code t (p + 1) x)
        (exits_code t end (p + 1 + statement_size x) xs) ((
          jump end ends,
          statement_lands t (p + 1) x lead (omega (arith, room)),
        ))
        (exits_land t end (p + 1 + statement_size x) xs lead ends (omega (arith, room)))

  -- the rows of a statement
  rows_both : (xs ys : List HandlerRow) → Each (RowLands n) xs → Each (RowLands n) ys → Each (RowLands n) (xs ++ ys)
  rows_both xs ys h k = each_both (RowLands n) xs ys h k

  mutual
    rows_land : (p : ℕ) (s : Statement) → p + statement_size s ≤ n → Each (RowLands n) (statement_rows p s)
    rows_land p (Block ss) room = all_rows_land p ss room
    rows_land p (SetLocal i e) room = tt
    rows_land p (SetField e f a) room = tt
    rows_land p (AddField e f a) room = tt
    rows_land p (SetItem a i e) room = tt
    rows_land p (Evaluate e) room = tt
    rows_land p (If e a b) room =
        rows_both (statement_rows (p + size e + 1) a) (statement_rows (p + size e + statement_size a + 2) b)
        (rows_land (p + size e + 1) a (omega (arith, room)))
        (rows_land (p + size e + statement_size a + 2) b (omega (arith, room)))
    rows_land p (While e s) room = rows_land (p + size e + 1) s (omega (arith, room))
    rows_land p (Return e) room = tt
    rows_land p (Try b f) room = tt
    rows_land p (Guarded b i h) room =
        let row : RowLands n (row_of p (statement_size b)) = record
        { from = omega (arith, room); to = omega (arith, room); handler = omega (arith, room) } in
        rows_both (statement_rows p b) (row_of p (statement_size b) ∷ statement_rows (p + statement_size b + 2) h)
        (rows_land p b (omega (arith, room))) (row, rows_land (p + statement_size b + 2) h (omega (arith, room)))
    rows_land p (Throw i) room = tt
    rows_land p (Leavable b xs) room = rows_both (statement_rows p b) (exits_rows (p + statement_size b) xs)
        (rows_land p b (omega (arith, room))) (exit_rows_land (p + statement_size b) xs (omega (arith, room)))
    rows_land p (Leave i) room = tt

    all_rows_land : (p : ℕ) (ss : Statements) → p + statements_size ss ≤ n → Each (RowLands n) (statements_rows p ss)
    all_rows_land p Done room = tt
    all_rows_land p (Then s ss) room =
        rows_both (statement_rows p s) (statements_rows (p + statement_size s) ss) (rows_land p s (omega (arith, room)))
        (all_rows_land (p + statement_size s) ss (omega (arith, room)))

    exit_rows_land : (p : ℕ) (xs : Statements) → p + exits_size xs ≤ n → Each (RowLands n) (exits_rows p xs)
    exit_rows_land p Done room = tt
    exit_rows_land p (Then x xs) room =
        rows_both (statement_rows (p + 1) x) (exits_rows (p + 1 + statement_size x) xs)
        (rows_land (p + 1) x (omega (arith, room))) (exit_rows_land (p + 1 + statement_size x) xs
        (omega (arith, room)))

-- what holds of each, by places
pub each_all : {A : Type 0} (P : A → Type 0) (xs : List A) → Each P xs → All P xs
each_all P [] h k d below = absurd (let f : ⊥ = omega (arith, below) in f)
each_all P (x ∷ xs) h zero d below = h.0
each_all P (x ∷ xs) h (suc k) d below = each_all P xs h.1 k d (omega (arith, below))

unit_lands : (ms : File) (m : Method) →
    IsEmittableMethod ms m →
    method_size m ≤ most_instructions →
    UnitLands (unit_of m)
unit_lands ms m e short =
    let length_is = statement_size_is m.body [] 0 in
    let many = length-append (statement_code [] 0 m.body) (op.Push 0 ∷ op.LeaveWith ∷ []) in
    let locals = e.locals in
    record {
      short = omega (arith, length_is, many, short);
      jumps = each_all (Lands most_instructions) (method_code 0 m)
          (joined most_instructions (statement_code [] 0 m.body) (op.Push 0 ∷ op.LeaveWith ∷ [])
          (statement_lands most_instructions [] 0 m.body (lead_nowhere most_instructions) (omega (arith, short)))
          (tt, (tt, tt)));
      rows = each_all (RowLands most_instructions) (method_rows 0 m)
          (rows_land most_instructions 0 m.body (omega (arith, short)));
      arguments = omega (arith, locals);
      more = omega (arith, locals);
    }

each_unit : (ms : File) (rest : File) →
    AllEmittable ms rest →
    ((k : ℕ) (d : Method) → k < length rest → method_size (slice_index_or rest k d) ≤ most_instructions) →
    Each UnitLands (units_of rest)
each_unit ms [] e short = tt
each_unit ms (m ∷ rest) e short = (
  unit_lands ms m e.0 (short 0 m (omega arith)),
  each_unit ms rest e.1
      (λ k d below. short (suc k) d (omega (arith, below))),
)

-- the units of a file land
pub units_land : (file : File) → IsEmittableFile file → AllShort file → All UnitLands (units_of file)
units_land file e short = each_all UnitLands (units_of file) (each_unit file file e short)
