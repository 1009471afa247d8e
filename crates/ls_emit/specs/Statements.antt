-- The code of a statement, and its handler rows. Between statements a frame has no operands.
use Rattle.std.specs.Prelude.{ℕ, ◌+◌, List, [], ◌∷◌, ◌++◌, Option, Some, None, slice_get}
use Rattle.ls_code.specs.declared.instruction.Instruction.{Instruction}
use Rattle.ls_code.specs.declared.instruction.Instruction.TheVariants as op
use Rattle.ls_code.specs.declared.code.HandlerRow.{HandlerRow}
use Rattle.ls_lowered.specs.LoweredTree.{Statement, Block, SetLocal, SetField, AddField, SetItem, Evaluate, If, While}
use Rattle.ls_lowered.specs.LoweredTree.{Return, Try, Guarded, Throw, Leavable, Leave, Statements, Done, Then}
use Rattle.ls_emit.specs.Expressions.{size, code}

-- where leaves out of a statement lead, by their numbers
abbrev pub Targets : Type 0
Targets = List ℕ

abbrev pub place_by : Option ℕ → ℕ
place_by None = 0
place_by (Some place) = place

abbrev pub target_of : Targets → ℕ → ℕ
target_of t n = place_by (slice_get t n)

-- how many instructions a statement has
abbrev mutual
  pub statement_size : Statement → ℕ
  statement_size (Block ss) = statements_size ss
  statement_size (SetLocal n e) = size e + 1
  statement_size (SetField e f a) = size e + size a + 1
  statement_size (AddField e f a) = size e + size a + 4
  statement_size (SetItem a i e) = size a + size i + size e + 1
  statement_size (Evaluate e) = size e + 1
  statement_size (If e a b) = size e + statement_size a + statement_size b + 2
  statement_size (While e s) = size e + statement_size s + 2
  statement_size (Return e) = size e + 1
  statement_size (Try b f) = 0
  statement_size (Guarded b n h) = statement_size b + statement_size h + 2
  statement_size (Throw n) = 2
  statement_size (Leavable b xs) = statement_size b + exits_size xs
  statement_size (Leave n) = 1

  pub statements_size : Statements → ℕ
  statements_size Done = 0
  statements_size (Then s ss) = statement_size s + statements_size ss

  -- each exit comes after a jump, which leads past all exits
  pub exits_size : Statements → ℕ
  exits_size Done = 0
  exits_size (Then x xs) = 1 + statement_size x + exits_size xs

-- where exits begin if their first jump is at a place, and after them the end
abbrev pub places : ℕ → Statements → Targets
places p Done = p ∷ []
places p (Then x xs) = (p + 1) ∷ places (p + 1 + statement_size x) xs

abbrev mutual
  -- the code that begins at a place
  pub statement_code : Targets → ℕ → Statement → List Instruction
  statement_code t p (Block ss) = statements_code t p ss
  statement_code t p (SetLocal n e) = code p e ++ op.Store n ∷ []
  statement_code t p (SetField e f a) = code p e ++ code (p + size e) a ++ op.PutField (f + 1) ∷ []
  statement_code t p (AddField e f a) =
      code p e ++ op.Dup ∷ op.GetField (f + 1) ∷ code (p + size e + 2) a ++ op.Add ∷ op.PutField (f + 1) ∷ []
  statement_code t p (SetItem a i e) = code p a ++ code (p + size a) i ++ code (p + size a + size i) e ++ op.PutItem ∷
      []
  statement_code t p (Evaluate e) = code p e ++ op.Pop ∷ []
  statement_code t p (If e a b) =
      code p e ++ op.JumpIfFalse (p + size e + statement_size a + 2) ∷ statement_code t (p + size e + 1) a
      ++ op.Jump (p + size e + statement_size a + statement_size b + 2) ∷
      statement_code t (p + size e + statement_size a + 2) b
  statement_code t p (While e s) =
      code p e ++ op.JumpIfFalse (p + size e + statement_size s + 2) ∷ statement_code t (p + size e + 1) s ++
      op.Turn p ∷ []
  statement_code t p (Return e) = code p e ++ op.LeaveWith ∷ []
  statement_code t p (Try b f) = []
  statement_code t p (Guarded b n h) =
      statement_code t p b ++ op.Jump (p + statement_size b + statement_size h + 2) ∷ op.Store n
      ∷ statement_code t (p + statement_size b + 2) h
  statement_code t p (Throw n) = op.Load n ∷ op.Throw ∷ []
  statement_code t p (Leavable b xs) =
      statement_code (places (p + statement_size b) xs ++ t) p b ++
      exits_code t (p + statement_size b + exits_size xs) (p + statement_size b) xs
  statement_code t p (Leave n) = op.Jump (target_of t n) ∷ []

  pub statements_code : Targets → ℕ → Statements → List Instruction
  statements_code t p Done = []
  statements_code t p (Then s ss) = statement_code t p s ++ statements_code t (p + statement_size s) ss

  -- the code of exits that begins at a place; the statement ends at `end`
  pub exits_code : Targets → (end p : ℕ) → Statements → List Instruction
  exits_code t end p Done = []
  exits_code t end p (Then x xs) = op.Jump end ∷ statement_code t (p + 1) x ++
      exits_code t end (p + 1 + statement_size x) xs

-- a throw from the body goes on after the jump over the handler
abbrev pub row_of : ℕ → ℕ → HandlerRow
row_of p size = record { from = p; to = p + size; handler = p + size + 1; depth = 0 }

abbrev mutual
  -- its rows; of two that hold one place the first is the innermost
  pub statement_rows : ℕ → Statement → List HandlerRow
  statement_rows p (Block ss) = statements_rows p ss
  statement_rows p (SetLocal n e) = []
  statement_rows p (SetField e f a) = []
  statement_rows p (AddField e f a) = []
  statement_rows p (SetItem a i e) = []
  statement_rows p (Evaluate e) = []
  statement_rows p (If e a b) = statement_rows (p + size e + 1) a ++
      statement_rows (p + size e + statement_size a + 2) b
  statement_rows p (While e s) = statement_rows (p + size e + 1) s
  statement_rows p (Return e) = []
  statement_rows p (Try b f) = []
  statement_rows p (Guarded b n h) = statement_rows p b ++ row_of p (statement_size b) ∷
      statement_rows (p + statement_size b + 2) h
  statement_rows p (Throw n) = []
  statement_rows p (Leavable b xs) = statement_rows p b ++ exits_rows (p + statement_size b) xs
  statement_rows p (Leave n) = []

  pub statements_rows : ℕ → Statements → List HandlerRow
  statements_rows p Done = []
  statements_rows p (Then s ss) = statement_rows p s ++ statements_rows (p + statement_size s) ss

  pub exits_rows : ℕ → Statements → List HandlerRow
  exits_rows p Done = []
  exits_rows p (Then x xs) = statement_rows (p + 1) x ++ exits_rows (p + 1 + statement_size x) xs
