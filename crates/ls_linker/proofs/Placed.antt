-- The lowered tree of a typed file is placed.
use Rattle.std.proofs.Common.{◌≡◌, ℕ, suc, ◌+◌, ◌-◌, ◌≤◌, ◌<◌, List, [], ◌∷◌, length, map, Option, Some, refl, ap}
use Rattle.std.proofs.Common.{arith}
use Rattle.std.specs.Prelude.{slice_get}
use Rattle.ls_events.specs.declared.value.ValueType.{ValueType}
use Rattle.ls_checked.specs.CheckedTree.{Method, File, Expression, Statement, Block, SetSlot, SetField, AddField}
use Rattle.ls_checked.specs.CheckedTree.{SetItem, Evaluate, If, While, Break, Continue, ReturnNothing, ReturnValue, Try}
use Rattle.ls_checked.specs.CheckedTree.{Statements, Done, Then}
use Rattle.ls_meaning.specs.declared.sort.Sort.{Sort}
use Rattle.ls_types_judgement.specs.Typing.{IsTyped, IsTypedStatement, AreTypedStatements, IsTypedMethod, IsTypedFile}
use Rattle.ls_refs.specs.Temporaries.{temporaries, statement_temporaries, block_temporaries}
use Rattle.ls_refs.specs.Lowered.{lowered, lowered_statement, lowered_block, lowered_method, lowered_file}
use Rattle.ls_finally.specs.Placed.{IsPlaced, IsPlacedStatement, ArePlaced, AllPlaced}
use Rattle.ls_linker.proofs.Segments.{in_range}
use Rattle.ls_linker.proofs.Ahead.{ahead_placed}
use Rattle.ls_linker.proofs.Below.{below}
use Rattle.ls_linker.proofs.Calls.{calls}

module _ (file : File) (typed : IsTypedFile file) (slots : List ValueType) (r : Option ValueType) (k : ℕ) where
  placed : (free : ℕ) (s : Sort) (e : Expression) →
      length slots ≤ free →
      free + temporaries e ≤ k →
      IsTyped file slots s e →
      IsPlaced (lowered_file file) k (lowered file.classes free e)
  placed free s e fits room h = (below file slots k free s e fits room h, calls file typed slots free s e h)

  mutual
    placed_statement : (free : ℕ) (s : Statement) →
        length slots ≤ free →
        free + statement_temporaries s ≤ k →
        IsTypedStatement file slots r s →
        IsPlacedStatement (lowered_file file) k (lowered_statement file.classes free s)
    placed_statement free (Block ss) fits room h = placed_block free ss fits room h
    placed_statement free (SetSlot n e) fits room h =
        let there = in_range slots n h.0 h.1 in
        let slot : n < k = omega (arith, there, fits, room) in
        (slot, placed free _ e fits room h.2)
    placed_statement free (SetField e f v) fits room h = (
      placed free _ e fits (omega (arith, room)) h.3,
      placed (free + temporaries e) _ v (omega (arith, fits)) (omega (arith, room)) h.4,
    )
    placed_statement free (AddField e f v) fits room h = (
      placed free _ e fits (omega (arith, room)) h.2,
      placed (free + temporaries e) _ v (omega (arith, fits)) (omega (arith, room)) h.3,
    )
    placed_statement free (SetItem a i v) fits room h = (
      placed free _ a fits (omega (arith, room)) h.0,
      placed (free + temporaries a) _ i (omega (arith, fits)) (omega (arith, room)) h.1,
      placed (free + temporaries a + temporaries i) _ v (omega (arith, fits)) (omega (arith, room)) h.2,
    )
    placed_statement free (Evaluate e) fits room h = placed free h.0 e fits room h.1
    placed_statement free (If e a b) fits room h = (
      placed free _ e fits (omega (arith, room)) h.0,
      placed_statement (free + temporaries e) a (omega (arith, fits)) (omega (arith, room)) h.1,
      placed_statement (free + temporaries e + statement_temporaries a) b (omega (arith, fits)) (omega (arith, room))
          h.2,
    )
    placed_statement free (While e s) fits room h = (
      (
        placed free _ e fits (omega (arith, room)) h.0,
        (
          placed_statement (free + temporaries e) s
              (omega (arith, fits)) (omega (arith, room)) h.1,
          tt,
        ),
      ),
      tt,
    )
    placed_statement free (Break n) fits room h = tt
    placed_statement free (Continue n) fits room h = tt
    placed_statement free ReturnNothing fits room h = (tt, tt)
    placed_statement free (ReturnValue e) fits room h = placed free _ e fits room h.2
    placed_statement free (Try b f) fits room h = (
      placed_statement free b fits (omega (arith, room)) h.0,
      placed_statement (free + statement_temporaries b) f (omega (arith, fits)) (omega (arith, room)) h.1,
    )

    placed_block : (free : ℕ) (ss : Statements) →
        length slots ≤ free →
        free + block_temporaries ss ≤ k →
        AreTypedStatements file slots r ss →
        ArePlaced (lowered_file file) k (lowered_block file.classes free ss)
    placed_block free Done fits room h = tt
    placed_block free (Then s ss) fits room h =
        ahead_placed (lowered_file file) k (lowered_statement file.classes free s)
        (lowered_block file.classes (free + statement_temporaries s) ss)
        (placed_statement free s fits (omega (arith, room)) h.0)
        (placed_block (free + statement_temporaries s) ss (omega (arith, fits)) (omega (arith, room)) h.1)

placed_method : (file : File) (typed : IsTypedFile file) (m : Method) → IsTypedMethod file m →
    IsPlacedStatement (lowered_file file) (m.parameters + 1 +
    (length m.slots + statement_temporaries m.body - (m.parameters + 1)))
    (lowered_statement file.classes (length m.slots) m.body)
placed_method file typed m t =
    let slots : length m.slots ≡ suc (length t.locals) = ap length t.this in
    let parameters = t.parameters in
    placed_statement file typed m.slots m.result (m.parameters + 1 +
    (length m.slots + statement_temporaries m.body - (m.parameters + 1))) (length m.slots) m.body (omega arith)
    (omega (arith, slots, parameters)) t.body

all_placed : (file : File) (typed : IsTypedFile file) (rest : List Method) →
    ((n : ℕ) (m : Method) → slice_get rest n ≡ Some m → IsTypedMethod file m) →
    AllPlaced (lowered_file file) (map (lowered_method file.classes) rest)
all_placed file typed [] h = tt
all_placed file typed (m ∷ rest) h = (
  placed_method file typed m (h 0 m refl),
  all_placed file typed rest (λ n x e. h (suc n) x e),
)

-- in the lowered form of a typed file each local exists, and each call has its arguments
pub file_placed : (file : File) → IsTypedFile file → AllPlaced (lowered_file file) (lowered_file file)
file_placed file typed = all_placed file typed file.methods typed
