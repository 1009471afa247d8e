-- The tree without `try` of a typed file in range has code.
use Rattle.ls_lowered.specs.Limits.{most_locals}
use Rattle.std.proofs.Common.{◌≡◌, ℕ, suc, ◌+◌, ◌*◌, ◌≤◌, ◌<◌, List, [], ◌∷◌, length, map, Option, Some, refl, ap, lit<}
use Rattle.std.proofs.Common.{arith}
use Rattle.std.specs.Prelude.{slice_get}
use Rattle.ls_events.specs.declared.value.ValueType.{ValueType}
use Rattle.ls_events.specs.declared.value.ValueType.TheVariants as types
use Rattle.ls_checked.specs.CheckedTree.{Method, File, Expression, Statement, Block, SetSlot, SetField, AddField}
use Rattle.ls_checked.specs.CheckedTree.{SetItem, Evaluate, If, While, Break, Continue, ReturnNothing, ReturnValue, Try}
use Rattle.ls_checked.specs.CheckedTree.{Statements, Done, Then}
use Rattle.ls_types_judgement.specs.Leaving.{JumpsInLoops, JumpInLoops}
use Rattle.ls_meaning.specs.declared.sort.Sort.{Sort}
use Rattle.ls_types_judgement.specs.Typing.{IsTyped, IsTypedStatement, AreTypedStatements, IsTypedMethod, IsTypedFile}
use Rattle.ls_refs.specs.Temporaries as refs
use Rattle.ls_refs.specs.Temporaries.{temporaries, statement_temporaries, block_temporaries}
use Rattle.ls_refs.specs.Lowered.{lowered, lowered_statement, lowered_block, lowered_method, lowered_file}
use Rattle.ls_refs.specs.Refused.{AllFit}
use Rattle.ls_finally.specs.Flat.{flat_method, flat_file}
use Rattle.ls_emit.specs.Emittable.{IsEmittable, IsEmittableMethod, AllEmittable, IsEmittableFile}
use Rattle.ls_types_judgement.specs.Classes.{HasItsClasses}
use Rattle.ls_types_judgement.specs.Jumps.{HasItsLoops}
use Rattle.ls_types_judgement.specs.Limits.{IsRanged}
use Rattle.ls_linker.proofs.Flattens.{Flattens, AllFlatten}
use Rattle.ls_linker.proofs.Ahead.{ahead_flatten}
use Rattle.ls_linker.proofs.Segments.{in_range, all_at}
use Rattle.ls_linker.proofs.Below.{below}
use Rattle.ls_linker.proofs.Calls.{calls}
use Rattle.ls_linker.proofs.Emitted.{emitted, field_small}
use Rattle.ls_linker.proofs.Flat.{flat_in}
use Rattle.ls_linker.proofs.Locals.{few_here}

module _ (file : File) (typed : IsTypedFile file) (its : HasItsClasses file) (ranged : IsRanged file)
    (slots : List ValueType) (r : Option ValueType) (k : ℕ) where
  has_code : (free : ℕ) (s : Sort) (e : Expression) →
      length slots ≤ free →
      free + temporaries e ≤ k →
      IsTyped file slots s e →
      IsEmittable (flat_file (lowered_file file)) k (lowered file.classes free e)
  has_code free s e fits room h = emitted file typed its ranged slots k free s e h
      (below file slots k free s e fits room h) (calls file typed slots free s e h)

  -- two numbers are each loop's
  mutual
    flattens : (free loops around : ℕ) (s : Statement) →
        around ≡ 2 * loops →
        length slots ≤ free →
        free + statement_temporaries s ≤ k →
        IsTypedStatement file slots r s →
        JumpsInLoops loops s →
        Flattens (flat_file (lowered_file file)) k around (lowered_statement file.classes free s)
    flattens free loops around (Block ss) two fits room h j = all_flatten free loops around ss two fits room h j
    flattens free loops around (SetSlot n e) two fits room h j =
        let there = in_range slots n h.0 h.1 in
        let slot : n < k = omega (arith, there, fits, room) in
        (slot, has_code free _ e fits room h.2)
    flattens free loops around (SetField e f v) two fits room h j = (
      field_small file ranged h.0 f h.1 (slice_get file.classes h.0) refl h.2,
      has_code free _ e fits (omega (arith, room)) h.3,
      has_code (free + temporaries e) _ v (omega (arith, fits)) (omega (arith, room)) h.4,
    )
    flattens free loops around (AddField e f v) two fits room h j = (
      field_small file ranged h.0 f types.Int (slice_get file.classes h.0) refl h.1,
      has_code free _ e fits (omega (arith, room)) h.2,
      has_code (free + temporaries e) _ v (omega (arith, fits)) (omega (arith, room)) h.3,
    )
    flattens free loops around (SetItem a i v) two fits room h j = (
      has_code free _ a fits (omega (arith, room)) h.0,
      has_code (free + temporaries a) _ i (omega (arith, fits)) (omega (arith, room)) h.1,
      has_code (free + temporaries a + temporaries i) _ v (omega (arith, fits)) (omega (arith, room)) h.2,
    )
    flattens free loops around (Evaluate e) two fits room h j = has_code free h.0 e fits room h.1
    flattens free loops around (If e a b) two fits room h j = (
      has_code free _ e fits (omega (arith, room)) h.0,
      flattens (free + temporaries e) loops around a two (omega (arith, fits)) (omega (arith, room)) h.1 j.0,
      flattens (free + temporaries e + statement_temporaries a) loops around b two (omega (arith, fits))
          (omega (arith, room)) h.2 j.1,
    )
    flattens free loops around (While e s) two fits room h j = (
      (
        has_code free _ e fits (omega (arith, room)) h.0,
        (
          flattens (free + temporaries e) (loops + 1) _ s
              (omega (arith, two)) (omega (arith, fits)) (omega (arith, room)) h.1 j,
          tt,
        ),
      ),
      tt,
    )
    flattens free loops around (Break n) two fits room h j = omega (arith, two, j)
    flattens free loops around (Continue n) two fits room h j = omega (arith, two, j)
    flattens free loops around ReturnNothing two fits room h j = lit< tt
    flattens free loops around (ReturnValue e) two fits room h j = has_code free _ e fits room h.2
    flattens free loops around (Try b f) two fits room h j = (
      flattens free loops around b two fits (omega (arith, room)) h.0 j.0,
      flattens (free + statement_temporaries b) loops around f two (omega (arith, fits)) (omega (arith, room)) h.1
          j.1,
    )

    all_flatten : (free loops around : ℕ) (ss : Statements) →
        around ≡ 2 * loops →
        length slots ≤ free →
        free + block_temporaries ss ≤ k →
        AreTypedStatements file slots r ss →
        JumpInLoops loops ss →
        AllFlatten (flat_file (lowered_file file)) k around (lowered_block file.classes free ss)
    all_flatten free loops around Done two fits room h j = tt
    all_flatten free loops around (Then s ss) two fits room h j =
        ahead_flatten (flat_file (lowered_file file)) k around (lowered_statement file.classes free s)
        (lowered_block file.classes (free + statement_temporaries s) ss)
        (flattens free loops around s two fits (omega (arith, room)) h.0 j.0)
        (all_flatten (free + statement_temporaries s) loops around ss two (omega (arith, fits))
        (omega (arith, room)) h.1 j.1)

module _ (file : File) (typed : IsTypedFile file) (its : HasItsClasses file) (ranged : IsRanged file) where
  method_emittable : (m : Method) → IsTypedMethod file m → JumpsInLoops 0 m.body → refs.locals_of m ≤ most_locals →
      IsEmittableMethod (flat_file (lowered_file file)) (flat_method (lowered_method file.classes m))
  method_emittable m t j fit =
      let low = lowered_method file.classes m in
      let slots : length m.slots ≡ suc (length t.locals) = ap length t.this in
      let parameters = t.parameters in
      let few = few_here file.classes m (omega (arith, slots, parameters)) fit in
      let whole = (flat_method low).arguments + (flat_method low).locals in
      record {
        this = omega arith;
        locals = omega (arith, few);
        body = flat_in (flat_file (lowered_file file)) whole (low.arguments + low.locals) 0 low.body (omega arith)
            (flattens file typed its ranged m.slots m.result whole (length m.slots) 0 0 m.body (omega arith)
            (omega arith) (omega (arith, slots, parameters)) t.body j);
      }

  all_emittable : (rest : List Method) → ((n : ℕ) (m : Method) → slice_get rest n ≡ Some m → IsTypedMethod file m) →
      ((n : ℕ) (m : Method) → slice_get rest n ≡ Some m → JumpsInLoops 0 m.body) →
      ((n : ℕ) (m : Method) → slice_get rest n ≡ Some m → refs.locals_of m ≤ most_locals) →
      AllEmittable (flat_file (lowered_file file)) (map flat_method (map (lowered_method file.classes) rest))
  all_emittable [] h j f = tt
  all_emittable (m ∷ rest) h j f = (
    method_emittable m (h 0 m refl) (j 0 m refl) (f 0 m refl),
    all_emittable rest (λ n x e. h (suc n) x e) (λ n x e. j (suc n) x e) (λ n x e. f (suc n) x e),
  )

  -- the tree without `try` of a file with few locals has code
  pub file_emittable : HasItsLoops file → AllFit file.methods → IsEmittableFile (flat_file (lowered_file file))
  file_emittable loops fit = all_emittable file.methods typed loops
      (λ n m e. all_at (λ m. refs.locals_of m ≤ most_locals) file.methods fit n m e)
