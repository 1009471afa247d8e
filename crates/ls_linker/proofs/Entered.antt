-- A thread of the linked code that enters a method.
use Rattle.std.proofs.Common.{◌≡◌, ◌≢◌, ℕ, ◌+◌, ◌-◌, ◌*◌, ◌<◌, ◌≤◌, List, [], ◌∷◌, ◌++◌, length, map, reverse, true}
use Rattle.std.proofs.Common.{Some, None, slice_get, ◌==◌, nat_lt, if◌then◌else◌, refl, sym, ap, ◌∙◌, subst, arith}
use Rattle.std.proofs.lemmas.List.{length-map}
use Rattle.ls_events.specs.declared.kind.Kind.{Kind}
use Rattle.ls_events.specs.declared.kind.Kind.TheVariants as kinds
use Rattle.ls_events.specs.declared.value.Value.{Value}
use Rattle.ls_events.specs.declared.value.Value.TheVariants as values
use Rattle.ls_events.specs.declared.value.ValueType.TheVariants as types
use Rattle.ls_events.specs.declared.action.Action.TheVariants as act
use Rattle.ls_checked.specs.CheckedTree.{File, Method}
use Rattle.ls_checked.specs.CheckedProgram.{Program}
use Rattle.ls_meaning.specs.Course.{Answers, Evaluated, Asks, Results, Throws}
use Rattle.ls_meaning.specs.Methods.{invoke}
use Rattle.ls_meaning.specs.Threads.{Next, Trapped, event}
use Rattle.ls_lowered.specs.LoweredTree as low
use Rattle.ls_lowered.specs.Course as course
use Rattle.ls_code.specs.Thread.{Thread}
use Rattle.ls_code.specs.Calls.{CallMove, Calls, CallThrows, CallStuck, with_callee}
use Rattle.ls_code.specs.Steps.{fetched_move, call_move, found_move}
use Rattle.ls_code.specs.Fed.{Fed}
use Rattle.ls_code.specs.Fed as fed
use Rattle.ls_code.specs.declared.instruction.Instruction.TheVariants as op
use Rattle.ls_code.specs.declared.code.Method.{Method as MethodRow}
use Rattle.ls_emit.specs.Units.{CodeUnit, LieIn}
use Rattle.ls_emit.specs.Entering.{told_by, given_back, IsEntering, TakesAll, EntersAs}
use Rattle.ls_refs.specs.ValueWords.{value_word, IsSmall}
use Rattle.ls_types_judgement.specs.Typing.{parameters_of}
use Rattle.ls_refs.specs.Laws.{answer_words, in_words}
use Rattle.ls_preservation.specs.InWords.{word_of}
use Rattle.ls_preservation.specs.Sorts.{Suited}
use Rattle.ls_preservation.specs.Threads.{told}
use Rattle.ls_linker.specs.Laws.{CallAsks, LoweredAsks}
use Rattle.ls_linker.specs.Units.{TakeAsMany}
use Rattle.ls_soundness.specs.InCall.{then_next}
use Rattle.ls_types_judgement.specs.Programs.{AreArguments}
use Rattle.ls_linker.proofs.UnitLists.{laid, laid_is, laid_get}
use Rattle.ls_linker.proofs.SameWords.{values_are, action_is}
use Rattle.ls_linker.proofs.InKind.{arguments_have, as_many}
use Rattle.ls_linker.proofs.Running.{Setting, Guarded, here, feeds, traps, throws, throws_at}

-- the units that lie in the code, and what they and the lowered file owe
pub record Files (s : Setting) : Type 0 where
  pub file : File
  pub program : Program
  pub lowered : low.File
  pub words : ℕ
  pub units : List CodeUnit
  pub take : TakeAsMany lowered units
  pub lie : LieIn s.code words units
  pub enter : EntersAs lowered s.code words
  pub asks : LoweredAsks file lowered
  pub room : 2 + 64 * (words + 1) ≤ s.bound
  pub guarded : Guarded s

-- what a thread does next after a throw: the trap event
abbrev pub trapped : ℕ → Kind → Answers → Next
trapped n kind rest = event (act.Trap n kind) rest (λ rest. Trapped)

pub traps_as : (s : Setting) (e : ℕ) (kind : Kind) (q : Answers) →
    traps s e kind (answer_words q) ≡ told (trapped (e + 1) kind q)
traps_as s e kind [] = refl
traps_as s e kind (x ∷ q) = refl

-- what a call tells, and what follows
told_as : (s : Setting) (e : ℕ) (x : Evaluated Value) (go : Value → Answers → Next) (g : ℕ → course.Answers → Fed) →
    ((v : Value) (rest : Answers) → x ≡ Results v rest → g (value_word v) (answer_words rest) ≡ told (go v rest)) →
    told_by (in_words x) g (traps s e) ≡ told (then_next x go (trapped (e + 1)))
told_as s e (Asks action sort) go g f = ap fed.Asked (action_is action)
told_as s e (Results v rest) go g f = f v rest refl
told_as s e (Throws kind rest) go g f = traps_as s e kind rest

module _ (s : Setting) (f : Files s) where
  -- `this` and the arguments on the operands, at ENTER
  abbrev pub entering : ℕ → ℕ → List Value → List ℕ → ℕ → Thread
  entering p o vs stack e = here s p (laid (map word_of vs) (o ∷ stack)) e true

  laid_as : (o : ℕ) (vs : List Value) (stack : List ℕ) →
      laid (map word_of vs) (o ∷ stack) ≡ reverse (o ∷ map value_word vs) ++ stack
  laid_as o vs stack = ap (λ ws. laid (o ∷ ws) stack) (sym (values_are vs)) ∙ laid_is (o ∷ map value_word vs) stack

  -- a call from the entering on, with what follows its value or its throw
  pub enters_on : (p e n o number : ℕ) (m : Method) (vs : List Value) (stack : List ℕ) (q : Answers)
      (go : Value → Answers → Next) (g : ℕ → course.Answers → Fed) →
      slice_get s.code.instructions p ≡ Some (op.Enter number) → slice_get f.file.methods number ≡ Some m →
      AreArguments (parameters_of m) vs → o ≢ 0 → IsSmall o (types.Class m.class) → length stack < s.need →
      s.from ≤ p → p < s.trap → 3 ≤ n →
      Suited IsSmall (λ more. then_next (invoke f.file 64 number (values.Reference o ∷ vs) more) go (trapped (e + 1))) q
      →
      ((k word : ℕ) (rest : course.Answers) → 1 ≤ k → feeds s k (given_back (entering p o vs stack e) stack word) rest ≡
      g word rest) →
      ((v : Value) (rest : Answers) → Suited IsSmall (go v) rest →
      g (value_word v) (answer_words rest) ≡ told (go v rest)) →
      feeds s n (entering p o vs stack e) (answer_words q) ≡ told
      (then_next (invoke f.file 64 number (values.Reference o ∷ vs) q) go (trapped (e + 1)))
  enters_on p e n o number m vs stack q go g has found fit some small room low high enough kind after goes =
      let this = values.Reference o in
      let call : CallAsks f.file f.lowered 64 number (this ∷ vs) go q = f.asks.asks 64 number m this vs go
      (trapped (e + 1)) q found (small, arguments_have (parameters_of m) vs fit) kind in
      let takes = f.asks.takes number m found in
      let long : length (o ∷ map value_word vs) ≡ takes.0.arguments = omega
      (arith, takes.2, as_many (parameters_of m) vs fit, length-map vs value_word) in
      let all : TakesAll (slice_get f.lowered number) (o ∷ map value_word vs) = subst
      (λ x. TakesAll x (o ∷ map value_word vs)) (sym takes.1) long in
      let at_enter : IsEntering f.lowered s.code number o (map value_word vs) stack 64 (entering p o vs stack e) =
      record {
        running = refl;
        enters = has;
        operands = laid_as o vs stack;
        room = room;
        not_null = some;
        allowed = refl;
      } in
      f.enter s.number s.bound 64 2 number o (map value_word vs) stack (entering p o vs stack e) (answer_words q) g
      (traps s e) at_enter all f.room
      (λ k word rest short le. after k word rest (omega arith))
      (λ k operands kind rest short le. throws s f.guarded p e k (laid (map word_of vs) (o ∷ stack)) operands kind
      rest low high) n (omega arith)
      ∙ ap (λ x. told_by x g (traps s e)) call.words
      ∙ told_as s e (invoke f.file 64 number (this ∷ vs) q) go g (λ v rest is. goes v rest (call.answered v rest is))

  -- on null it throws
  pub throws_null : (p e n number : ℕ) (m : Method) (vs : List Value) (q : Answers) →
      slice_get s.code.instructions p ≡ Some (op.Enter number) →
      slice_get f.file.methods number ≡ Some m →
      AreArguments (parameters_of m) vs →
      s.from ≤ p →
      p < s.trap →
      1 ≤ n →
      feeds s n (entering p 0 vs [] e) (answer_words q) ≡ told (trapped (e + 1) kinds.NullPointer q)
  throws_null p e n number m vs q has found fit low high enough =
      let takes = f.asks.takes number m found in
      let t = entering p 0 vs [] e in
      let unit = f.take number takes.0 takes.1 in
      let lies = f.lie.at number unit.0 unit.1 in
      let row : MethodRow = record {
        start = lies.0;
        arguments = unit.0.arguments;
        more = unit.0.more;
        need = unit.0.need;
      } in
      let place : unit.0.arguments - 1 ≡ length (map word_of vs) + 0 = omega
      (arith, unit.2, takes.2, as_many (parameters_of m) vs fit, length-map vs word_of) in
      let this : slice_get (laid (map word_of vs) (0 ∷ [])) (unit.0.arguments - 1) ≡ Some 0 = ap
      (slice_get (laid (map word_of vs) (0 ∷ []))) place ∙ laid_get (map word_of vs) (0 ∷ []) 0 in
      throws_at s f.guarded p e n (laid (map word_of vs) (0 ∷ [])) kinds.NullPointer (answer_words q) low high enough
      (ap (fetched_move s.code t) has
      ∙ ap (found_move s.code t number) lies.1
      ∙ ap (λ o. call_move s.code t number (elim o as (λ _. CallMove) [
        | None ↦ CallStuck
        | Some this ↦ if this == 0 then CallThrows kinds.NullPointer else
            (if nat_lt (length t.below) 64 then Calls (with_callee row t) else CallThrows kinds.StackOverflow)
      ])) this)
      ∙ traps_as s e kinds.NullPointer q
