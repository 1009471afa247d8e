-- What the instructions of a statement do after its expressions.
use Rattle.std.proofs.Common.{◌≡◌, ℕ, zero, suc, ◌+◌, ◌<◌, ◌≤◌, List, [], ◌∷◌, ◌++◌, length, Option, Some, None, refl}
use Rattle.std.proofs.Common.{sym, ap, ◌∙◌, arith, slice_get, nat_eq, if◌then◌else◌, true, false}
use Rattle.ls_events.specs.declared.kind.Kind.{Kind}
use Rattle.ls_events.specs.declared.kind.Kind.TheVariants.{NullPointer}
use Rattle.ls_events.specs.declared.action.Action.{Action}
use Rattle.ls_events.specs.declared.action.Action.TheVariants as act
use Rattle.ls_events.specs.declared.action.Answer.TheVariants.{Done as Answered, Gives, Fails}
use Rattle.ls_code.specs.declared.code.HandlerRow.{HandlerRow}
use Rattle.ls_code.specs.declared.instruction.Instruction.{Instruction}
use Rattle.ls_code.specs.declared.instruction.Instruction.TheVariants as op
use Rattle.ls_code.specs.declared.instruction.ThreadInstruction.TheVariants as wide
use Rattle.ls_code.specs.declared.instruction.Resume.{Resume}
use Rattle.ls_code.specs.declared.instruction.Resume.TheVariants as then
use Rattle.ls_code.specs.Calls.{left_with}
use Rattle.ls_code.specs.Moves.{FrameMove, Asks as FrameAsks, Beyond, frame_move, resumed}
use Rattle.ls_code.specs.Steps.{Still, thread_move, on_kind, throw_move}
use Rattle.ls_code.specs.Fed.{Fed, Lost, TooLong}
use Rattle.ls_code.specs.Reading.{carry, begins_early, read_move, quiet, resume}
use Rattle.ls_lowered.specs.LoweredTree.{Expression}
use Rattle.ls_lowered.specs.Words.{kind_of}
use Rattle.ls_lowered.specs.Course.{Answers, Course, Ends, Results, finish, ask, perform, unless_null}
use Rattle.ls_lowered.specs.Expressions.{evaluate}
use Rattle.ls_lowered.specs.Statements.{Completion, Threw, on_word, turn_back, throw}
use Rattle.ls_emit.specs.Expressions.{size, code}
use Rattle.ls_emit.specs.Needs.{need}
use Rattle.ls_emit.specs.Emittable.{IsEmittable}
use Rattle.ls_emit.specs.Statements.{Targets}
use Rattle.ls_emit.specs.Entering.{fed_from}
use Rattle.ls_emit.proofs.Places.{HasAt, has_front}
use Rattle.ls_emit.proofs.Told.{After, out, out_then, Go, end, end_word}
use Rattle.ls_emit.proofs.Steps.{Setting, frame, here, raised, Reaches, renamed, silent, move_at, asks}
use Rattle.ls_emit.proofs.Runs.{Catches, throw_or, acts_on}
use Rattle.ls_emit.proofs.ExpressionCode.{EnterRuns}
use Rattle.ls_emit.proofs.ExpressionRuns.{runs}
use Rattle.ls_emit.proofs.StatementPlaces.{NoRow}
use Rattle.ls_emit.proofs.Exits.{Others, catches_by}

end_turn : (again : List ℕ → Answers → Course Completion) (ls : List ℕ) (q : Answers) (g : Go) →
    out (ask act.Turn ls q) (λ w ls q. end (again ls q) g) (λ kind ls q. g (Threw kind) ls q) ≡ end
    (turn_back again ls q) g
end_turn again ls [] g = refl
end_turn again ls (Answered ∷ q) g = refl
end_turn again ls (Gives word ∷ q) g = refl
end_turn again ls (Fails kind ∷ q) g = refl

module _ (s : Setting) where
  -- an expression alone on the operands, and what is done with its word
  pub word_run : (enter : EnterRuns s) (e : Expression) (p : ℕ) (is : List Instruction)
      (f : ℕ → List ℕ → Answers → Course Completion) (ls : List ℕ) (q : Answers) (p' : ℕ) (own : List HandlerRow)
      (t : Targets) (g : Go) →
      HasAt s.code.instructions p (code p e ++ is) →
      IsEmittable s.file s.wide e →
      need e ≤ s.base.top.need →
      p + size e ≤ s.budget →
      p + size e ≤ p' →
      ((c : ℕ) → p ≤ c → c < p + size e → NoRow c own) →
      length ls ≡ s.wide →
      Others s p p' own t q g →
      ((w : ℕ) (ls1 : List ℕ) (rest : Answers) → length ls1 ≡ s.wide → length rest ≤ length q →
      Reaches s (p + size e) (Some (here s (p + size e) ls1 (w ∷ []))) rest (end (f w ls1 rest) g)) →
      Reaches s p (Some (here s p ls [])) q (end (finish (evaluate s.calls e ls q) (on_word f)) g)
  word_run enter e p is f ls q p' own t g has fits room le lq free el x r =
      renamed s p ls [] q _ _ (sym (end_word (evaluate s.calls e ls q) f g))
      (runs s enter e p ls [] q (λ w ls q. end (f w ls q) g) (λ kind ls q. g (Threw kind) ls q)
      (has_front s.code.instructions p (code p e) is has) fits (omega arith) le el r
      (catches_by s p p' p (p + size e) own t q q g (omega arith) lq (omega arith) free x))

  -- an action on an object, without a word
  pub object_does : (action : Action ℕ) (r : Resume) (c : ℕ) (i : Instruction) (x : ℕ) (ls ops : List ℕ) (q : Answers)
      (go : After ℕ) (h : After Kind) →
      slice_get s.code.instructions c ≡ Some i →
      frame_move i (frame s c ls ops) ≡ (if nat_eq x 0 then FrameMove.Throws NullPointer else FrameAsks action r) →
      ((w : ℕ) → resumed r (frame s c ls ops) w ≡ frame s (c + 1) ls []) →
      c < s.budget →
      length ls ≡ s.wide →
      ((rest : Answers) → length rest ≤ length q → Reaches s (c + 1) (Some (here s (c + 1) ls [])) rest (go 0 ls rest))
      →
      Catches s c (c + 1) q h →
      Reaches s c (Some (here s c ls ops)) q (out (unless_null x ls q (perform action ls q)) go h)
  object_does action r c i x ls ops q go h has e after lt el goes catches =
      throw_or s (nat_eq x 0) NullPointer (FrameAsks action r) (perform action ls q) c i ls ops q go h has e lt el
      catches
      (λ e1. renamed s c ls ops q _ _ (sym (out_then (ask action ls q) (λ word ls rest. Ends (Results 0) ls rest) go h))
      (acts_on s action r (λ w. []) c i ls ops q (λ w ls q. go 0 ls q) h has e1 after el (λ w rest l. goes rest l)
      catches))

  -- out of the frame, with the word on top
  pub leave_run : (c w : ℕ) (ls ops : List ℕ) (q : Answers) (o : Fed) →
      slice_get s.code.instructions c ≡ Some op.LeaveWith →
      c < s.budget →
      Reaches s (c + 1) (left_with (here s c ls (w ∷ ops)) s.base.below w) q o →
      Reaches s c (Some (here s c ls (w ∷ ops))) q o
  leave_run c w ls ops q o has lt r =
      silent s c ls (w ∷ ops) (left_with (here s c ls (w ∷ ops)) s.base.below w) q o
      (move_at s.code s.number s.bound s.base c ls (w ∷ ops) op.LeaveWith (Beyond wide.LeaveWith) has refl) lt r

  stuck : (c : ℕ) (ls ops : List ℕ) (q : Answers) →
      thread_move s.code (here s c ls ops) ≡ Still →
      (n : ℕ) →
      fed_from s.code s.number s.bound n (Some (here s c ls ops)) q ≡ Lost
  stuck c ls ops [] e zero = ap (λ m. resume s.code s.number s.bound []
      (carry false (begins_early m) (read_move s.code s.number (here s c ls ops) m) (λ t. TooLong))) e
  stuck c ls ops (x ∷ q) e zero = ap (λ m. resume s.code s.number s.bound (x ∷ q)
      (carry false (begins_early m) (read_move s.code s.number (here s c ls ops) m) (λ t. TooLong))) e
  stuck c ls ops [] e (suc n) = ap (λ m. resume s.code s.number s.bound []
      (carry true (begins_early m) (read_move s.code s.number (here s c ls ops) m) (quiet s.code s.number n))) e
  stuck c ls ops (x ∷ q) e (suc n) = ap (λ m. resume s.code s.number s.bound (x ∷ q)
      (carry true (begins_early m) (read_move s.code s.number (here s c ls ops) m) (quiet s.code s.number n))) e

  -- the kind of a word is thrown, if it is a kind's
  kind_run : (o : Option Kind) (c w : ℕ) (ls : List ℕ) (q : Answers) (g : Go) →
      thread_move s.code (here s c ls (w ∷ [])) ≡ on_kind o (λ kind. throw_move s.code (here s c ls (w ∷ [])) kind) →
      c < s.budget →
      ((kind : Kind) → Reaches s (c + 1) (raised s kind c ls (w ∷ [])) q (g (Threw kind) ls q)) →
      Reaches s c (Some (here s c ls (w ∷ []))) q (end (throw o ls q) g)
  kind_run None c w ls q g e lt r = λ n le. stuck c ls (w ∷ []) q e n
  kind_run (Some kind) c w ls q g e lt r = silent s c ls (w ∷ []) (raised s kind c ls (w ∷ [])) q (g (Threw kind) ls q)
      e lt (r kind)

  -- THROW
  pub throw_run : (c w : ℕ) (ls : List ℕ) (q : Answers) (g : Go) →
      slice_get s.code.instructions c ≡ Some op.Throw →
      c < s.budget →
      ((kind : Kind) → Reaches s (c + 1) (raised s kind c ls (w ∷ [])) q (g (Threw kind) ls q)) →
      Reaches s c (Some (here s c ls (w ∷ []))) q (end (throw (kind_of w) ls q) g)
  throw_run c w ls q g has lt r = kind_run (kind_of w) c w ls q g
      (move_at s.code s.number s.bound s.base c ls (w ∷ []) op.Throw (Beyond wide.Throw) has refl) lt r

  -- the turns of a loop from now on
  abbrev pub Again : ℕ → Answers → (List ℕ → Answers → Course Completion) → Go → Type 0
  Again p q again g = (ls : List ℕ) (rest : Answers) → length ls ≡ s.wide → length rest < length q →
      Reaches s p (Some (here s p ls [])) rest (end (again ls rest) g)

  -- TURN, back to the condition of a loop
  pub turn_run : (c p : ℕ) (again : List ℕ → Answers → Course Completion) (ls : List ℕ) (q : Answers) (g : Go) →
      slice_get s.code.instructions c ≡ Some (op.Turn p) →
      length ls ≡ s.wide →
      ((kind : Kind) (rest : Answers) → length rest ≤ length q →
      Reaches s (c + 1) (raised s kind c ls []) rest (g (Threw kind) ls rest)) →
      Again p q again g →
      Reaches s c (Some (here s c ls [])) q (end (turn_back again ls q) g)
  turn_run c p again ls q g has el catches more n le =
      let inside = s.inside in
      asks s c (op.Turn p) ls [] act.Turn (then.Lead p) q (λ w ls q. end (again ls q) g)
      (λ kind ls q. g (Threw kind) ls q) has refl
      (λ w rest l. more ls rest el l s.bound (omega arith))
      (λ kind rest l. catches kind rest (omega arith) s.bound (omega arith)) n
      ∙ end_turn again ls q g
