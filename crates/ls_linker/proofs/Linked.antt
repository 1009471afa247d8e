-- The linked code's threads ask what the source's threads ask.
use Rattle.std.proofs.Common.{◌≡◌, ℕ, suc, ◌+◌, ◌-◌, ◌≤◌, false, List, [], ◌∷◌, length, map, Option, Some, slice_get}
use Rattle.std.proofs.Common.{refl, sym, ap, ◌∙◌, subst, arith, length-append}
use Rattle.std.proofs.lemmas.List.{length-map}
use Rattle.ls_events.specs.declared.value.Value.{Value}
use Rattle.ls_events.specs.declared.value.ValueType.{ValueType}
use Rattle.ls_checked.specs.CheckedTree.{Class, File}
use Rattle.ls_checked.specs.CheckedProgram.{Program, ProgramCall, Making, Calling}
use Rattle.ls_meaning.specs.Course.{Answers}
use Rattle.ls_meaning.specs.Expressions.{constructor_of}
use Rattle.ls_meaning.specs.Threads.{all_calls, calls_in, next}
use Rattle.ls_lowered.specs.LoweredTree as low
use Rattle.ls_code.specs.Code.{Code, Start}
use Rattle.ls_code.specs.Machine.{started}
use Rattle.ls_code.specs.Reading.{fed}
use Rattle.ls_code.specs.declared.instruction.Instruction.{Instruction}
use Rattle.ls_code.specs.declared.instruction.Instruction.TheVariants as op
use Rattle.ls_code.specs.declared.code.CallResult.{CallResult}
use Rattle.ls_code.specs.declared.code.CallResult.TheVariants as result
use Rattle.ls_emit.specs.Units.{CodeUnit, LieIn}
use Rattle.ls_emit.specs.Entering.{UnitsAsk}
use Rattle.ls_refs.specs.ValueWords.{IsSmall}
use Rattle.ls_refs.specs.Laws.{answer_words}
use Rattle.ls_preservation.specs.InWords.{word_of, map_answer}
use Rattle.ls_preservation.specs.Sorts.{Suited, InKind}
use Rattle.ls_preservation.specs.Threads.{Asks, told, call_result, result_type}
use Rattle.ls_preservation.specs.Translations.{most_silent}
use Rattle.ls_linker.specs.Threads.{pushes, result_code, call_code, calls_code, calls_need, thread_size, start_of}
use Rattle.ls_linker.specs.Linked.{words_of, units_code, units_rows, threads_code, threads_rows, class_size}
use Rattle.ls_linker.specs.Linked.{linked}
use Rattle.ls_linker.specs.Laws.{LoweredAsks}
use Rattle.ls_types_judgement.specs.Programs.{IsTypedCall, IsTypedProgram}
use Rattle.ls_linker.proofs.UnitLists.{RowsEnd, get_map}
use Rattle.ls_emit.proofs.Places.{HasAt, has_front, has_after}
use Rattle.ls_linker.specs.Units.{TakeAsMany}
use Rattle.ls_linker.proofs.UnitRuns.{AllWithin, units_end, units_long, units_lie_in}
use Rattle.ls_linker.proofs.ThreadRuns.{Thread, threads_from, threads_lie, started_as}
use Rattle.ls_linker.proofs.SameWords.{answers_are}
use Rattle.ls_linker.proofs.Running.{Setting, Guarded, here, feeds, halts}
use Rattle.ls_linker.proofs.Entered.{Files}
use Rattle.ls_linker.proofs.CallRuns.{Onward, calling_run, making_run}

some_code : (classes : List Class) (n : ℕ) (cs : List ProgramCall) → 2 ≤ length (calls_code classes n cs)
some_code classes n [] = omega arith
some_code classes n (c ∷ cs) = omega (
  arith,
  length-append (call_code classes n c) (calls_code classes (n + 1) cs),
  some_code classes (n + 1) cs,
)

some_need : (cs : List ProgramCall) → 1 ≤ calls_need cs
some_need [] = omega arith
some_need (c ∷ cs) = let e = some_need cs in omega arith

making_long : (classes : List Class) (n name c : ℕ) (text : List ℕ) (vs : List Value) →
    length (call_code classes n (Making name c text vs)) ≡ length vs + 7
making_long classes n name c text vs =
    omega (
      arith,
      length-append (pushes vs) (op.Enter (constructor_of classes c) ∷ op.Pop ∷ op.PutName name ∷
          op.Result n ∷ []),
      length-map vs (λ v. op.Push (word_of v)),
    )

calling_long : (classes : List Class) (n name m : ℕ) (text : List ℕ) (answers : Option ValueType) (vs : List Value) →
    length (call_code classes n (Calling name m text answers vs)) ≡ length vs + 3 + length
    (result_code (result_type answers) n)
calling_long classes n name m text answers vs =
    omega (
      arith,
      length-append (pushes vs) (op.Enter m ∷ result_code (result_type answers) n),
      length-map vs (λ v. op.Push (word_of v)),
    )

some_result : (r : CallResult) (n : ℕ) → 1 ≤ length (result_code r n)
some_result result.Nothing n = omega arith
some_result result.Int n = omega arith
some_result result.Boolean n = omega arith

-- TRAP is at the last place
pub last_traps : (whole : List Instruction) (classes : List Class) (n : ℕ) (cs : List ProgramCall) (p : ℕ) →
    HasAt whole p (calls_code classes n cs) →
    slice_get whole (p + (length (calls_code classes n cs) - 1)) ≡ Some op.Trap
last_traps whole classes n [] p has = has.1.0
last_traps whole classes n (c ∷ cs) p has =
    let q = p + length (call_code classes n c) in
    let same : p + (length (calls_code classes n (c ∷ cs)) - 1) ≡ q + (length (calls_code classes (n + 1) cs) - 1) =
    omega (
      arith,
      length-append (call_code classes n c) (calls_code classes (n + 1) cs),
      some_code classes (n + 1) cs,
    ) in
    ap (slice_get whole) same ∙ last_traps whole classes (n + 1) cs q
    (has_after whole p (length (call_code classes n c)) (call_code classes n c) (calls_code classes (n + 1) cs) refl
    has)

-- the calls from one on, as they are in the code
pub record Follows (s : Setting) (f : Files s) (cs : List ProgramCall) (e p : ℕ) : Type 0 where
  pub has : HasAt s.code.instructions p (calls_code f.file.classes (e + 1) cs)
  pub low : s.from ≤ p
  pub high : p + length (calls_code f.file.classes (e + 1) cs) ≡ s.trap + 1
  pub need : calls_need cs ≤ s.need
  pub bound : length (calls_code f.file.classes (e + 1) cs) ≤ s.bound
  pub long : e + length cs ≡ length s.calls
  pub table : (i : ℕ) → slice_get s.calls (e + i) ≡ slice_get (map call_result cs) i
  pub typed : (i : ℕ) (call : ProgramCall) → slice_get cs i ≡ Some call → IsTypedCall f.file f.program call

module _ (s : Setting) (f : Files s) where
  follows_on : (c : ProgramCall) (cs : List ProgramCall) (e p : ℕ) →
      Follows s f (c ∷ cs) e p →
      Follows s f cs (e + 1) (p + length (call_code f.file.classes (e + 1) c))
  follows_on c cs e p w =
      let one = call_code f.file.classes (e + 1) c in
      let others = calls_code f.file.classes (e + 1 + 1) cs in
      record {
        has = has_after s.code.instructions p (length one) one others refl w.has;
        low = omega (arith, w.low);
        high = omega (arith, w.high, length-append one others);
        need = omega (arith, w.need);
        bound = omega (arith, w.bound, length-append one others);
        long = omega (arith, w.long);
        table = λ i. (let same : e + 1 + i ≡ e + suc i = omega arith in ap (slice_get s.calls) same ∙ w.table (suc i));
        typed = λ i. w.typed (suc i);
      }

  calls_run : (cs : List ProgramCall) (e p n : ℕ) →
      Follows s f cs e p →
      1 ≤ n →
      (q : Answers) →
      Suited IsSmall (all_calls f.file f.program (e + 1) cs) q →
      feeds s n (here s p [] e false) (answer_words q) ≡ told (all_calls f.file f.program (e + 1) cs q)
  calls_run [] e p n w some q u = halts s p e n (answer_words q) w.has.0 some
  calls_run (Making name c text vs ∷ cs) e p n w some q u =
      let one = call_code f.file.classes (e + 1) (Making name c text vs) in
      let others = calls_code f.file.classes (e + 1 + 1) cs in
      let long = making_long f.file.classes (e + 1) name c text vs in
      let sum = length-append one others in
      let behind = some_code f.file.classes (e + 1 + 1) cs in
      let within : p + length one ≤ s.trap = omega (arith, w.high, sum, behind) in
      let here_is : p + length one ≡ p + 1 + 1 + 1 + length vs + 1 + 1 + 1 + 1 = omega (arith, long) in
      let bound : length one ≤ s.bound = omega (arith, w.bound, sum) in
      let table : slice_get s.calls e ≡ Some result.Nothing =
      (let same : e ≡ e + 0 = omega arith in ap (slice_get s.calls) same ∙ w.table 0) in
      making_run s f e p cs name c text vs (w.typed 0 (Making name c text vs) refl)
      (has_front s.code.instructions p one others w.has) w.low
      (omega (arith, within, long)) (omega (arith, w.need)) (omega (arith, bound, long)) (omega (arith, w.long)) table
      (subst (λ k. Onward s f e p cs k) here_is (λ q u. calls_run cs (e + 1) (p + length one) s.bound
      (follows_on (Making name c text vs) cs e p w) (omega (arith, bound, long)) q u)) n q u
  calls_run (Calling name m text answers vs ∷ cs) e p n w some q u =
      let one = call_code f.file.classes (e + 1) (Calling name m text answers vs) in
      let others = calls_code f.file.classes (e + 1 + 1) cs in
      let end = length (result_code (result_type answers) (e + 1)) in
      let long = calling_long f.file.classes (e + 1) name m text answers vs in
      let sum = length-append one others in
      let behind = some_code f.file.classes (e + 1 + 1) cs in
      let within : p + length one ≤ s.trap = omega (arith, w.high, sum, behind) in
      let here_is : p + length one ≡ p + 1 + 1 + length vs + 1 + end = omega (arith, long) in
      let bound : length one ≤ s.bound = omega (arith, w.bound, sum) in
      let table : slice_get s.calls e ≡ Some (result_type answers) =
      (let same : e ≡ e + 0 = omega arith in ap (slice_get s.calls) same ∙ w.table 0) in
      calling_run s f e p cs name m text answers vs (w.typed 0 (Calling name m text answers vs) refl)
      (has_front s.code.instructions p one others w.has) w.low
      (omega (arith, within, long)) (omega (arith, w.need)) (omega (arith, bound, long)) (omega (arith, w.long)) table
      (subst (λ k. Onward s f e p cs k) here_is (λ q u. calls_run cs (e + 1) (p + length one) s.bound
      (follows_on (Calling name m text answers vs) cs e p w) (omega (arith, bound, long)) q u)) n q u

module _ (file : File) (program : Program) (lowered : low.File) (us : List CodeUnit) (asks : LoweredAsks file lowered)
    (take : TakeAsMany lowered us) (within : AllWithin us) (units : UnitsAsk lowered us)
    (typed : IsTypedProgram file program) where
  abbrev code : Code
  code = linked file program us

  abbrev words : ℕ
  words = words_of us

  lies : LieIn code words us
  lies = units_lie_in code us (threads_code file.classes program.threads)
      (threads_rows file.classes words program.threads) within (threads_from file.classes program.threads words) refl
      refl refl

  thread_at : (t : ℕ) (s : Start) →
      slice_get code.starts t ≡ Some s →
      Thread code file.classes program.threads words t s
  thread_at t s e =
      threads_lie code file.classes program.threads words words (units_code 0 us) (units_rows 0 us) (omega arith)
      (sym (units_long us 0))
      (let same : 0 + words ≡ words = omega arith in subst (λ k. RowsEnd k (units_rows 0 us)) same
      (units_end us 0 within)) refl refl t s e

  thread_asks : (t : ℕ) (s : Start) (had : Answers) →
      slice_get code.starts t ≡ Some s →
      InKind file program t had →
      fed code t (most_silent code) (most_silent code) (started s) (map (map_answer word_of) had) ≡ told
      (next file program t had)
  thread_asks t s had e kind =
      let th = thread_at t s e in
      let l = th.lies in
      let calls = th.program.calls in
      let size = thread_size file.classes th.program in
      let long = some_code file.classes 1 calls in
      let setting : Setting = record {
        code = code;
        number = t;
        bound = most_silent code;
        calls = map call_result calls;
        need = calls_need calls;
        from = th.place;
        trap = th.place + (size - 1);
      } in
      let guarded : Guarded setting = record {
        some = some_need calls;
        at_trap = last_traps code.instructions file.classes 1 calls th.place l.stands;
        guards = l.guards;
      } in
      let fits : words + 2 ≤ length code.instructions = omega (arith, l.behind, l.fits, long) in
      let files : Files setting = record {
        file = file;
        program = program;
        lowered = lowered;
        words = words;
        units = us;
        take = take;
        lie = lies;
        enter = units code words lies;
        asks = asks;
        room = omega (arith, fits);
        guarded = guarded;
      } in
      let found : slice_get program.threads t ≡ Some th.program = th.found in
      let follows : Follows setting files calls 0 th.place = record {
        has = l.stands;
        low = omega arith;
        high = omega (arith, long);
        need = omega arith;
        bound = omega (arith, l.fits);
        long = omega (arith, length-map calls call_result);
        table = λ i. (let same : 0 + i ≡ i = omega arith in ap (slice_get (map call_result calls)) same);
        typed = λ i call is. typed t th.program i call found is;
      } in
      let source : next file program t ≡ all_calls file program 1 calls = ap
      (λ x. all_calls file program 1 (calls_in x)) found in
      ap (λ z. fed code t (most_silent code) (most_silent code) (started z) (map (map_answer word_of) had)) th.starts
      ∙ ap (λ q. fed code t (most_silent code) (most_silent code) (started (start_of th.place th.program)) q)
      (answers_are had)
      ∙ calls_run setting files calls 0 th.place (most_silent code) follows (omega (arith, fits)) had
      (subst (λ x. Suited IsSmall x had) source kind)
      ∙ sym (ap (λ x. told (x had)) source)

  -- the threads of the whole code ask what the source asks
  pub linked_asks : Asks file program code
  linked_asks = record {
    asks = thread_asks;
    threads = started_as file.classes program.threads words;
    names = refl;
    sizes = λ c class e. get_map class_size file.classes c class e;
  }
