-- Each reading goes on to a program, of whichever file.
use Rattle.std.proofs.Common.{◌≡◌, ℕ, suc, refl, sym, subst, ap, Bool, true, false, not, ◌&&◌, List, [], ◌∷◌, ◌++◌}
use Rattle.std.proofs.Common.{length, Option, Some, None, nat_lt, nat_le, lit≤, if◌then◌else◌, bytes_eq, codes}
use Rattle.std.specs.Prelude.{slice_get, is_some}
use Rattle.ls_checked.specs.Limits.{most_threads}
use Rattle.ls_lexer.specs.declared.sign.Sign.TheVariants as signs
use Rattle.ls_lexer.specs.declared.word.Word.TheVariants as words
use Rattle.ls_lexer.specs.Lexemes.{Lexeme, Named, Reserved, Marked}
use Rattle.ls_lexer.specs.Formed.{IsFormed}
use Rattle.ls_checked.specs.CheckedProgram.{SetupName, Program}
use Rattle.ls_types_elaboration.specs.Trees.{Text}
use Rattle.ls_types_elaboration.specs.Known.{MethodSign, number_of}
use Rattle.ls_types_elaboration.specs.Elaboration.{ElaboratedFile}
use Rattle.ls_types_programs.specs.ProgramCalls.{Pending, setup_named, maker, method_on, is_plain, callable, Method}
use Rattle.ls_types_programs.specs.ThreadPrograms
use Rattle.ls_types_programs.specs.ThreadPrograms.{Stage, Parts, Reading, at, when, with_call, used, after_new}
use Rattle.ls_types_programs.specs.ThreadPrograms.{after_dot, after_name, at_semicolon, at_thread, at_thread_name}
use Rattle.ls_types_programs.specs.ThreadPrograms.{at_call, name_in, closed, is_new_name, with_finished, named, stepped}
use Rattle.ls_types_programs.specs.ThreadPrograms.{after, beginning, thread_named, is_sign, is_word, is_text}
use Rattle.ls_types_programs.specs.Spelled as spelled
use Rattle.ls_types_programs.specs.Spelled.{Others, Arguments, Spells}
use Rattle.ls_types_programs.specs.Faults.{GoesOn}
use Rattle.ls_types_programs.proofs.Pieces.{same_some, both, sign_is, word_is, name_is}
use Rattle.ls_types_programs.proofs.Rest.{gives}
use Rattle.ls_types_programs.proofs.RestInBlocks.{word_named}
use Rattle.ls_types_programs.proofs.Forms.{Begins, By, LeftCalls, Left, LeftValues, Valued, LeftThreads, Ends, Follows}
use Rattle.ls_types_programs.proofs.Forms.{not_first, after_none}
use Rattle.ls_types_programs.proofs.WaysInArguments.{IsAmong, Leads, when_leads, renamed, made, dotted, Kept}
use Rattle.ls_types_programs.proofs.WaysInArguments.{argument_leads, minus_leads, first_leads, others_leads, AreAmong}
use Rattle.ls_types_programs.proofs.WaysInArguments.{behind, collected, collected_among}

module _ (o : ElaboratedFile) (names : List SetupName) where
  call_leads : (r : Parts) (k : Lexeme) →
      ((name : Text) → k ≡ Named name → IsAmong names name) →
      Leads o names r ThreadPrograms.AtCall k (at_call r k (name_in k))
  call_leads r k among = by (name_in k) refl
    where
      ended : (ks : List Lexeme) →
          (gives (closed r) ≡ false) × LeftThreads names ks →
          LeftCalls names (gives r) (Marked signs.CloseBrace ∷ ks)
      ended ks (e, Ends threads) = Left spelled.NoCall threads

      by : (t : Option Text) → name_in k ≡ t → Leads o names r ThreadPrograms.AtCall k (at_call r k t)
      by None e = when_leads o names r ThreadPrograms.AtCall k (is_sign signs.CloseBrace k)
          (at (closed r) ThreadPrograms.AtThread)
          (λ is. (
            not_first r (record { name = r.name; calls = r.calls }),
            λ ks m. subst (λ x. LeftCalls names (gives r) (x ∷ ks)) (sym (sign_is signs.CloseBrace k is))
                (ended ks m),
          ))
      by (Some name) e = (
        among name (name_is k name e),
        λ ks m.
            subst (λ x. LeftCalls names (gives r) (x ∷ ks)) (sym (name_is k name e)) m,
      )

  name_leads : (r : Parts) (name : Text) (k : Lexeme) →
      IsAmong names name →
      Leads o names r (ThreadPrograms.AfterName name) k (after_name r name k)
  name_leads r name k there = by (is_sign signs.Assign k) refl
    where
      use_dot : (x : Option ℕ) → Leads o names r (ThreadPrograms.AfterName name) (Marked signs.Dot) (used r x)
      use_dot None = tt
      use_dot (Some n) = ((name, there), λ ks m. renamed o names (gives r) m.0 name ks there m.1)

      is_dot : (b : Bool) →
          is_sign signs.Dot k ≡ b →
          Leads o names r (ThreadPrograms.AfterName name) k (if b then used r (setup_named r.names name) else None)
      is_dot false e = tt
      is_dot true e = subst (λ x. Leads o names r (ThreadPrograms.AfterName name) x (used r (setup_named r.names name)))
          (sym (sign_is signs.Dot k e)) (use_dot (setup_named r.names name))

      by : (b : Bool) →
          is_sign signs.Assign k ≡ b →
          Leads o names r (ThreadPrograms.AfterName name) k (if b then
          when (is_new_name r name) (at r (ThreadPrograms.AfterAssign name)) else
          (if is_sign signs.Dot k then used r (setup_named r.names name) else None))
      by true e = when_leads o names r (ThreadPrograms.AfterName name) k (is_new_name r name)
          (at r (ThreadPrograms.AfterAssign name))
          (λ new. (
            (there, (both (gives r) (not (is_some (setup_named r.names name))) new).0),
            λ ks m. subst (λ x. LeftCalls names (gives r) (Named name ∷ x ∷ ks)) (sym (sign_is signs.Assign k e)) m,
          ))
      by false e = is_dot (is_sign signs.Dot k) refl

  new_leads : (r : Parts) (name : Text) (k : Lexeme) →
      IsAmong names name × (gives r ≡ true) →
      Leads o names r (ThreadPrograms.AfterNew name) k (after_new o r name (name_in k))
  new_leads r name k there = by (name_in k) refl
    where
      front : (class : Text) (ks : List Lexeme) →
          Begins (Marked signs.OpenParen) (LeftValues names Arguments (gives r)) ks →
          LeftCalls names (gives r) (Named name ∷ Marked signs.Assign ∷ Reserved words.New ∷ Named class ∷ ks)
      front class _ (By m) = made o names (gives r) name there.1 there.0 m

      found : (class : Text) (x : Option ℕ) →
          Leads o names r (ThreadPrograms.AfterNew name) (Named class)
          (with_call r ThreadPrograms.AtArguments (maker o name class x))
      found class None = tt
      found class (Some c) = (tt, front class)

      by : (t : Option Text) → name_in k ≡ t → Leads o names r (ThreadPrograms.AfterNew name) k (after_new o r name t)
      by None e = tt
      by (Some class) e = subst (λ x. Leads o names r (ThreadPrograms.AfterNew name) x
          (after_new o r name (Some class)))
          (sym (name_is k class e)) (found class (number_of o.names class))

  dot_leads : (r : Parts) (n : ℕ) (k : Lexeme) →
      (name : Text) × IsAmong names name →
      Leads o names r (ThreadPrograms.AfterDot n) k (after_dot o r n (name_in k))
  dot_leads r n k there = by (name_in k) refl
    where
      front : (method : Text) (ks : List Lexeme) →
          Begins (Marked signs.OpenParen) (LeftValues names Arguments (gives r)) ks →
          (name : Text) × LeftCalls names (gives r) (Named name ∷ Marked signs.Dot ∷ Named method ∷ ks)
      front method _ (By m) = (there.0, dotted o names (gives r) there.0 there.1 m)

      plain : (method : Text) (m : MethodSign) (b : Bool) →
          Leads o names r (ThreadPrograms.AfterDot n) (Named method)
          (with_call r ThreadPrograms.AtArguments (if b then
          Some (record { callee = Method n m.number method m.result; types = m.parameters; values = [] }) else
          None))
      plain method m false = tt
      plain method m true = (tt, front method)

      found : (method : Text) (x : Option MethodSign) →
          Leads o names r (ThreadPrograms.AfterDot n) (Named method)
          (with_call r ThreadPrograms.AtArguments (callable n method x))
      found method None = tt
      found method (Some m) = plain method m (is_plain m.result)

      by : (t : Option Text) → name_in k ≡ t → Leads o names r (ThreadPrograms.AfterDot n) k (after_dot o r n t)
      by None e = tt
      by (Some method) e = subst (λ x. Leads o names r (ThreadPrograms.AfterDot n) x (after_dot o r n (Some method)))
          (sym (name_is k method e)) (found method (method_on o (slice_get r.names n) method))

  -- the only token that may come
  only_leads : (r : Parts) (stage next : Stage) (k : Lexeme) (b : Bool) →
      (b ≡ true → Kept o names r next × ((ks : List Lexeme) → Follows names (gives r) next ks →
      Follows names (gives r) stage (k ∷ ks))) →
      Leads o names r stage k (when b (at r next))
  only_leads r stage next k b h = when_leads o names r stage k b (at r next) h

  semicolon_leads : (r : Parts) (p : Pending) (k : Lexeme) →
      Leads o names r (ThreadPrograms.AtSemicolon p) k (at_semicolon r p k)
  semicolon_leads r p k = when_leads o names r (ThreadPrograms.AtSemicolon p) k
      (is_sign signs.Semicolon k && nat_lt (length r.calls) 256) (at (with_finished r p) ThreadPrograms.AtCall)
      (λ e. (
        tt,
        λ ks m. subst (λ x. Begins (Marked signs.Semicolon) (LeftCalls names (gives r)) (x ∷ ks))
            (sym (sign_is signs.Semicolon k (both (is_sign signs.Semicolon k) (nat_lt (length r.calls) 256) e).0))
            (By m),
      ))

  thread_leads : (r : Parts) (k : Lexeme) → gives r ≡ false → Leads o names r ThreadPrograms.AtThread k (at_thread r k)
  thread_leads r k later = when_leads o names r ThreadPrograms.AtThread k
      (is_text (codes "thread") (name_in k) && nat_le (length r.threads) most_threads)
      (at r ThreadPrograms.AtThreadName)
      (λ e. (
        later,
        λ ks m. (
          later,
          subst (λ x. LeftThreads names (x ∷ ks))
              (sym (word_named o r (codes "thread") k (both (is_text (codes "thread") (name_in k))
              (nat_le (length r.threads) most_threads) e).0)) m.1,
        ),
      ))

  thread_name_leads : (r : Parts) (k : Lexeme) →
      gives r ≡ false →
      Leads o names r ThreadPrograms.AtThreadName k (at_thread_name r (name_in k))
  thread_name_leads r k later = by (name_in k) refl
    where
      front : (name : Text) (ks : List Lexeme) →
          Begins (Marked signs.OpenBrace) (LeftCalls names false) ks →
          LeftThreads names (Named (codes "thread") ∷ Named name ∷ ks)
      front name _ (By (Left {cs = cs} calls threads)) = Ends
          (spelled.Thread {t = record { name = name; calls = cs }} calls threads)

      by : (t : Option Text) → name_in k ≡ t → Leads o names r ThreadPrograms.AtThreadName k (at_thread_name r t)
      by None e = tt
      by (Some name) e = when_leads o names r ThreadPrograms.AtThreadName k
          (not (bytes_eq name (codes "all")) && not (thread_named r.threads name))
          (at (named r name) ThreadPrograms.AtBlock)
          (λ is. (
            tt,
            λ ks m. (
              later,
              subst (λ x. LeftThreads names (Named (codes "thread") ∷ x ∷ ks))
                  (sym (name_is k name e))
                  (front name ks (subst (λ b. Begins (Marked signs.OpenBrace) (LeftCalls names b) ks) later m)),
            ),
          ))

  step_leads : (r : Parts) (stage : Stage) (k : Lexeme) →
      IsFormed k →
      ((name : Text) → k ≡ Named name → IsAmong names name) →
      Kept o names r stage →
      Leads o names r stage k (stepped o r stage k)
  step_leads r ThreadPrograms.AtSetup k formed among kept = only_leads r ThreadPrograms.AtSetup ThreadPrograms.AtBlock k
      (is_text (codes "setup") (name_in k))
      (λ e. (
        tt,
        λ ks m. (
          kept,
          subst (λ x. Begins (Named (codes "setup")) (Begins (Marked signs.OpenBrace) (LeftCalls names true))
              (x ∷ ks)) (sym (word_named o r (codes "setup") k e))
              (By (subst (λ b. Begins (Marked signs.OpenBrace) (LeftCalls names b) ks) kept m)),
        ),
      ))
  step_leads r ThreadPrograms.AtBlock k formed among kept = only_leads r ThreadPrograms.AtBlock ThreadPrograms.AtCall k
      (is_sign signs.OpenBrace k)
      (λ e. (
        tt,
        λ ks m. subst (λ x. Begins (Marked signs.OpenBrace) (LeftCalls names (gives r)) (x ∷ ks))
            (sym (sign_is signs.OpenBrace k e)) (By m),
      ))
  step_leads r ThreadPrograms.AtCall k formed among kept = call_leads r k among
  step_leads r (ThreadPrograms.AfterName name) k formed among kept = name_leads r name k kept
  step_leads r (ThreadPrograms.AfterAssign name) k formed among kept = only_leads r (ThreadPrograms.AfterAssign name)
      (ThreadPrograms.AfterNew name) k (is_word words.New k)
      (λ e. (
        kept,
        λ ks m. subst (λ x. LeftCalls names (gives r) (Named name ∷ Marked signs.Assign ∷ x ∷ ks))
            (sym (word_is words.New k e)) m,
      ))
  step_leads r (ThreadPrograms.AfterNew name) k formed among kept = new_leads r name k kept
  step_leads r (ThreadPrograms.AfterDot n) k formed among kept = dot_leads r n k kept
  step_leads r (ThreadPrograms.AtArguments p) k formed among kept = only_leads r (ThreadPrograms.AtArguments p)
      (ThreadPrograms.AtFirst p) k (is_sign signs.OpenParen k)
      (λ e. (
        tt,
        λ ks m. subst (λ x. Begins (Marked signs.OpenParen) (LeftValues names Arguments (gives r)) (x ∷ ks))
            (sym (sign_is signs.OpenParen k e)) (By m),
      ))
  step_leads r (ThreadPrograms.AtFirst p) k formed among kept = first_leads o names r p k
  step_leads r (ThreadPrograms.AtArgument p) k formed among kept = argument_leads o names r p
      (ThreadPrograms.AtArgument p) k
      (λ ks m. m)
  step_leads r (ThreadPrograms.AfterMinus p) k formed among kept = minus_leads o names r p k formed
  step_leads r (ThreadPrograms.AfterArgument p) k formed among kept = others_leads o names r p k
  step_leads r (ThreadPrograms.AtSemicolon p) k formed among kept = semicolon_leads r p k
  step_leads r ThreadPrograms.AtThread k formed among kept = thread_leads r k kept
  step_leads r ThreadPrograms.AtThreadName k formed among kept = thread_name_leads r k kept

  leads_on : (ks : List Lexeme) (r : Parts) (stage : Stage) (q : Reading) →
      ((i : ℕ) (k : Lexeme) → slice_get ks i ≡ Some k → IsFormed k) →
      AreAmong names ks →
      Kept o names r stage
      → after o (Some (at r stage)) ks ≡ Some q → Kept o names q.parts q.stage ×
      ((more : List Lexeme) → Follows names (gives q.parts) q.stage more →
      Follows names (gives r) stage (ks ++ more))
  leads_on [] r stage q formed among kept e =
      subst (λ (x : Reading). Kept o names x.parts x.stage × ((more : List Lexeme) →
      Follows names (gives x.parts) x.stage more → Follows names (gives r) stage more)) (same_some (at r stage) q e)
      (kept, λ more m. m)
  leads_on (k ∷ ks) r stage q formed among kept e =
      by (λ s t next. leads_on ks s t q (λ i. formed (suc i)) (λ i. among (suc i)) next) (stepped o r stage k)
      (step_leads r stage k (formed 0 k refl) (λ name is. among 0 name (ap (λ x. Some x) is)) kept) e
    where
      by : ((s : Parts) (t : Stage) → Kept o names s t → after o (Some (at s t)) ks ≡ Some q →
          Kept o names q.parts q.stage × ((more : List Lexeme) → Follows names (gives q.parts) q.stage more →
          Follows names (gives s) t (ks ++ more)))
          → (x : Option Reading) → Leads o names r stage k x → after o x ks ≡ Some q →
          Kept o names q.parts q.stage × ((more : List Lexeme) → Follows names (gives q.parts) q.stage more →
          Follows names (gives r) stage (k ∷ ks ++ more))
      by rec None h e = absurd (after_none o ks q e)
      by rec (Some next) h e = let g = rec next.parts next.stage h.0 e in (g.0, λ more m. h.1 (ks ++ more) (g.1 more m))

  -- ---- each stage has an end

  block_ends : (b : Bool) → LeftCalls names b (Marked signs.CloseBrace ∷ [])
  block_ends b = Left spelled.NoCall spelled.NoThread

  call_ends : (b : Bool) →
      LeftValues names Arguments b (Marked signs.CloseParen ∷ Marked signs.Semicolon ∷ Marked signs.CloseBrace ∷ [])
  call_ends b = Valued spelled.NoArgument (block_ends b)

  others_end : (b : Bool) →
      LeftValues names Others b (Marked signs.CloseParen ∷ Marked signs.Semicolon ∷ Marked signs.CloseBrace ∷ [])
  others_end b = Valued spelled.NoOther (block_ends b)

  ends : (r : Parts) (stage : Stage) → Kept o names r stage → (more : List Lexeme) × Follows names (gives r) stage more
  ends r ThreadPrograms.AtSetup kept = (_, (kept, By (By (block_ends true))))
  ends r ThreadPrograms.AtBlock kept = (_, By (block_ends (gives r)))
  ends r ThreadPrograms.AtCall kept = (_, block_ends (gives r))
  ends r (ThreadPrograms.AfterName name) kept = (
    _,
    dotted o names {method = codes "m"} (gives r) name kept
        (call_ends (gives r)),
  )
  ends r (ThreadPrograms.AfterAssign name) kept = (
    _,
    made o names {class_name = codes "C"} (gives r) name kept.1 kept.0
        (call_ends (gives r)),
  )
  ends r (ThreadPrograms.AfterNew name) kept = (
    _,
    made o names {class_name = codes "C"} (gives r) name kept.1 kept.0
        (call_ends (gives r)),
  )
  ends r (ThreadPrograms.AfterDot n) kept =
      (_, (kept.0, dotted o names {method = codes "m"} (gives r) kept.0 kept.1 (call_ends (gives r))))
  ends r (ThreadPrograms.AtArguments p) kept = (_, By (call_ends (gives r)))
  ends r (ThreadPrograms.AtFirst p) kept = (_, call_ends (gives r))
  ends r (ThreadPrograms.AtArgument p) kept = (_, behind o names spelled.True (others_end (gives r)))
  ends r (ThreadPrograms.AfterMinus p) kept = (
    _,
    behind o names (spelled.Minus (codes "0") (lit≤ tt))
        (others_end (gives r)),
  )
  ends r (ThreadPrograms.AfterArgument p) kept = (_, others_end (gives r))
  ends r (ThreadPrograms.AtSemicolon p) kept = (_, By (block_ends (gives r)))
  ends r ThreadPrograms.AtThread kept = ([], (kept, Ends spelled.NoThread))
  ends r ThreadPrograms.AtThreadName kept =
      (_, (kept, Ends (spelled.Thread {t = record { name = codes "A"; calls = [] }} spelled.NoCall spelled.NoThread)))

  spells : (ks : List Lexeme) → Follows names true ThreadPrograms.AtSetup ks → (p : Program) × Spells p ks
  spells _ (e, By (By (Left calls threads))) = (_, spelled.Whole calls threads)

-- what is read goes on to a program
pub goes_on : (o : ElaboratedFile) (ks : List Lexeme) (q : Reading) →
    ((i : ℕ) (k : Lexeme) → slice_get ks i ≡ Some k → IsFormed k) →
    after o (Some beginning) ks ≡ Some q →
    GoesOn ks
goes_on o ks q formed e =
    let names : List SetupName = collected ks in
    let h = leads_on o names ks beginning.parts ThreadPrograms.AtSetup q formed (collected_among ks) refl e in
    let more = ends o names q.parts q.stage h.0 in
    let p = spells o names (ks ++ more.0) (h.1 more.0 more.1) in
    (p.0, more.0, p.1)
