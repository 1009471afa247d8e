-- If the reading stops, the fault that is answered is at its place.
use Rattle.std.proofs.Common.{◌≡◌, ℕ, ◌<◌, ◌≤◌, refl, sym, ◌∙◌, subst, ap, Bool, true, false, not, ◌&&◌, List, [], ◌∷◌}
use Rattle.std.proofs.Common.{◌++◌, append_assoc, length, Option, Some, None, nat_lt, nat_le, arith, if◌then◌else◌}
use Rattle.std.proofs.Common.{bytes_eq, codes}
use Rattle.std.proofs.lemmas.Bool.{lt-ltb, le-leb}
use Rattle.std.specs.Prelude.{slice_get}
use Rattle.ls_checked.specs.Limits.{most_threads}
use Rattle.ls_lexer.specs.declared.sign.Sign.TheVariants as signs
use Rattle.ls_lexer.specs.declared.token.Token.{Token}
use Rattle.ls_lexer.specs.Lexemes.{Lexeme, Named, Marked, lexeme_of, lexemes}
use Rattle.ls_lexer.specs.Formed.{IsFormed}
use Rattle.ls_lexer.specs.Places.{InOrder}
use Rattle.ls_lexer.specs.Tokens.{tokens_of}
use Rattle.ls_lexer.proofs.FormedLaws.{tokens_are_formed}
use Rattle.ls_checked.specs.CheckedProgram.{Program}
use Rattle.ls_types_elaboration.specs.Trees.{Text}
use Rattle.ls_types_elaboration.specs.Elaboration.{ElaboratedFile}
use Rattle.ls_types_programs.specs.ProgramCalls.{Pending, is_full}
use Rattle.ls_types_programs.specs.ThreadPrograms
use Rattle.ls_types_programs.specs.ThreadPrograms.{Stage, Parts, Reading, at, when, at_semicolon, at_thread}
use Rattle.ls_types_programs.specs.ThreadPrograms.{at_thread_name, name_in, with_finished, named, stepped, after, ended}
use Rattle.ls_types_programs.specs.ThreadPrograms.{beginning, thread_named, is_sign, is_text}
use Rattle.ls_types_programs.specs.Stops.{Marks, unmarked, marked, Form, ManyCalls, ManyThreads, Fault, Bad, fault_for}
use Rattle.ls_types_programs.specs.Stops.{fault_at_end, goes_on, stops, why, why_semicolon, why_thread, why_thread_name}
use Rattle.ls_types_programs.specs.Spelled.{Arguments}
use Rattle.ls_types_programs.specs.Faults as faults
use Rattle.ls_types_programs.specs.Faults.{AreWhole, IsBad, IsPast}
use Rattle.ls_types_programs.specs.Refusals.{IsBadAt, Ends, Within, PassesLimit, Tokens}
use Rattle.ls_types_programs.proofs.Pieces.{no_truth, some_none, same_some, sign_is, name_is, same_bytes, append_nil}
use Rattle.ls_types_programs.proofs.Pieces.{is_full_so}
use Rattle.ls_types_programs.proofs.Fronts.{thread_there, when_none}
use Rattle.ls_types_programs.proofs.RestInBlocks.{word_named}
use Rattle.ls_types_programs.proofs.Whole.{tokens_spell}
use Rattle.ls_types_programs.proofs.Forms.{end_stands}
use Rattle.ls_types_programs.proofs.Ways.{goes_on as reading_goes_on}
use Rattle.ls_types_programs.proofs.Since.{program_at, lexemes_append, Reads, SinceCallee, SinceOpen, SinceThread}
use Rattle.ls_types_programs.proofs.Since.{Since, Next}
use Rattle.ls_types_programs.proofs.SinceSteps.{step_next}
use Rattle.ls_types_programs.proofs.ShownFaults.{Shown, form, formed_of, here, whole_is}
use Rattle.ls_types_programs.proofs.NameFaults.{name_fails, new_fails, dot_fails}
use Rattle.ls_types_programs.proofs.ArgumentFaults.{callee_in, before_callee, argument_fails, first_fails, others_fails}
use Rattle.ls_types_programs.proofs.ArgumentFaults.{minus_fails}

module _ (o : ElaboratedFile) where
  module _ (text : Text) (front : List Token) (t : Token) (ts : List Token)
      (lexed : tokens_of text ≡ Some (lexemes (front ++ t ∷ ts)))
      (spans : InOrder text 0 (front ++ t ∷ ts) (length text)) where
    -- ---- limits and threads

    past : (ks : List Lexeme) (j : Lexeme) →
        lexemes front ≡ ks →
        lexeme_of t.kind ≡ j →
        IsPast o (ks ++ j ∷ []) →
        PassesLimit o text
    past ks j e is h =
        Tokens (ks ++ j ∷ []) (lexemes ts)
        (lexed ∙ ap (λ l. Some l) (lexemes_append front (t ∷ ts) ∙ ap (λ l. l ++ lexeme_of t.kind ∷ lexemes ts) e ∙
        ap (λ x. ks ++ x ∷ lexemes ts) is ∙ sym (append_assoc ks (j ∷ []) (lexemes ts)))) h

    not_less : (n : ℕ) → nat_lt n 256 ≡ false → 256 ≤ n
    not_less n e = by n (λ h. no_truth (sym e ∙ lt-ltb n 256 h))
      where
        by : (n : ℕ) → (n < 256 → ⊥) → 256 ≤ n
        by n h = omega (arith, h)

    not_most : (n : ℕ) → nat_le n most_threads ≡ false → most_threads < n
    not_most n e = by n (λ h. no_truth (sym e ∙ le-leb n most_threads h))
      where
        by : (n : ℕ) → (n ≤ most_threads → ⊥) → most_threads < n
        by n h = omega (arith, h)

    semicolon_fails : (r : Parts) (p : Pending) (m : Marks) →
        Reads o r (ThreadPrograms.AtSemicolon p) front →
        SinceOpen o (λ p ls. Arguments p.values ls [] × (is_full p ≡ true)) r m.callee p front
        → at_semicolon r p (lexeme_of t.kind) ≡ None → Shown o text
        (fault_for m t.span.start (why_semicolon (lexeme_of t.kind)))
    semicolon_fails r p m read h none = by (is_sign signs.Semicolon (lexeme_of t.kind)) refl none
      where
        c : SinceCallee o r m.callee p (Marked signs.OpenParen ∷ h.ls) front
        c = h.callee

        calls : 256 ≤ length r.calls →
            IsPast o (((lexemes h.callee.base ++ lexemes h.callee.mid) ++ Named h.callee.name ∷ Marked signs.OpenParen ∷
            h.ls) ++ Marked signs.Semicolon ∷ [])
        calls many =
            faults.Calls (program_at r) r.threads (record { name = r.name; calls = r.calls }) h.callee.name p.types
            p.values
            (before_callee o text front t ts lexed spans r m.callee p (Marked signs.OpenParen ∷ h.ls) front (t ∷ ts)
            refl h.callee) refl many
            h.callee.there h.kind.0 (is_full_so p.types p.values h.callee.fit h.kind.1)

        by : (b : Bool) →
            is_sign signs.Semicolon (lexeme_of t.kind) ≡ b →
            when (b && nat_lt (length r.calls) 256) (at (with_finished r p) ThreadPrograms.AtCall) ≡ None
            → Shown o text (fault_for m t.span.start (if b then ManyCalls else Form))
        by true e none =
            past ((lexemes h.callee.base ++ lexemes h.callee.mid) ++ Named h.callee.name ∷ Marked signs.OpenParen ∷
            h.ls) (Marked signs.Semicolon) (callee_in o text front t ts lexed spans r m.callee p
            (Marked signs.OpenParen ∷ h.ls) front h.callee)
            (sign_is signs.Semicolon (lexeme_of t.kind) e) (calls
            (not_less (length r.calls) (when_none (nat_lt (length r.calls) 256)
            (at (with_finished r p) ThreadPrograms.AtCall) none)))
        by false e none = form o text front t ts lexed spans (at r (ThreadPrograms.AtSemicolon p)) read
            (ap (λ b. when (b && nat_lt (length r.calls) 256) (at (with_finished r p) ThreadPrograms.AtCall)) e)
            (ap (λ b. if b then ManyCalls else Form) e)

    thread_fails : (r : Parts) (m : Marks) →
        Reads o r ThreadPrograms.AtThread front →
        at_thread r (lexeme_of t.kind) ≡ None →
        Shown o text (fault_for m t.span.start (why_thread (lexeme_of t.kind)))
    thread_fails r m read none = by (is_text (codes "thread") (name_in (lexeme_of t.kind))) refl none
      where
        by : (b : Bool) →
            is_text (codes "thread") (name_in (lexeme_of t.kind)) ≡ b →
            when (b && nat_le (length r.threads) most_threads) (at r ThreadPrograms.AtThreadName) ≡ None
            → Shown o text (fault_for m t.span.start (if b then ManyThreads else Form))
        by true e none =
            past (lexemes front) (Named (codes "thread")) refl (word_named o r (codes "thread") (lexeme_of t.kind) e)
            (faults.Threads (record { names = r.names; threads = r.threads })
            (tokens_spell o r (lexemes front) (formed_of o text front t ts lexed spans front (t ∷ ts) refl) read)
            (not_most (length r.threads) (when_none (nat_le (length r.threads) most_threads)
            (at r ThreadPrograms.AtThreadName) none)))
        by false e none = form o text front t ts lexed spans (at r ThreadPrograms.AtThread) read
            (ap (λ b. when (b && nat_le (length r.threads) most_threads) (at r ThreadPrograms.AtThreadName)) e)
            (ap (λ b. if b then ManyThreads else Form) e)

    thread_name_fails : (r : Parts) (m : Marks) →
        Reads o r ThreadPrograms.AtThreadName front →
        SinceThread o r front →
        at_thread_name r (name_in (lexeme_of t.kind)) ≡ None
        → Shown o text (fault_for m t.span.start (why_thread_name (name_in (lexeme_of t.kind))))
    thread_name_fails r m read h none = by (name_in (lexeme_of t.kind)) refl none
      where
        p : Program
        p = record { names = r.names; threads = r.threads }

        w : AreWhole o (record { names = r.names; threads = r.threads }) (lexemes h.base)
        w = tokens_spell o r (lexemes h.base) (formed_of o text front t ts lexed spans h.base (h.token ∷ t ∷ ts)
            (whole_is o text front t ts lexed spans h.base (h.token ∷ []) h.is)) h.read

        shown : (name : Text) →
            lexeme_of t.kind ≡ Named name →
            IsBad o (lexemes h.base ++ Named (codes "thread") ∷ []) (Named name ∷ []) →
            IsBadAt o text t.span.start
        shown name is bad =
            Within (here o text front t ts lexed spans (IsBad o) (lexemes h.base ++ Named (codes "thread") ∷ [])
            (Named name)
            (ap lexemes h.is ∙ lexemes_append h.base (h.token ∷ []) ∙ ap (λ x. lexemes h.base ++ x ∷ []) h.named) is
            bad)

        twice : (name : Text) →
            lexeme_of t.kind ≡ Named name →
            (b : Bool) →
            thread_named r.threads name ≡ b →
            not b ≡ false →
            IsBadAt o text t.span.start
        twice name is false e n = absurd (no_truth (sym n))
        twice name is true e n =
            let u = thread_there r.threads name e in
            shown name is (subst (λ x. IsBad o (lexemes h.base ++ Named (codes "thread") ∷ []) (Named x ∷ [])) u.3
            (faults.ThreadTwice (record { names = r.names; threads = r.threads }) u.0 u.1 w u.2))

        all : (name : Text) →
            lexeme_of t.kind ≡ Named name →
            (b : Bool) →
            bytes_eq name (codes "all") ≡ b →
            (not b && not (thread_named r.threads name)) ≡ false →
            IsBadAt o text t.span.start
        all name is true e n =
            shown name is (subst (λ x. IsBad o (lexemes h.base ++ Named (codes "thread") ∷ []) (Named x ∷ []))
            (sym (same_bytes name (codes "all") e)) (faults.NamedAll
            (record { names = r.names; threads = r.threads }) w))
        all name is false e n = twice name is (thread_named r.threads name) refl n

        by : (n : Option Text) →
            name_in (lexeme_of t.kind) ≡ n →
            at_thread_name r n ≡ None →
            Shown o text (fault_for m t.span.start (why_thread_name n))
        by None e none = form o text front t ts lexed spans (at r ThreadPrograms.AtThreadName) read
            (ap (at_thread_name r) e) (ap why_thread_name e)
        by (Some name) e none =
            all name (name_is (lexeme_of t.kind) name e) (bytes_eq name (codes "all")) refl
            (when_none (not (bytes_eq name (codes "all")) && not (thread_named r.threads name))
            (at (named r name) ThreadPrograms.AtBlock) none)

    step_fails : (r : Parts) (stage : Stage) (m : Marks) →
        Reads o r stage front →
        IsFormed (lexeme_of t.kind) →
        Since o r stage m front →
        stepped o r stage (lexeme_of t.kind) ≡ None
        → Shown o text (fault_for m t.span.start (why o r stage (lexeme_of t.kind)))
    step_fails r ThreadPrograms.AtSetup m read shape h none = form o text front t ts lexed spans
        (at r ThreadPrograms.AtSetup) read none refl
    step_fails r ThreadPrograms.AtBlock m read shape h none = form o text front t ts lexed spans
        (at r ThreadPrograms.AtBlock) read none refl
    step_fails r ThreadPrograms.AtCall m read shape h none = form o text front t ts lexed spans
        (at r ThreadPrograms.AtCall) read none refl
    step_fails r (ThreadPrograms.AfterName name) m read shape h none = name_fails o text front t ts lexed spans r name m
        read h none
    step_fails r (ThreadPrograms.AfterAssign name) m read shape h none = form o text front t ts lexed spans
        (at r (ThreadPrograms.AfterAssign name))
        read none refl
    step_fails r (ThreadPrograms.AfterNew name) m read shape h none = new_fails o text front t ts lexed spans r name m
        read h none
    step_fails r (ThreadPrograms.AfterDot n) m read shape h none = dot_fails o text front t ts lexed spans r n m read h
        none
    step_fails r (ThreadPrograms.AtArguments p) m read shape h none = form o text front t ts lexed spans
        (at r (ThreadPrograms.AtArguments p)) read
        none refl
    step_fails r (ThreadPrograms.AtFirst p) m read shape h none = first_fails o text front t ts lexed spans r p m read h
        none
    step_fails r (ThreadPrograms.AtArgument p) m read shape h none = argument_fails o text front t ts lexed spans r p m
        h.0 h.1
        (λ is. form o text front t ts lexed spans (at r (ThreadPrograms.AtArgument p)) read none is) none
    step_fails r (ThreadPrograms.AfterMinus p) m read shape h none = minus_fails o text front t ts lexed spans r p m
        read shape h none
    step_fails r (ThreadPrograms.AfterArgument p) m read shape h none = others_fails o text front t ts lexed spans r p m
        read h none
    step_fails r (ThreadPrograms.AtSemicolon p) m read shape h none = semicolon_fails r p m read h none
    step_fails r ThreadPrograms.AtThread m read shape h none = thread_fails r m read none
    step_fails r ThreadPrograms.AtThreadName m read shape h none = thread_name_fails r m read h none

  -- ---- from the first token on

  reads_more : (x : Option Reading) (ks js : List Lexeme) → after o x (ks ++ js) ≡ after o (after o x ks) js
  reads_more None ks js = refl
  reads_more (Some r) [] js = refl
  reads_more (Some r) (k ∷ ks) js = reads_more (stepped o r.parts r.stage k) ks js

  at_end : (text : Text) (front : List Token) (q : Reading) (f : Fault) →
      tokens_of text ≡ Some (lexemes front) →
      after o (Some beginning) (lexemes front) ≡ Some q →
      fault_at_end (length text) (ended q.stage) ≡ Some f →
      Shown o text f
  at_end text front q f lexed read e = by (ended q.stage) refl e
    where
      by : (b : Bool) → ended q.stage ≡ b → fault_at_end (length text) b ≡ Some f → Shown o text f
      by true is e = absurd (some_none f e)
      by false is e = subst (Shown o text) (same_some (Bad (length text)) f e)
          (Ends (lexemes front) lexed refl (reading_goes_on o (lexemes front) q
          (tokens_are_formed text (lexemes front) lexed) read) (end_stands o (lexemes front) q read is))

  walk : (text : Text) (front ts : List Token) (m : Marks) (q : Reading) (f : Fault) →
      tokens_of text ≡ Some (lexemes (front ++ ts)) →
      InOrder text 0 (front ++ ts) (length text)
      → after o (Some beginning) (lexemes front) ≡ Some q → Since o q.parts q.stage m front →
      stops o (length text) m q ts ≡ Some f → Shown o text f
  walk text front [] m q f lexed spans read h e = at_end text front q f
      (lexed ∙ ap (λ l. Some (lexemes l)) (append_nil front)) read e
  walk text front (t ∷ ts) m q f lexed spans read h e =
      by (λ m next more. walk text (front ++ t ∷ []) ts m next f more) (stepped o q.parts q.stage (lexeme_of t.kind))
      refl e
    where
      together : front ++ t ∷ ts ≡ (front ++ t ∷ []) ++ ts
      together = sym (append_assoc front (t ∷ []) ts)

      formed : IsFormed (lexeme_of t.kind)
      formed = tokens_are_formed text (lexemes (front ++ t ∷ ts)) lexed (length (lexemes front)) (lexeme_of t.kind)
          (subst (λ l. slice_get l (length (lexemes front)) ≡ Some (lexeme_of t.kind))
          (sym (lexemes_append front (t ∷ ts))) (stands (lexemes front)))
        where
          stands : (ks : List Lexeme) →
              slice_get (ks ++ lexeme_of t.kind ∷ lexemes ts) (length ks) ≡ Some (lexeme_of t.kind)
          stands [] = refl
          stands (x ∷ ks) = stands ks

      by : ((m : Marks) (next : Reading) → tokens_of text ≡ Some (lexemes ((front ++ t ∷ []) ++ ts)) →
          InOrder text 0 ((front ++ t ∷ []) ++ ts) (length text)
          → after o (Some beginning) (lexemes (front ++ t ∷ [])) ≡ Some next →
          Since o next.parts next.stage m (front ++ t ∷ []) → stops o (length text) m next ts ≡ Some f →
          Shown o text f)
          → (x : Option Reading) → stepped o q.parts q.stage (lexeme_of t.kind) ≡ x
          → goes_on (fault_for m t.span.start (why o q.parts q.stage (lexeme_of t.kind)))
          (λ next. stops o (length text) (marked m t.span.start next.stage) next ts) x ≡ Some f → Shown o text f
      by rec None none e = subst (Shown o text)
          (same_some (fault_for m t.span.start (why o q.parts q.stage (lexeme_of t.kind))) f e)
          (step_fails text front t ts lexed spans q.parts q.stage m read formed h none)
      by rec (Some next) some e =
          rec (marked m t.span.start next.stage) next (lexed ∙ ap (λ l. Some (lexemes l)) together)
          (subst (λ l. InOrder text 0 l (length text)) together spans)
          (ap (after o (Some beginning)) (lexemes_append front (t ∷ [])) ∙
          reads_more (Some beginning) (lexemes front) (lexeme_of t.kind ∷ []) ∙
          ap (λ x. after o x (lexeme_of t.kind ∷ [])) read ∙ ap (λ x. after o x []) some)
          (subst (λ x. Next o m t.span.start (front ++ t ∷ []) x) some
          (step_next o q.parts q.stage m front t (lexeme_of t.kind) refl formed read h)) e

-- If the reading of a text's tokens stops, the fault that is answered is at its place.
pub stops_show : (o : ElaboratedFile) (text : Text) (ts : List Token) (f : Fault) →
    tokens_of text ≡ Some (lexemes ts) →
    InOrder text 0 ts (length text) →
    stops o (length text) unmarked beginning ts ≡ Some f →
    Shown o text f
stops_show o text ts f lexed spans e = walk o text [] ts unmarked beginning f lexed spans refl tt e
