-- The reading of a thread program keeps what is read typed.
use Rattle.std.proofs.Common.{◌≡◌, ℕ, refl, subst, Bool, true, false, not, ◌&&◌, List, [], ◌∷◌, length, Option, Some}
use Rattle.std.proofs.Common.{None, nat_lt, nat_le, bytes_eq, codes, if◌then◌else◌}
use Rattle.std.specs.Prelude.{slice_get}
use Rattle.ls_lexer.specs.declared.sign.Sign.TheVariants as signs
use Rattle.ls_lexer.specs.declared.word.Word.TheVariants as words
use Rattle.ls_lexer.specs.Lexemes.{Lexeme}
use Rattle.ls_lexer.specs.Tokens.{tokens_of}
use Rattle.ls_events.specs.declared.value.Value.{Value}
use Rattle.ls_events.specs.declared.value.Value.TheVariants as values
use Rattle.ls_checked.specs.CheckedTree.{File}
use Rattle.ls_checked.specs.CheckedProgram.{SetupName, ProgramCall, ThreadProgram, Program}
use Rattle.ls_checked.specs.Limits.{most_calls}
use Rattle.ls_types_judgement.specs.Programs.{IsTypedProgram}
use Rattle.ls_types_elaboration.specs.Trees.{Text}
use Rattle.ls_types_elaboration.specs.Elaboration.{ElaboratedFile}
use Rattle.ls_types_elaboration.specs.Known.{number_of}
use Rattle.ls_types_programs.specs.ProgramCalls.{Pending, setup_named, maker, called_on, with_argument, is_full}
use Rattle.ls_types_programs.specs.ProgramCalls.{plain_number, minus_number, call_of, names_after}
use Rattle.ls_types_programs.specs.ThreadPrograms
use Rattle.ls_types_programs.specs.ThreadPrograms.{Stage, Parts, Reading, at, is_sign, is_word, name_in, number_in}
use Rattle.ls_types_programs.specs.ThreadPrograms.{when, with_call, closed, at_call, is_new_name, used, after_name}
use Rattle.ls_types_programs.specs.ThreadPrograms.{after_new, after_dot, numbered, argument, after_minus, arguments_end}
use Rattle.ls_types_programs.specs.ThreadPrograms.{at_first, after_argument, with_finished, at_semicolon, at_thread}
use Rattle.ls_types_programs.specs.ThreadPrograms.{at_thread_name, named, stepped, after, ended, whole, beginning}
use Rattle.ls_types_programs.specs.ThreadPrograms.{program_of_tokens, program_of}
use Rattle.ls_types_laws.proofs.Lists.{Each, each_push, each_weaker, each_at, Grows, grows_same}
use Rattle.ls_types_laws.proofs.Whole.{IsTypedOutcome}
use Rattle.ls_types_laws.proofs.ProgramPieces.{Reads, IsRanged, plain_number_ranged, minus_number_ranged}
use Rattle.ls_types_laws.proofs.ProgramCalls.{CallIn, call_moved, IsPending, maker_pending, called_on_pending}
use Rattle.ls_types_laws.proofs.ProgramCalls.{argument_pending, IsReady, full_ready, ready_call, names_grow}

abbrev CallsIn : File → List SetupName → List ProgramCall → Type 0
CallsIn F names calls = Each (CallIn F names) calls

abbrev ThreadsIn : File → List SetupName → List ThreadProgram → Type 0
ThreadsIn F names threads = Each (λ (t : ThreadProgram). CallsIn F names t.calls) threads

record IsPart (F : File) (r : Parts) : Type 0 where
  calls : CallsIn F r.names r.calls
  threads : ThreadsIn F r.names r.threads

abbrev IsStage : File → List SetupName → Stage → Type 0
IsStage F names (ThreadPrograms.AtArguments p) = IsPending F names p
IsStage F names (ThreadPrograms.AtFirst p) = IsPending F names p
IsStage F names (ThreadPrograms.AtArgument p) = IsPending F names p
IsStage F names (ThreadPrograms.AfterMinus p) = IsPending F names p
IsStage F names (ThreadPrograms.AfterArgument p) = IsPending F names p
IsStage F names (ThreadPrograms.AtSemicolon p) = IsReady F names p
IsStage F names _ = Unit {0}

abbrev IsReading : File → Reading → Type 0
IsReading F r = IsPart F r.parts × IsStage F r.parts.names r.stage

when_reads : (F : File) (b : Bool) (r : Reading) → (b ≡ true → IsReading F r) → Reads (IsReading F) (when b r)
when_reads F true r h = h refl
when_reads F false r h = tt

either : (F : File) (b : Bool) (x y : Option Reading) →
    Reads (IsReading F) x →
    Reads (IsReading F) y →
    Reads (IsReading F) (if b then x else y)
either F true x y h k = h
either F false x y h k = k

with_call_reads : (F : File) (r : Parts) (stage : Pending → Stage) (p : Option Pending) →
    IsPart F r →
    Reads (IsPending F r.names) p →
    ((q : Pending) → IsPending F r.names q → IsStage F r.names (stage q)) →
    Reads (IsReading F) (with_call r stage p)
with_call_reads F r stage None h k s = tt
with_call_reads F r stage (Some p) h k s = (h, s p k)

closed_part : (F : File) (r : Parts) → IsPart F r → IsPart F (closed r)
closed_part F r h = record {
  calls = tt;
  threads = each_push (λ (t : ThreadProgram). CallsIn F r.names t.calls)
      r.threads (record { name = r.name; calls = r.calls }) h.threads h.calls;
}

call_reads : (F : File) (r : Parts) (k : Lexeme) (name : Option Text) →
    IsPart F r →
    Reads (IsReading F) (at_call r k name)
call_reads F r k None h = when_reads F (is_sign signs.CloseBrace k) (at (closed r) ThreadPrograms.AtThread)
    (λ e. (closed_part F r h, tt))
call_reads F r k (Some name) h = (h, tt)

used_reads : (F : File) (r : Parts) (n : Option ℕ) → IsPart F r → Reads (IsReading F) (used r n)
used_reads F r None h = tt
used_reads F r (Some n) h = (h, tt)

name_reads : (F : File) (r : Parts) (name : Text) (k : Lexeme) → IsPart F r → Reads (IsReading F) (after_name r name k)
name_reads F r name k h =
    either F (is_sign signs.Assign k) (when (is_new_name r name) (at r (ThreadPrograms.AfterAssign name))) _
    (when_reads F (is_new_name r name) (at r (ThreadPrograms.AfterAssign name)) (λ e. (h, tt)))
    (either F (is_sign signs.Dot k) (used r (setup_named r.names name)) None
    (used_reads F r (setup_named r.names name) h) tt)

new_reads : (o : ElaboratedFile) →
    IsTypedOutcome o →
    (r : Parts) (name : Text) (class : Option Text) →
    IsPart o.file r →
    Reads (IsReading o.file) (after_new o r name class)
new_reads o t r name None h = tt
new_reads o t r name (Some class) h =
    with_call_reads o.file r ThreadPrograms.AtArguments (maker o name class (number_of o.names class)) h
    (maker_pending o t r.names name class (number_of o.names class) refl) (λ q p. p)

dot_reads : (o : ElaboratedFile) →
    IsTypedOutcome o →
    (r : Parts) (n : ℕ) (method : Option Text) →
    IsPart o.file r →
    Reads (IsReading o.file) (after_dot o r n method)
dot_reads o t r n None h = tt
dot_reads o t r n (Some method) h =
    with_call_reads o.file r ThreadPrograms.AtArguments (called_on o n (slice_get r.names n) method) h
    (called_on_pending o t r.names n (slice_get r.names n) method refl) (λ q p. p)

value_reads : (F : File) (r : Parts) (p : Pending) (v : Value) →
    IsPart F r →
    IsPending F r.names p →
    IsRanged v →
    Reads (IsReading F) (with_call r ThreadPrograms.AfterArgument (with_argument p v))
value_reads F r p v h k ranged = with_call_reads F r ThreadPrograms.AfterArgument (with_argument p v) h
    (argument_pending F r.names p k v ranged) (λ q p. p)

numbered_reads : (F : File) (r : Parts) (p : Pending) (v : Option Value) →
    IsPart F r →
    IsPending F r.names p →
    Reads IsRanged v →
    Reads (IsReading F) (numbered r p v)
numbered_reads F r p None h k ranged = tt
numbered_reads F r p (Some v) h k ranged = value_reads F r p v h k ranged

argument_reads : (F : File) (r : Parts) (p : Pending) (k : Lexeme) (number : Option Text) →
    IsPart F r →
    IsPending F r.names p →
    Reads (IsReading F) (argument r p k number)
argument_reads F r p k (Some digits) h q = numbered_reads F r p (plain_number digits) h q (plain_number_ranged digits)
argument_reads F r p k None h q =
    either F (is_word words.True k) (with_call r ThreadPrograms.AfterArgument (with_argument p (values.Boolean true))) _
    (value_reads F r p (values.Boolean true) h q tt)
    (either F (is_word words.False k) (with_call r ThreadPrograms.AfterArgument
    (with_argument p (values.Boolean false))) _ (value_reads F r p (values.Boolean false) h q tt)
    (when_reads F (is_sign signs.Minus k) (at r (ThreadPrograms.AfterMinus p)) (λ e. (h, q))))

minus_reads : (F : File) (r : Parts) (p : Pending) (number : Option Text) →
    IsPart F r →
    IsPending F r.names p →
    Reads (IsReading F) (after_minus r p number)
minus_reads F r p None h q = tt
minus_reads F r p (Some digits) h q = value_reads F r p (minus_number digits) h q (minus_number_ranged digits)

end_reads : (F : File) (r : Parts) (p : Pending) →
    IsPart F r →
    IsPending F r.names p →
    Reads (IsReading F) (arguments_end r p)
end_reads F r p h q = when_reads F (is_full p) (at r (ThreadPrograms.AtSemicolon p))
    (λ e. (h, full_ready F r.names p q e))

grown_calls : (F : File) (names more : List SetupName) →
    Grows names more →
    (calls : List ProgramCall) →
    CallsIn F names calls →
    CallsIn F more calls
grown_calls F names more g calls h = each_weaker (CallIn F names) (CallIn F more) calls h
    (λ c k. call_moved F names (record { names = more; threads = [] }) g c k)

finished_part : (F : File) (r : Parts) (p : Pending) → IsPart F r → IsReady F r.names p → IsPart F (with_finished r p)
finished_part F r p h q =
    let more : List SetupName = names_after r.names p.callee in
    let g : Grows r.names more = names_grow r.names p.callee in
    record {
      calls = each_push (CallIn F more) r.calls (call_of (length r.names) p)
          (grown_calls F r.names more g r.calls h.calls) (ready_call F r.names p q);
      threads = each_weaker (λ (t : ThreadProgram). CallsIn F r.names t.calls)
          (λ (t : ThreadProgram). CallsIn F more t.calls) r.threads h.threads
          (λ t k. grown_calls F r.names more g t.calls k);
    }

named_reads : (F : File) (r : Parts) (name : Option Text) → IsPart F r → Reads (IsReading F) (at_thread_name r name)
named_reads F r None h = tt
named_reads F r (Some name) h =
    when_reads F (not (bytes_eq name (codes "all")) && not (ThreadPrograms.thread_named r.threads name))
    (at (named r name) ThreadPrograms.AtBlock) (λ e. (record { calls = tt; threads = h.threads }, tt))

step_reads : (o : ElaboratedFile) →
    IsTypedOutcome o →
    (r : Parts) (stage : Stage) (k : Lexeme) →
    IsPart o.file r →
    IsStage o.file r.names stage →
    Reads (IsReading o.file) (stepped o r stage k)
step_reads o t r ThreadPrograms.AtSetup k h s = when_reads o.file _ (at r ThreadPrograms.AtBlock) (λ e. (h, tt))
step_reads o t r ThreadPrograms.AtBlock k h s = when_reads o.file (is_sign signs.OpenBrace k)
    (at r ThreadPrograms.AtCall) (λ e. (h, tt))
step_reads o t r ThreadPrograms.AtCall k h s = call_reads o.file r k (name_in k) h
step_reads o t r (ThreadPrograms.AfterName name) k h s = name_reads o.file r name k h
step_reads o t r (ThreadPrograms.AfterAssign name) k h s = when_reads o.file (is_word words.New k)
    (at r (ThreadPrograms.AfterNew name)) (λ e. (h, tt))
step_reads o t r (ThreadPrograms.AfterNew name) k h s = new_reads o t r name (name_in k) h
step_reads o t r (ThreadPrograms.AfterDot n) k h s = dot_reads o t r n (name_in k) h
step_reads o t r (ThreadPrograms.AtArguments p) k h s = when_reads o.file (is_sign signs.OpenParen k)
    (at r (ThreadPrograms.AtFirst p)) (λ e. (h, s))
step_reads o t r (ThreadPrograms.AtFirst p) k h s = either o.file (is_sign signs.CloseParen k) (arguments_end r p) _
    (end_reads o.file r p h s) (argument_reads o.file r p k (number_in k) h s)
step_reads o t r (ThreadPrograms.AtArgument p) k h s = argument_reads o.file r p k (number_in k) h s
step_reads o t r (ThreadPrograms.AfterMinus p) k h s = minus_reads o.file r p (number_in k) h s
step_reads o t r (ThreadPrograms.AfterArgument p) k h s =
    either o.file (is_sign signs.CloseParen k) (arguments_end r p) _ (end_reads o.file r p h s)
    (when_reads o.file (is_sign signs.Comma k) (at r (ThreadPrograms.AtArgument p)) (λ e. (h, s)))
step_reads o t r (ThreadPrograms.AtSemicolon p) k h s =
    when_reads o.file (is_sign signs.Semicolon k && nat_lt (length r.calls) most_calls)
    (at (with_finished r p) ThreadPrograms.AtCall) (λ e. (finished_part o.file r p h s, tt))
step_reads o t r ThreadPrograms.AtThread k h s = when_reads o.file _ (at r ThreadPrograms.AtThreadName) (λ e. (h, tt))
step_reads o t r ThreadPrograms.AtThreadName k h s = named_reads o.file r (name_in k) h

after_reads : (o : ElaboratedFile) →
    IsTypedOutcome o →
    (r : Option Reading) (ks : List Lexeme) →
    Reads (IsReading o.file) r →
    Reads (IsReading o.file) (after o r ks)
after_reads o t None ks h = tt
after_reads o t (Some r) [] h = h
after_reads o t (Some r) (k ∷ ks) h = after_reads o t (stepped o r.parts r.stage k) ks
    (step_reads o t r.parts r.stage k h.0 h.1)

-- a program that is read whole
program_typed : (F : File) (r : Parts) → IsPart F r → IsTypedProgram F (record { names = r.names; threads = r.threads })
program_typed F r h number thread n call e f =
    call_moved F r.names (record { names = r.names; threads = r.threads }) (grows_same r.names) call
    (each_at (CallIn F r.names) thread.calls n call (each_at (λ (t : ThreadProgram). CallsIn F r.names t.calls)
    r.threads number thread h.threads e) f)

whole_reads : (F : File) (r : Option Reading) → Reads (IsReading F) r → Reads (IsTypedProgram F) (whole r)
whole_reads F None h = tt
whole_reads F (Some r) h = at_end (ended r.stage)
  where
    at_end : (b : Bool) →
        Reads (IsTypedProgram F) (if b then Some (record { names = r.parts.names; threads = r.parts.threads }) else
        None)
    at_end true = program_typed F r.parts h.0
    at_end false = tt

tokens_read : (o : ElaboratedFile) →
    IsTypedOutcome o →
    (ks : Option (List Lexeme)) →
    Reads (IsTypedProgram o.file) (program_of_tokens o ks)
tokens_read o t None = tt
tokens_read o t (Some ks) = whole_reads o.file (after o (Some beginning) ks)
    (after_reads o t (Some beginning) ks (record { calls = tt; threads = tt }, tt))

text_reads : (o : ElaboratedFile) →
    IsTypedOutcome o →
    (b : Bool) (text : Text) →
    Reads (IsTypedProgram o.file) (if b then program_of_tokens o (tokens_of text) else None)
text_reads o t true text = tokens_read o t (tokens_of text)
text_reads o t false text = tt

-- a program that is read is typed
pub program_reads : (o : ElaboratedFile) →
    IsTypedOutcome o →
    (text : Text) (p : Program) →
    program_of o text ≡ Some p →
    IsTypedProgram o.file p
program_reads o t text p e = subst (Reads (IsTypedProgram o.file)) e
    (text_reads o t (nat_le (length text) ThreadPrograms.most_bytes) text)
