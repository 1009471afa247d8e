-- The reading of a thread program keeps the limits of programs.
use Rattle.std.proofs.Common.{◌≡◌, ℕ, suc, ◌+◌, ◌*◌, ◌≤◌, ◌<◌, refl, subst, Bool, true, false, not, ◌&&◌, List, [], ◌∷◌}
use Rattle.std.proofs.Common.{◌++◌, length, Option, Some, None, nat_lt, nat_le, bytes_eq, codes, if◌then◌else◌, arith}
use Rattle.std.specs.Prelude.{slice_get}
use Rattle.std.proofs.lemmas.Bool.{ltb-true, leb-true}
use Rattle.ls_checked.specs.Limits.{most_calls, most_threads}
use Rattle.ls_lexer.specs.declared.sign.Sign.TheVariants as signs
use Rattle.ls_lexer.specs.declared.word.Word.TheVariants as words
use Rattle.ls_lexer.specs.Lexemes.{Lexeme}
use Rattle.ls_lexer.specs.Tokens.{tokens_of}
use Rattle.ls_events.specs.declared.value.Value.{Value}
use Rattle.ls_events.specs.declared.value.Value.TheVariants as values
use Rattle.ls_checked.specs.CheckedProgram.{SetupName, ProgramCall, ThreadProgram, Program}
use Rattle.ls_types_elaboration.specs.Trees.{Text}
use Rattle.ls_types_elaboration.specs.Elaboration.{ElaboratedFile}
use Rattle.ls_types_elaboration.specs.Known.{number_of}
use Rattle.ls_types_programs.specs.ProgramCalls.{Callee, Maker, Method, Pending, setup_named, maker, called_on}
use Rattle.ls_types_programs.specs.ProgramCalls.{with_argument, is_full, plain_number, minus_number, call_of}
use Rattle.ls_types_programs.specs.ProgramCalls.{names_after}
use Rattle.ls_types_programs.specs.ThreadPrograms
use Rattle.ls_types_programs.specs.ThreadPrograms.{Stage, Parts, Reading, at, is_sign, is_word, is_text, name_in}
use Rattle.ls_types_programs.specs.ThreadPrograms.{number_in, when, with_call, closed, at_call, is_new_name, used}
use Rattle.ls_types_programs.specs.ThreadPrograms.{after_name, after_new, after_dot, numbered, argument, after_minus}
use Rattle.ls_types_programs.specs.ThreadPrograms.{arguments_end, at_first, after_argument, with_finished, at_semicolon}
use Rattle.ls_types_programs.specs.ThreadPrograms.{at_thread, at_thread_name, named, stepped, after, ended, whole}
use Rattle.ls_types_programs.specs.ThreadPrograms.{beginning, program_of_tokens, program_of}
use Rattle.ls_types_judgement.specs.Limits.{IsRangedProgram}
use Rattle.ls_types_laws.proofs.Lists.{Each, each_push, each_at, length_push}

abbrev Reads : {A : Type 0} → (A → Type 0) → Option A → Type 0
Reads P None = Unit {0}
Reads P (Some a) = P a

abbrev HasFewCalls : ThreadProgram → Type 0
HasFewCalls t = length t.calls ≤ 256

-- what is read has at most this many threads, and at most one name for each call
record InRoom (most_here counted_here : ℕ) (r : Parts) : Type 0 where
  calls : length r.calls ≤ 256
  few : length r.threads ≤ most_here
  each : Each HasFewCalls r.threads
  names : length r.names ≤ counted_here + 256 * length r.threads

-- after a block there may be as many threads as the limit, and no call of the next
abbrev most : Stage → ℕ
most ThreadPrograms.AtThread = suc most_threads
most _ = most_threads

abbrev counted : Stage → Parts → ℕ
counted ThreadPrograms.AtThread r = 0
counted ThreadPrograms.AtThreadName r = 0
counted _ r = length r.calls

abbrev Room : Reading → Type 0
Room r = InRoom (most r.stage) (counted r.stage r.parts) r.parts

room_when : (b : Bool) (r : Reading) → (b ≡ true → Room r) → Reads Room (when b r)
room_when true r h = h refl
room_when false r h = tt

either : (b : Bool) (x y : Option Reading) → Reads Room x → Reads Room y → Reads Room (if b then x else y)
either true x y h k = h
either false x y h k = k

second_true : (a b : Bool) → (a && b) ≡ true → b ≡ true
second_true true b e = e
second_true false b e = absurd (wrong e)
  where
    wrong : false ≡ true → ⊥
    wrong e = cc

with_call_room : (r : Parts) (stage : Pending → Stage) (p : Option Pending) →
    ((q : Pending) → Room (at r (stage q))) →
    Reads Room (with_call r stage p)
with_call_room r stage None h = tt
with_call_room r stage (Some p) h = h p

used_room : (r : Parts) (n : Option ℕ) → InRoom most_threads (length r.calls) r → Reads Room (used r n)
used_room r None h = tt
used_room r (Some n) h = h

closed_room : (r : Parts) → InRoom most_threads (length r.calls) r → InRoom (suc most_threads) 0 (closed r)
closed_room r h =
    let many = length_push r.threads (record { name = r.name; calls = r.calls }) in
    let few = h.few in
    let calls = h.calls in
    let names = h.names in
    record {
      calls = omega arith;
      few = omega (arith, many, few);
      each = each_push HasFewCalls r.threads (record { name = r.name; calls = r.calls }) h.each h.calls;
      names = omega (arith, many, calls, names);
    }

call_room : (r : Parts) (k : Lexeme) (name : Option Text) →
    InRoom most_threads (length r.calls) r →
    Reads Room (at_call r k name)
call_room r k None h = room_when (is_sign signs.CloseBrace k) (at (closed r) ThreadPrograms.AtThread)
    (λ e. closed_room r h)
call_room r k (Some name) h = h

name_room : (r : Parts) (name : Text) (k : Lexeme) →
    InRoom most_threads (length r.calls) r →
    Reads Room (after_name r name k)
name_room r name k h =
    either (is_sign signs.Assign k) (when (is_new_name r name) (at r (ThreadPrograms.AfterAssign name))) _
    (room_when (is_new_name r name) (at r (ThreadPrograms.AfterAssign name)) (λ e. h))
    (either (is_sign signs.Dot k) (used r (setup_named r.names name)) None (used_room r (setup_named r.names name) h)
    tt)

new_room : (o : ElaboratedFile) (r : Parts) (name : Text) (class : Option Text) →
    InRoom most_threads (length r.calls) r →
    Reads Room (after_new o r name class)
new_room o r name None h = tt
new_room o r name (Some class) h = with_call_room r ThreadPrograms.AtArguments
    (maker o name class (number_of o.names class)) (λ q. h)

dot_room : (o : ElaboratedFile) (r : Parts) (n : ℕ) (method : Option Text) →
    InRoom most_threads (length r.calls) r →
    Reads Room (after_dot o r n method)
dot_room o r n None h = tt
dot_room o r n (Some method) h = with_call_room r ThreadPrograms.AtArguments
    (called_on o n (slice_get r.names n) method) (λ q. h)

numbered_room : (r : Parts) (p : Pending) (v : Option Value) →
    InRoom most_threads (length r.calls) r →
    Reads Room (numbered r p v)
numbered_room r p None h = tt
numbered_room r p (Some v) h = with_call_room r ThreadPrograms.AfterArgument (with_argument p v) (λ q. h)

argument_room : (r : Parts) (p : Pending) (k : Lexeme) (number : Option Text) →
    InRoom most_threads (length r.calls) r →
    Reads Room (argument r p k number)
argument_room r p k (Some digits) h = numbered_room r p (plain_number digits) h
argument_room r p k None h =
    either (is_word words.True k) (with_call r ThreadPrograms.AfterArgument (with_argument p (values.Boolean true))) _
    (with_call_room r ThreadPrograms.AfterArgument (with_argument p (values.Boolean true)) (λ q. h))
    (either (is_word words.False k) (with_call r ThreadPrograms.AfterArgument (with_argument p (values.Boolean false)))
    _
    (with_call_room r ThreadPrograms.AfterArgument (with_argument p (values.Boolean false)) (λ q. h))
    (room_when (is_sign signs.Minus k) (at r (ThreadPrograms.AfterMinus p)) (λ e. h)))

minus_room : (r : Parts) (p : Pending) (number : Option Text) →
    InRoom most_threads (length r.calls) r →
    Reads Room (after_minus r p number)
minus_room r p None h = tt
minus_room r p (Some digits) h = with_call_room r ThreadPrograms.AfterArgument (with_argument p (minus_number digits))
    (λ q. h)

end_room : (r : Parts) (p : Pending) → InRoom most_threads (length r.calls) r → Reads Room (arguments_end r p)
end_room r p h = room_when (is_full p) (at r (ThreadPrograms.AtSemicolon p)) (λ e. h)

names_more : (names : List SetupName) (c : Callee) → length (names_after names c) ≤ length names + 1
names_more names (Maker name class class_name) = let e = length_push names (record { name = name; class = class }) in
    omega (arith, e)
names_more names (Method name method method_name result) = omega arith

finished_room : (r : Parts) (p : Pending) →
    length r.calls < 256 →
    InRoom most_threads (length r.calls) r →
    InRoom most_threads (length (with_finished r p).calls) (with_finished r p)
finished_room r p room h =
    let many = length_push r.calls (call_of (length r.names) p) in
    let more = names_more r.names p.callee in
    let names = h.names in
    record {
      calls = omega (arith, many, room);
      few = h.few;
      each = h.each;
      names = omega (arith, many, more, names);
    }

named_room : (r : Parts) (name : Option Text) → InRoom most_threads 0 r → Reads Room (at_thread_name r name)
named_room r None h = tt
named_room r (Some name) h =
    room_when (not (bytes_eq name (codes "all")) && not (ThreadPrograms.thread_named r.threads name))
    (at (named r name) ThreadPrograms.AtBlock)
    (λ e. record { calls = omega arith; few = h.few; each = h.each; names = h.names })

thread_room : (r : Parts) (k : Lexeme) → InRoom (suc most_threads) 0 r → Reads Room (at_thread r k)
thread_room r k h =
    room_when (is_text (codes "thread") (name_in k) && nat_le (length r.threads) most_threads)
    (at r ThreadPrograms.AtThreadName) (λ e. record {
      calls = h.calls;
      few = leb-true (length r.threads) most_threads (second_true (is_text (codes "thread") (name_in k)) _ e);
      each = h.each;
      names = h.names;
    })

semicolon_room : (r : Parts) (p : Pending) (k : Lexeme) →
    InRoom most_threads (length r.calls) r →
    Reads Room (at_semicolon r p k)
semicolon_room r p k h =
    room_when (is_sign signs.Semicolon k && nat_lt (length r.calls) most_calls)
    (at (with_finished r p) ThreadPrograms.AtCall)
    (λ e. finished_room r p (ltb-true (length r.calls) most_calls (second_true (is_sign signs.Semicolon k) _ e)) h)

step_room : (o : ElaboratedFile) (r : Parts) (stage : Stage) (k : Lexeme) →
    Room (at r stage) →
    Reads Room (stepped o r stage k)
step_room o r ThreadPrograms.AtSetup k h = room_when _ (at r ThreadPrograms.AtBlock) (λ e. h)
step_room o r ThreadPrograms.AtBlock k h = room_when (is_sign signs.OpenBrace k) (at r ThreadPrograms.AtCall) (λ e. h)
step_room o r ThreadPrograms.AtCall k h = call_room r k (name_in k) h
step_room o r (ThreadPrograms.AfterName name) k h = name_room r name k h
step_room o r (ThreadPrograms.AfterAssign name) k h = room_when (is_word words.New k)
    (at r (ThreadPrograms.AfterNew name)) (λ e. h)
step_room o r (ThreadPrograms.AfterNew name) k h = new_room o r name (name_in k) h
step_room o r (ThreadPrograms.AfterDot n) k h = dot_room o r n (name_in k) h
step_room o r (ThreadPrograms.AtArguments p) k h = room_when (is_sign signs.OpenParen k)
    (at r (ThreadPrograms.AtFirst p)) (λ e. h)
step_room o r (ThreadPrograms.AtFirst p) k h = either (is_sign signs.CloseParen k) (arguments_end r p) _
    (end_room r p h) (argument_room r p k (number_in k) h)
step_room o r (ThreadPrograms.AtArgument p) k h = argument_room r p k (number_in k) h
step_room o r (ThreadPrograms.AfterMinus p) k h = minus_room r p (number_in k) h
step_room o r (ThreadPrograms.AfterArgument p) k h =
    either (is_sign signs.CloseParen k) (arguments_end r p) _ (end_room r p h)
    (room_when (is_sign signs.Comma k) (at r (ThreadPrograms.AtArgument p)) (λ e. h))
step_room o r (ThreadPrograms.AtSemicolon p) k h = semicolon_room r p k h
step_room o r ThreadPrograms.AtThread k h = thread_room r k h
step_room o r ThreadPrograms.AtThreadName k h = named_room r (name_in k) h

after_room : (o : ElaboratedFile) (r : Option Reading) (ks : List Lexeme) → Reads Room r → Reads Room (after o r ks)
after_room o None ks h = tt
after_room o (Some r) [] h = h
after_room o (Some r) (k ∷ ks) h = after_room o (stepped o r.parts r.stage k) ks (step_room o r.parts r.stage k h)

-- a program that is read whole ends after a block
ranged : (r : Parts) → InRoom (suc most_threads) 0 r → IsRangedProgram (record { names = r.names; threads = r.threads })
ranged r h =
    let few = h.few in
    let names = h.names in
    record {
      threads = few;
      calls = λ n t e. each_at HasFewCalls r.threads n t h.each e;
      names = omega (arith, few, names);
    }

whole_ranged : (stage : Stage) (r : Parts) → Room (at r stage) → Reads IsRangedProgram (whole (Some (at r stage)))
whole_ranged ThreadPrograms.AtThread r h = ranged r h
whole_ranged _ r h = tt

whole_reads : (r : Option Reading) → Reads Room r → Reads IsRangedProgram (whole r)
whole_reads None h = tt
whole_reads (Some r) h = whole_ranged r.stage r.parts h

tokens_read : (o : ElaboratedFile) (ks : Option (List Lexeme)) → Reads IsRangedProgram (program_of_tokens o ks)
tokens_read o None = tt
tokens_read o (Some ks) = whole_reads (after o (Some beginning) ks)
    (after_room o (Some beginning) ks (record {
      calls = omega arith;
      few = omega arith;
      each = tt;
      names = omega arith;
    }))

-- a program that is read from tokens keeps the limits
pub tokens_ranged : (o : ElaboratedFile) (ks : Option (List Lexeme)) (p : Program) →
    program_of_tokens o ks ≡ Some p →
    IsRangedProgram p
tokens_ranged o ks p e = subst (Reads IsRangedProgram) e (tokens_read o ks)

text_reads : (o : ElaboratedFile) (b : Bool) (text : Text) →
    Reads IsRangedProgram (if b then program_of_tokens o (tokens_of text) else None)
text_reads o true text = tokens_read o (tokens_of text)
text_reads o false text = tt

-- a program that is read keeps the limits
pub program_ranged : (o : ElaboratedFile) (text : Text) (p : Program) → program_of o text ≡ Some p → IsRangedProgram p
program_ranged o text p e = subst (Reads IsRangedProgram) e (text_reads o
    (nat_le (length text) ThreadPrograms.most_bytes) text)
