-- Why a text isn't written as a thread program, by the tokens beside the place from which on it isn't. What may come
-- there is known by the last two tokens before it.
use Rattle.std.specs.Prelude.{ℕ, ◌==◌, ◌&&◌, nat_le, Bool, [], codes, length, take, drop, if◌then◌else◌}
use Rattle.std.specs.Str.{bytes_eq}
use Rattle.ls_explanations.specs.declared.form_hints.FormHint.{FormHint}
use Rattle.ls_explanations.specs.declared.form_hints.FormHint.TheVariants as hints
use Rattle.ls_explanations.specs.declared.nearby.Ahead.{Ahead}
use Rattle.ls_explanations.specs.declared.nearby.Before.{Before}
use Rattle.ls_explanations.specs.declared.nearby.Near.{Near}
use Rattle.ls_explanations.specs.declared.nearby.Near.TheVariants as near
use Rattle.ls_explanations.specs.Around.{ahead_of, no_tokens, passed}
use Rattle.ls_explanations.specs.FormHints.{hint_text}
use Rattle.ls_explanations.specs.Lessons.{byte_lesson, or_else}
use Rattle.ls_explanations.specs.Spots.{begins_character}
use Rattle.ls_explanations.specs.Tokens.{Bytes, byte_at, front_name, lexemes_in}

-- ---- blocks; `name` is the name at the place

abbrev pub at_setup : Near → (name : Bytes) → FormHint
at_setup near.Class name = hints.Classes
at_setup near.Name name = if bytes_eq name (codes "thread") then hints.NoSetup else hints.Program
at_setup _ name = hints.Program

-- after `setup`, or after the name of a thread
abbrev pub at_block : Near → FormHint
at_block near.OpenParen = hints.NoParentheses
at_block _ = hints.Brace

-- after a block
abbrev pub at_thread : Near → (name : Bytes) → FormHint
at_thread near.CloseBrace name = hints.Unexpected
at_thread near.Semicolon name = hints.Unexpected
at_thread near.Name name = if bytes_eq name (codes "setup") then hints.SecondSetup else hints.Thread
at_thread _ name = hints.Thread

-- after `thread`
abbrev pub at_thread_name : Near → (name : Bytes) → FormHint
at_thread_name near.Name name = if bytes_eq name (codes "all") then hints.All else hints.ThreadTwice
at_thread_name _ name = hints.ThreadName

-- ---- calls; is_closed says whether the setup has ended

-- an object is made with a type before its name
abbrev pub typed : (is_closed : Bool) → FormHint
typed is_closed = if is_closed then hints.MadeByThread else hints.Typed

abbrev pub made : (is_closed : Bool) → FormHint → FormHint
made is_closed hint = if is_closed then hints.MadeByThread else hint

-- a name and `=`, which can't come there
abbrev pub given : (later : Near) → (is_closed : Bool) → FormHint
given near.New is_closed = made is_closed hints.MadeTwice
given _ is_closed = hints.Kept

-- at the beginning of a call
abbrev pub at_call : Near → Ahead → (is_closed : Bool) → FormHint
at_call near.Name ahead is_closed = given ahead.later is_closed
at_call near.Type ahead is_closed = hints.Kept
at_call near.Final ahead is_closed = typed is_closed
at_call near.Statement ahead is_closed = hints.Statement
at_call near.New ahead is_closed = made is_closed hints.Unnamed
at_call near.Semicolon ahead is_closed = hints.Unexpected
at_call near.Nothing ahead is_closed = hints.End
at_call _ ahead is_closed = hints.Call

-- after a type, a name and `=`
abbrev pub after_typed : (later : Near) → (is_closed : Bool) → FormHint
after_typed near.New is_closed = typed is_closed
after_typed _ is_closed = hints.Kept

-- after a name with which a call should begin, at another name
abbrev pub after_type : (next later : Near) → (is_closed : Bool) → FormHint
after_type near.Assign later is_closed = after_typed later is_closed
after_type near.OpenBrace later is_closed = hints.Unclosed
after_type near.OpenParen later is_closed = hints.NoDot
after_type _ later is_closed = typed is_closed

-- after a name with which a call should begin
abbrev pub after_object : Near → Ahead → (is_closed : Bool) → FormHint
after_object near.Name ahead is_closed = after_type ahead.next ahead.later is_closed
after_object near.Less ahead is_closed = typed is_closed
after_object near.OpenParen ahead is_closed = hints.NoObject
after_object near.Nothing ahead is_closed = hints.End
after_object _ ahead is_closed = hints.Call

-- after `new` and a name
abbrev pub after_class : Near → FormHint
after_class near.Less = hints.TypeArguments
after_class _ = hints.NoArguments

-- after a name, by the token before the name
abbrev pub after_name : (second : Near) → Before → Ahead → (name : Bytes) → FormHint
after_name near.Nothing before ahead name = at_block ahead.here
after_name near.Name before ahead name = at_block ahead.here
after_name near.CloseBrace before ahead name = at_thread_name ahead.here name
after_name near.Dot before ahead name = hints.NoArguments
after_name near.New before ahead name = after_class ahead.here
after_name _ before ahead name = after_object ahead.here ahead before.is_closed

-- after `=` and a name
abbrev pub assigned : (next : Near) → FormHint
assigned near.Dot = hints.Kept
assigned _ = hints.NoNew

-- after `=`
abbrev pub after_assign : (here next : Near) → FormHint
after_assign near.Name next = assigned next
after_assign _ next = hints.Made

-- where an argument should begin; a number that comes there is too large
abbrev pub at_argument : Near → FormHint
at_argument near.Semicolon = hints.Closing
at_argument near.CloseBrace = hints.Closing
at_argument near.Nothing = hints.Closing
at_argument near.Value = hints.Number
at_argument _ = hints.Argument

abbrev pub after_argument : Near → FormHint
after_argument near.Minus = hints.Argument
after_argument near.Sign = hints.Argument
after_argument near.Less = hints.Argument
after_argument _ = hints.Closing

-- ---- the whole text

-- by the token before the place
abbrev pub hint_after : (last : Near) → Before → Ahead → (name : Bytes) → FormHint
hint_after near.Nothing before ahead name = at_setup ahead.here name
hint_after near.CloseBrace before ahead name = at_thread ahead.here name
hint_after near.OpenBrace before ahead name = at_call ahead.here ahead before.is_closed
hint_after near.Semicolon before ahead name = at_call ahead.here ahead before.is_closed
hint_after near.Name before ahead name = after_name before.second before ahead name
hint_after near.CloseParen before ahead name = hints.Semicolon
hint_after near.Assign before ahead name = after_assign ahead.here ahead.next
hint_after near.New before ahead name = hints.NoClass
hint_after near.Dot before ahead name = hints.NoMethod
hint_after near.OpenParen before ahead name = at_argument ahead.here
hint_after near.Comma before ahead name = at_argument ahead.here
hint_after near.Value before ahead name = after_argument ahead.here
hint_after near.Minus before ahead name = hints.Argument
hint_after _ before ahead name = hints.Program

-- of a place at which no token begins
abbrev pub unread_lesson : (byte at : ℕ) → Bytes
unread_lesson byte at =
    if byte == 47
    then codes "this comment isn't closed: write `*/` at its end\n"
    else (if nat_le 48 byte && nat_le byte 57
    then codes "a number has only decimal digits, no 0 in front, and is at most 2147483647\n"
    else byte_lesson byte at)

abbrev pub unread : (here : Near) → (byte at : ℕ) → Bytes
unread near.Nothing byte at = unread_lesson byte at
unread _ byte at = []

-- of the tokens before a place, and of the text from it on
abbrev pub form_text : Before → Ahead → (left : Bytes) → (at : ℕ) → Bytes
form_text before ahead left at =
    or_else (unread ahead.here (byte_at left 0) at)
    (hint_text (hint_after before.last before ahead (front_name left)))

-- the place is no byte within a character
abbrev pub is_between : Bytes → ℕ → Bool
is_between text at = nat_le at (length text) && begins_character (byte_at text at)

-- of a text that isn't written as a thread program, from the place on that doesn't fit
abbrev pub form_lesson : Bytes → ℕ → Bytes
form_lesson text at =
    if is_between text at
    then form_text (passed no_tokens (lexemes_in (take at text))) (ahead_of (lexemes_in (drop at text)))
    (drop at text) at
    else hint_text hints.Program
