-- What is said of a text that isn't written as a thread program: a sentence or two for each reason.
use Rattle.std.specs.Prelude.{[], codes}
use Rattle.ls_explanations.specs.Tokens.{Bytes}
use Rattle.ls_explanations.specs.declared.form_hints.FormHint.{FormHint}
use Rattle.ls_explanations.specs.declared.form_hints.FormHint.TheVariants as hints

-- of calls
abbrev pub call_text : FormHint → Bytes
call_text hints.Call = codes "expected a call, as `s.m(1);`\n"
call_text hints.NoObject =
    codes "expected an object before this call: write `s.m(1);` for a name `s` of the setup\n"
call_text hints.NoDot = codes "expected `.` between the object and its method, as `s.m(1);`\n"
call_text hints.Semicolon = codes "expected `;` after the call\n"
call_text hints.Statement =
    codes "a thread program has calls alone: write `if`, loops and `return` into a method of the class\n"
call_text hints.Kept = codes "a thread program keeps no answers: write the call alone, as `s.m(1);`\n"
call_text hints.NoMethod = codes "expected the name of a method after the point\n"
call_text hints.NoArguments = codes "expected `(` here: a call has parentheses, as `s.m()`\n"
call_text hints.Argument = codes "an argument is a number, `true` or `false`\n"
call_text hints.Number = codes "a number has only decimal digits, no 0 in front, and is at most 2147483647\n"
call_text hints.Closing = codes "expected `)` or `,` before this\n"
call_text _ = []

-- of the objects that the setup makes
abbrev pub making_text : FormHint → Bytes
making_text hints.Typed =
    codes "a name of the setup has no type: write the name, `=` and what is made, as `s = new C();`\n"
making_text hints.Unnamed = codes "expected a name for this object, as `s = new C();`\n"
making_text hints.MadeTwice = codes "the setup has this name already: use another\n"
making_text hints.MadeByThread = codes "only the setup makes objects: make this one there\n"
making_text hints.NoNew = codes "expected `new` before the class, as `s = new C();`\n"
making_text hints.Made = codes "a name of the setup is given to an object alone, as `s = new C();`\n"
making_text hints.NoClass = codes "expected a class of the class text after `new`\n"
making_text hints.TypeArguments = codes "unexpected `<`: a thread program has no types in `< >`\n"
making_text other = call_text other

abbrev pub hint_text : FormHint → Bytes
hint_text hints.Program =
    codes "expected `setup { .. }` and then `thread NAME { .. }` as often as wanted, with calls as `s.m(1);`\n"
hint_text hints.Classes = codes "expected the thread program here: the class text comes before it\n"
hint_text hints.NoSetup = codes "expected `setup { .. }` before the first thread\n"
hint_text hints.SecondSetup = codes "there is one `setup`, which comes first: write all that it does there\n"
hint_text hints.Brace = codes "expected `{` here\n"
hint_text hints.NoParentheses = codes "unexpected `(`: only `{ .. }` comes after this name\n"
hint_text hints.Thread = codes "expected `thread NAME { .. }` here, or the end of the text\n"
hint_text hints.ThreadName = codes "expected a name for the thread, as `thread A { .. }`\n"
hint_text hints.All = codes "no thread is named `all`: in a schedule it stands for each thread\n"
hint_text hints.ThreadTwice = codes "this name is taken: use another for this thread\n"
hint_text hints.Unclosed = codes "expected `}` before this `thread`: the block before it isn't closed\n"
hint_text hints.End = codes "unexpected end of the text: a `}` is missing\n"
hint_text hints.Unexpected = codes "unexpected here: remove this\n"
hint_text other = making_text other
