-- What is said of a sign that can't come where it is. It depends on the byte after it, and on the last byte before it
-- that isn't white space.
use Rattle.std.specs.Prelude.{ℕ, ◌==◌, ◌&&◌, ◌||◌, [], codes, if◌then◌else◌}
use Rattle.ls_explanations.specs.Tokens.{Bytes}

abbrev pub other_sign_lesson : ℕ → ℕ → ℕ → Bytes
other_sign_lesson sign next last =
    if sign == 63
    then codes "`? :` isn't supported: use `if (..) .. else ..`\n"
    else (if sign == 58
    then codes "for-each loops aren't supported: use `for (..; ..; ..)`, or `while` and a field `next`\n"
    else (if sign == 61
    then codes "an assignment can't be a part of an expression: make it a statement before this one\n"
    else (if sign == 59 && last == 125
    then codes "unexpected `;` after a class: remove it\n"
    else (if sign == 46 && next == 46
    then codes "a variable number of arguments isn't supported: declare each parameter\n"
    else (if sign == 0
    then codes "unexpected end of the text: a `}` may be missing\n"
    else [])))))

abbrev pub bracket_lesson : ℕ → ℕ → ℕ → Bytes
bracket_lesson sign next last =
    if sign == 60
    then codes "only AtomicMarkableReference takes a type in `< >`: remove it, and use `int` for `T`\n"
    else (if sign == 62 && last == 60
    then codes "expected a type in `< >`, as in `new AtomicMarkableReference<Node>(..)`\n"
    else (if sign == 91
    then codes
    "only arrays `boolean[]` are supported: use linked objects, or a field for each element (`int e0; int e1;`)\n"
    else (if sign == 123 && last == 61
    then codes "a list of elements isn't supported: use `new boolean[n]`, and assign each element\n"
    else (if sign == 123 && last == 58
    then codes "only a loop can have a label: remove this one\n"
    else (if sign == 123 && (last == 59 || last == 123 || last == 125)
    then codes "initializer blocks aren't supported: use a constructor\n"
    else (if sign == 41 && last == 40
    then codes "lambdas aren't supported: threads stand in the thread program, as `thread A { c.m(); }`\n"
    else (if sign == 40
    then codes "no call is allowed here: remove `super(..)`, `this(..)` and the arguments of an annotation\n"
    else other_sign_lesson sign next last)))))))

abbrev pub operator_lesson : ℕ → ℕ → ℕ → Bytes
operator_lesson sign next last =
    if (sign == 43 || sign == 45) && next == sign
    then codes "`++` and `--` can't be a part of an expression: make it a statement before or after this one\n"
    else (if sign == 45 && next == 62
    then codes "lambdas aren't supported: threads stand in the thread program, as `thread A { c.m(); }`\n"
    else (if (sign == 45 || sign == 42 || sign == 47 || sign == 37) && next == 61
    then codes "only `=` and `+=` are supported: write `n = n - e` for `n -= e`, and so for the others\n"
    else (if sign == 38 || sign == 124 || sign == 94 || sign == 126
    then codes "bitwise operators aren't supported: of booleans use `&&`, `||`, and `!=` for `^`\n"
    else (if (sign == 60 || sign == 62) && next == sign
    then codes "shifts aren't supported: use `*` or `/` and a number\n"
    else bracket_lesson sign next last))))
