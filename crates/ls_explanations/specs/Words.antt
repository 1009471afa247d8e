-- What is said of a reserved word that can't come where it is.
use Rattle.std.specs.Prelude.{◌||◌, [], codes, if◌then◌else◌}
use Rattle.std.specs.Str.{bytes_eq}
use Rattle.ls_explanations.specs.Tokens.{Bytes}

abbrev pub operand_lesson : Bytes → Bytes
operand_lesson name =
    if bytes_eq name (codes "super")
    then codes "a class can't extend another: remove `super`\n"
    else (if bytes_eq name (codes "instanceof")
    then codes "`instanceof` isn't supported: remove it, or keep what the object is in a field\n"
    else (if bytes_eq name (codes "long") || bytes_eq name (codes "short") || bytes_eq name (codes "byte")
    || bytes_eq name (codes "char") || bytes_eq name (codes "float") || bytes_eq name (codes "double")
    then codes "this type isn't supported: use `int`\n"
    else []))

abbrev pub statement_lesson : Bytes → Bytes
statement_lesson name =
    if bytes_eq name (codes "switch") || bytes_eq name (codes "case") || bytes_eq name (codes "default")
    then codes "`switch` isn't supported: use `if (..) .. else if (..) .. else ..`\n"
    else (if bytes_eq name (codes "do")
    then codes "`do` isn't supported: use `while (true) { .. if (!(c)) break; }`\n"
    else (if bytes_eq name (codes "catch")
    then codes "`catch` isn't supported: remove it, and test before the call. `finally` is supported\n"
    else (if bytes_eq name (codes "throw")
    then codes "`throw` isn't supported: return a value that says so. `return 1 / 0;` ends a call by an exception\n"
    else (if bytes_eq name (codes "assert")
    then codes "`assert` isn't supported: remove it\n"
    else (if bytes_eq name (codes "setup") || bytes_eq name (codes "thread")
    then codes "expected the class text here: it comes before the thread program\n"
    else operand_lesson name)))))

abbrev pub member_lesson : Bytes → Bytes
member_lesson name =
    if bytes_eq name (codes "static")
    then codes
    "`static` isn't supported: make it a member of an object that the setup creates, or a class beside this one\n"
    else (if bytes_eq name (codes "interface") || bytes_eq name (codes "abstract")
    || bytes_eq name (codes "extends") || bytes_eq name (codes "implements")
    then codes "a class can't have supertypes: remove this, and put all members that are used into the one class\n"
    else (if bytes_eq name (codes "enum")
    then codes "`enum` isn't supported: use an `int` for each value\n"
    else (if bytes_eq name (codes "record")
    then codes "`record` isn't supported: use a class with fields and a constructor\n"
    else (if bytes_eq name (codes "throws")
    then codes "`throws` isn't supported: remove it and the names after it\n"
    else (if bytes_eq name (codes "native") || bytes_eq name (codes "transient")
    || bytes_eq name (codes "strictfp")
    then codes "this modifier isn't supported: remove it\n"
    else statement_lesson name)))))
