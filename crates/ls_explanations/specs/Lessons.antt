-- What is said of a fault of a class text, by the text at its place: a sentence or two, or nothing.
use Rattle.std.specs.Prelude.{ℕ, ◌==◌, ◌&&◌, ◌||◌, nat_le, Bool, [], ◌∷◌, take, drop, not, codes}
use Rattle.std.specs.Prelude.{if◌then◌else◌}
use Rattle.std.specs.List.{list_any}
use Rattle.std.specs.Str.{bytes_eq}
use Rattle.ls_explanations.specs.Tokens.{Bytes, byte_at, called_name, front_name, gap, last_byte, last_name, trimmed}
use Rattle.ls_explanations.specs.Words.{member_lesson}
use Rattle.ls_explanations.specs.Types.{atomic_lesson, key_lesson}
use Rattle.ls_explanations.specs.Names.{method_lesson, pair_lesson}
use Rattle.ls_explanations.specs.Signs.{operator_lesson}

-- the first text, or the other if the first is empty
abbrev pub or_else : Bytes → Bytes → Bytes
or_else [] other = other
or_else (b ∷ bs) other = b ∷ bs

-- `class` after a point is no class in a class, and `int` in parentheses is a cast
abbrev pub word_lesson : Bytes → ℕ → Bytes
word_lesson name last =
    if bytes_eq name (codes "class")
    then (if last == 46 then codes "`.class` isn't supported: lock an object, as in `synchronized (this)`\n"
    else codes
    "nested classes aren't supported: move this class beside the other, and pass it the objects that it uses\n")
    else (if (bytes_eq name (codes "int") || bytes_eq name (codes "boolean")) && last == 40
    then codes "casts aren't supported: remove this one\n"
    else member_lesson name)

-- if `<` comes after the name of a class of the library, it tells of that class
abbrev pub sign_lesson : Bytes → Bytes → Bytes
sign_lesson before from_on =
    if byte_at from_on 0 == 60
    then or_else (atomic_lesson (last_name before)) (operator_lesson 60 (byte_at from_on 1) (last_byte before))
    else operator_lesson (byte_at from_on 0) (byte_at from_on 1) (last_byte before)

-- a token that begins its line, or a }, after something that ends no statement
abbrev pub lacks_semicolon : Bytes → Bytes → Bytes → Bool
lacks_semicolon before between from_on =
    (list_any (λ b. b == 10) between || byte_at from_on 0 == 125)
    && not (last_byte before == 59 || last_byte before == 123 || last_byte before == 125 || last_byte before == 0)

abbrev pub semicolon_lesson : Bytes → Bytes → Bytes → Bytes
semicolon_lesson before between from_on =
    if lacks_semicolon before between from_on then codes "expected `;` before this\n" else []

-- of a token that can't come where it is
abbrev pub token_lesson : Bytes → Bytes → Bytes → Bytes
token_lesson before between from_on =
    or_else
    (if byte_at (front_name from_on) 0 == 0
    then sign_lesson before from_on
    else word_lesson (front_name from_on) (last_byte before))
    (semicolon_lesson before between from_on)

-- of a place, by the text before it and the text from it on
abbrev pub lesson_between : Bytes → Bytes → Bytes
lesson_between gone from_on = token_lesson (trimmed gone) (gap gone) from_on

abbrev pub syntax_lesson : Bytes → ℕ → Bytes
syntax_lesson text at = lesson_between (take at text) (drop at text)

-- of a byte that begins no token
abbrev pub byte_lesson : ℕ → ℕ → Bytes
byte_lesson byte at =
    if byte == 34
    then codes "strings aren't supported: remove what prints this. Histories and traces show what each step does\n"
    else (if byte == 39 then codes "`char` values aren't supported: use an `int`\n"
    else (if byte == 239 && at == 0 then codes "unexpected byte order mark: save the file as UTF-8 without one\n"
    else (if nat_le 128 byte then codes "only ASCII is allowed outside of comments: use the letters A to Z in names\n"
    else [])))

-- of a name that is no type
abbrev pub class_lesson : Bytes → Bytes
class_lesson name =
    or_else (or_else (key_lesson name) (atomic_lesson name))
    (codes "cannot find this class in the text or the library (Lock, ReentrantLock, AtomicMarkableReference)\n")

-- of a type that doesn't exist
abbrev pub type_lesson : Bytes → ℕ → Bytes
type_lesson text at = class_lesson (front_name (drop at text))

-- of a call with another number of arguments than there are parameters, if its name says why
abbrev pub call_lesson : Bytes → ℕ → Bytes
call_lesson text at = pair_lesson (called_name (drop at text))

-- of a name that names nothing there
abbrev pub name_lesson : Bytes → ℕ → Bytes
name_lesson text at =
    or_else (method_lesson (front_name (drop at text)))
    (codes "cannot find this name: no local in scope, no field and no method of that class has it\n")
