-- What is said of what a thread program names and isn't there, by the text at a place.
use Rattle.std.specs.Prelude.{ℕ, ◌==◌, ◌&&◌, ◌||◌, nat_le, Bool, codes, length, take, drop, if◌then◌else◌}
use Rattle.std.specs.Str.{bytes_eq}
use Rattle.ls_explanations.specs.Tokens.{Bytes, byte_at, front_name, last_byte, last_name, trimmed}

-- a number, `true` or `false` begins here
abbrev pub is_value : Bytes → Bool
is_value from_on =
    (nat_le 48 (byte_at from_on 0) && nat_le (byte_at from_on 0) 57) || byte_at from_on 0 == 45
    || bytes_eq (front_name from_on) (codes "true") || bytes_eq (front_name from_on) (codes "false")

-- a point comes right after the name here
abbrev pub is_object : Bytes → Bool
is_object from_on = byte_at (drop (length (front_name from_on)) from_on) 0 == 46

-- of the text before a place, and of the text from it on
abbrev pub missing_lesson : Bytes → Bytes → Bytes
missing_lesson before from_on =
    if is_value from_on
    then codes "mismatched types: the parameter has another type than this argument\n"
    else (if bytes_eq (last_name before) (codes "new")
    then codes "cannot find this class in the class text, or its constructor takes another number of arguments\n"
    else (if last_byte before == 46
    then codes "cannot find this method in the class of the object, or it takes another number of arguments\n"
    else (if is_object from_on
    then codes "cannot find this object: the setup makes none of this name\n"
    else codes "cannot find a class, a setup name or a method of this name, or the arguments don't fit it\n")))

-- of a class, an object or a method that isn't there, or of arguments that don't fit
abbrev pub unknown_lesson : Bytes → ℕ → Bytes
unknown_lesson text at = missing_lesson (trimmed (take at text)) (drop at text)
