-- What is said of an expression of another type than is wanted, and of another number of arguments.
use Rattle.std.specs.Prelude.{ℕ, ◌==◌, Bool, true, false, List, [], ◌∷◌, ◌++◌}
use Rattle.std.specs.Prelude.{slice_get, codes, if◌then◌else◌}
use Rattle.std.specs.Fmt.{decimal}
use Rattle.std.specs.Option.{option_map_or}
use Rattle.ls_events.specs.declared.value.ValueType.{ValueType}
use Rattle.ls_events.specs.declared.value.ValueType.TheVariants as types
use Rattle.ls_lexer.specs.declared.word.Word.{Word}
use Rattle.ls_lexer.specs.declared.word.Word.TheVariants as words
use Rattle.ls_lexer.specs.Lexemes.{Lexeme, Named, Numeral, Reserved, Marked}
use Rattle.ls_types_checked.specs.declared.fault.ProgramFault.TheVariants as program_faults
use Rattle.ls_types_elaboration.specs.declared.mismatch.Counts.{Counts}
use Rattle.ls_types_elaboration.specs.declared.mismatch.Mismatch.{Mismatch}
use Rattle.ls_types_elaboration.specs.declared.mismatch.Mismatch.TheVariants as mismatches
use Rattle.ls_types_elaboration.specs.declared.rule.CheckFault.TheVariants as check
use Rattle.ls_types_elaboration.specs.declared.rule.Rule.{Rule}
use Rattle.ls_types_elaboration.specs.declared.rule.Rule.TheVariants as rules
use Rattle.ls_types_elaboration.specs.declared.static_types.Static.{Static}
use Rattle.ls_types_elaboration.specs.declared.static_types.Static.TheVariants.{Of, NullType, Void}
use Rattle.ls_faults.specs.declared.fault.ToolFault.{ToolFault}
use Rattle.ls_faults.specs.declared.fault.ToolFault.TheVariants as faults
use Rattle.ls_explanations.specs.Lessons.{call_lesson}
use Rattle.ls_explanations.specs.ProgramForms.{form_lesson}
use Rattle.ls_explanations.specs.Programs.{unknown_lesson}
use Rattle.ls_explanations.specs.Tokens.{Bytes, lexemes_in}

-- ---- classes by their numbers

abbrev pub is_class_word : Word → Bool
is_class_word words.Class = true
is_class_word _ = false

-- the names that come right after the word `class`; is_class says whether that word comes before these tokens
abbrev pub class_names : (is_class : Bool) → List Lexeme → List Bytes
class_names is_class [] = []
class_names is_class (Named name ∷ ks) = if is_class then name ∷ class_names false ks else class_names false ks
class_names is_class (Reserved word ∷ ks) = class_names (is_class_word word) ks
class_names is_class (Numeral text ∷ ks) = class_names false ks
class_names is_class (Marked sign ∷ ks) = class_names false ks

-- the name of a number among them, from 0
abbrev pub name_from : (is_class : Bool) → List Lexeme → ℕ → Bytes
name_from is_class ks n = option_map_or (λ name. name) (slice_get (class_names is_class ks) n) (codes "?")

-- the name of a class in the class text
abbrev pub class_name : List Lexeme → ℕ → Bytes
class_name ks n = name_from false ks n

-- ---- types, as they are written

abbrev pub type_text : List Lexeme → ValueType → Bytes
type_text ks types.Int = codes "`int`"
type_text ks types.Boolean = codes "`boolean`"
type_text ks types.BooleanArray = codes "`boolean[]`"
type_text ks (types.Class n) = codes "`" ++ (class_name ks n ++ codes "`")
type_text ks types.Lock = codes "`Lock`"
type_text ks (types.Markable n) = codes "`AtomicMarkableReference<" ++ (class_name ks n ++ codes ">`")

abbrev pub static_text : List Lexeme → Static → Bytes
static_text ks (Of t) = type_text ks t
static_text ks NullType = codes "`null`"
static_text ks Void = codes "a call of a `void` method"

-- ---- sentences

abbrev pub mismatch_line : List Lexeme → Mismatch → Bytes
mismatch_line ks (mismatches.Type wanted found) =
    codes "expected " ++ (type_text ks wanted ++ (codes ", found " ++ static_text ks found))
mismatch_line ks mismatches.NoValue = codes "expected a value, found a call of a `void` method"
mismatch_line ks (mismatches.Operands left right) =
    static_text ks left ++ (codes " can't be compared with " ++ static_text ks right)
mismatch_line ks (mismatches.NoObject found) =
    codes "expected an object of a class of this text, found " ++ static_text ks found
mismatch_line ks (mismatches.NotReturned t) = codes "expected `return` with a value of type " ++ type_text ks t
mismatch_line ks mismatches.Returned = codes "expected `return` without a value, since the method is `void`"

abbrev pub mismatch_text : List Lexeme → Mismatch → Bytes
mismatch_text ks m = mismatch_line ks m ++ codes "\n"

abbrev pub plural : ℕ → Bytes
plural n = if n == 1 then [] else codes "s"

-- `expected 1 argument, found 2`
abbrev pub counts_text : Counts → Bytes
counts_text c =
    codes "expected " ++ (decimal c.wanted ++ (codes " argument" ++ (plural c.wanted ++ (codes ", found "
    ++ (decimal c.found ++ codes "\n")))))

abbrev pub unless_said : Bytes → Bytes → Bytes
unless_said [] text = text
unless_said (b ∷ bs) text = []

-- what is said of a broken rule beyond the sentence of its name
abbrev pub rule_details : Rule → Bytes → ℕ → Bytes
rule_details (rules.WrongType m) classes at = mismatch_text (lexemes_in classes) m
rule_details (rules.WrongArguments c) classes at = unless_said (call_lesson classes at) (counts_text c)
rule_details r classes at = []

-- the class text and the program are the first two parts
abbrev pub details : ToolFault → Bytes → Bytes → Bytes
details (faults.Check (check.Broken b)) classes program = rule_details b.rule classes b.span.start
details (faults.Program (program_faults.UnknownThing at)) classes program = unknown_lesson program at
details (faults.Program (program_faults.BadProgram at)) classes program = form_lesson program at
details f classes program = []
