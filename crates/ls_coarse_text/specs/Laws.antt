-- The class text of the list with one lock is a set: each history of each of its programs has a legal order.
use Rattle.std.specs.Prelude.{◌≡◌, ◌∷◌, ℕ, pos, int_lt, true, List, [], Some, Ok, slice_get}
use Rattle.ls_lexer.specs.Tokens.{tokens_of}
use Rattle.ls_events.specs.declared.value.Value.{Value}
use Rattle.ls_events.specs.declared.value.Value.TheVariants as values
use Rattle.ls_checked.specs.CheckedProgram.{Program, ThreadProgram, ProgramCall, Making, Calling}
use Rattle.ls_meaning.specs.Runs.{source_history}
use Rattle.ls_tree.specs.Trees as bare
use Rattle.ls_parser_spelling.specs.Spells.{TextSpells}
use Rattle.ls_parser_spelling.specs.Files.{IsFileOf}
use Rattle.ls_types_elaboration.specs.Trees.{Text, File}
use Rattle.ls_types_elaboration.specs.Elaboration.{ElaboratedFile, elaborated}
use Rattle.ls_types_programs.specs.Programs.{IsTextOf}
use Rattle.ls_explore_reports.specs.Verdicts.{HasLegalOrder}
use Rattle.ls_one_at_a_time.specs.CoarseList.{file}
use Rattle.ls_coarse_text.specs.ClassText.{class_text}

-- ---- the class

-- the class text of the list with one lock, or one that differs from it in gaps and comments alone
abbrev pub IsListText : Text → Type 0
IsListText classes = tokens_of classes ≡ tokens_of class_text

-- some tree is spelled by the text
abbrev pub TextIsSpelled : Type 0
TextIsSpelled = (tree : bare.File) × TextSpells tree class_text

-- each file that such a text spells is elaborated to the checked list
abbrev pub TextIsTheList : Type 0
TextIsTheList =
    (classes : Text) (f : File) →
    IsListText classes →
    IsFileOf classes f →
    (o : ElaboratedFile) × (elaborated f ≡ Ok o) × (o.file ≡ file)

-- ---- its programs

-- the setup makes one object, which is a list: class 1 of the text
abbrev pub MakesOneList : Program → Type 0
MakesOneList p = (name : Text) × (p.names ≡ record { name = name; class = 1 } ∷ [])

-- an int below 2147483647, the key of the last node
abbrev pub IsSmall : Value → Type 0
IsSmall (values.Int z) = int_lt z (pos 2147483647) ≡ true
IsSmall _ = Unit {0}

abbrev pub values_of : ProgramCall → List Value
values_of (Making n class text vs) = vs
values_of (Calling n method text result vs) = vs

-- so is each int that a call passes
abbrev pub HasSmallItems : Program → Type 0
HasSmallItems p =
    (t k i : ℕ) (thread : ThreadProgram) (call : ProgramCall) (v : Value) →
    slice_get p.threads t ≡ Some thread →
    slice_get thread.calls k ≡ Some call →
    slice_get (values_of call) i ≡ Some v →
    IsSmall v

-- the history of each schedule of source steps, of any length, has a legal order
abbrev pub ListTextIsASet : Type 0
ListTextIsASet =
    (classes program : Text) (f : File) (o : ElaboratedFile) (p : Program) →
    IsListText classes →
    IsFileOf classes f →
    elaborated f ≡ Ok o →
    IsTextOf o p program →
    MakesOneList p →
    HasSmallItems p →
    (schedule : List ℕ) → HasLegalOrder p (source_history o.file p schedule)
