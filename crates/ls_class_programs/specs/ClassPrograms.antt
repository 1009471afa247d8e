-- The programs of a class, and why there are none.
use Rattle.std.specs.Prelude.{◌≡◌, ◌≢◌, ◌<◌, ◌⊎◌, ℕ, List, [], Option, Some, None, slice_get}
use Rattle.ls_lexer.specs.declared.fault.TextFault.{TextFault}
use Rattle.ls_parser.specs.Comes.{Comes}
use Rattle.ls_parser_spelling.specs.Spelling.{spell}
use Rattle.ls_parser_spelling.specs.Spells.{TextSpells}
use Rattle.ls_parser_tokens.specs.Answers.{Refuses}
use Rattle.ls_tree.specs.Trees.{ClassTree, File, Text}
use Rattle.ls_families.specs.Families.{Menu, count_of, family_of, sizes_of}
use Rattle.ls_families.specs.Shapes.{AreBad}
use Rattle.ls_family_search.specs.Judged.{Programs}
use Rattle.ls_class_programs.specs.Limits.{AreTooMany, ClassHasTooMany}
use Rattle.ls_class_programs.specs.Menus.{class_calls, constructor_parameters, from_to, makings}
use Rattle.ls_class_programs.specs.Written.{or_those, own_entries, thread_entries, threads_choose}
use Rattle.ls_class_programs.specs.Chosen.{chosen}
use Rattle.ls_class_programs.specs.declared.arguments.Integers.{Integers}
use Rattle.ls_class_programs.specs.declared.choosing.Choosing.{Choosing}
use Rattle.ls_class_programs.specs.declared.fault.ClassFault.{ClassFault}
use Rattle.ls_class_programs.specs.declared.fault.ClassFault.TheVariants as faults

-- the class text spells a file, and this class of it is chosen
pub record Chooses (o : Choosing) (classes : Text) (c : ClassTree) : Type 0 where
  pub file : File
  pub spelled : TextSpells file classes
  pub at : ℕ
  pub chosen : chosen o.class (spell file) file.classes ≡ Some at
  pub is : slice_get file.classes at ≡ Some c

-- The calls of which each thread chooses: those of a menu that is written by hand, or of the class. The setup chooses
-- of the same ones, unless entries of that menu are of the setup alone.
abbrev pub thread_calls : Option Text → ℕ → ClassTree → List Text
thread_calls None values c = class_calls values c
thread_calls (Some text) values c = threads_choose (own_entries text) (thread_entries text) (class_calls values c)

abbrev pub own_calls : Option Text → List Text
own_calls None = []
own_calls (Some text) = own_entries text

-- the menu of a class: it has all makings
abbrev pub menu_of : Choosing → Option Text → ClassTree → Menu
menu_of o menu c = record {
  makings = makings o.given c;
  setup = or_those (own_calls menu) (thread_calls menu o.values c);
  threads = thread_calls menu o.values c;
}

-- The programs of a class: the family over its menu.
pub record AreOfClass (o : Choosing) (menu : Option Text) (c : ClassTree) (p : Programs) : Type 0 where
  pub menu_is : p.menu ≡ menu_of o menu c
  pub made : p.menu.makings ≢ []
  pub family : p.family ≡ family_of (sizes_of p.menu) o.bounds

-- those of the class that is chosen
abbrev pub AreProgramsOf : Choosing → Text → Option Text → Programs → Type 0
AreProgramsOf o classes menu p = (c : ClassTree) × Chooses o classes c × AreOfClass o menu c p

-- none of the nine integers, or more than these
abbrev pub AreBadValues : ℕ → Type 0
AreBadValues values = (values ≡ 0) ⊎ (9 < values)

-- integers that aren't some of the nine, from one to another that doesn't stand before it
abbrev pub AreBadIntegers : Integers → Type 0
AreBadIntegers is = (is.first ≡ 0) ⊎ (is.last < is.first) ⊎ (9 < is.last)

-- a method has too many lists of arguments; a menu that is written by hand asks for none, if an entry is one of threads
abbrev pub HasTooManyCalls : Option Text → ℕ → ClassTree → Type 0
HasTooManyCalls None values c = ClassHasTooMany values c
HasTooManyCalls (Some text) values c = (thread_entries text ≡ []) × ClassHasTooMany values c

-- why a class has no programs
abbrev pub LacksPrograms : Choosing → Option Text → ClassTree → ClassFault → Type 0
LacksPrograms o menu c faults.Memory = Unit {0}
LacksPrograms o menu c (faults.Text f) = ⊥
LacksPrograms o menu c faults.NotOneClass = ⊥
LacksPrograms o menu c faults.NoMaking = makings o.given c ≡ []
LacksPrograms o menu c faults.NoCalls = thread_calls menu o.values c ≡ []
LacksPrograms o menu c faults.BadBounds = AreBad o.bounds
LacksPrograms o menu c faults.TooManyCalls =
    HasTooManyCalls menu o.values c ⊎
    AreTooMany (from_to o.given) (from_to o.given) (constructor_parameters c.members)
LacksPrograms o menu c faults.TooManyPrograms =
    1000000 < count_of (family_of (sizes_of (menu_of o menu c)) o.bounds)

-- the programs of the class at a place of these, and why it has none
abbrev pub AreOfPlace : Choosing → Option Text → List ClassTree → ℕ → Programs → Type 0
AreOfPlace o menu cs at p = (c : ClassTree) × (slice_get cs at ≡ Some c) × AreOfClass o menu c p

abbrev pub LacksAtPlace : Choosing → Option Text → List ClassTree → ℕ → ClassFault → Type 0
LacksAtPlace o menu cs at f = (f ≡ faults.Memory) ⊎ ((c : ClassTree) × (slice_get cs at ≡ Some c) ×
    LacksPrograms o menu c f)

-- the text spells no file
pub record SpellsNone (classes : Text) (f : TextFault) : Type 0 where
  pub none : Refuses f ((file : File) → TextSpells file classes → ⊥)
  pub comes : Comes classes f

-- why a class text has none: it spells no file; or no class is chosen, or the class that is chosen has none
pub data IsClassFault (o : Choosing) (classes : Text) (menu : Option Text) : ClassFault → Type 0 where
  OutOfMemory : IsClassFault o classes menu faults.Memory
  NoFile : (f : TextFault) → SpellsNone classes f → IsClassFault o classes menu (faults.Text f)
  NoValues : AreBadValues o.values ⊎ AreBadIntegers o.given → IsClassFault o classes menu faults.BadBounds
  NotOne : (file : File) →
      TextSpells file classes →
      chosen o.class (spell file) file.classes ≡ None →
      IsClassFault o classes menu faults.NotOneClass
  NoPrograms : (c : ClassTree) (f : ClassFault) → Chooses o classes c → LacksPrograms o menu c f →
      IsClassFault o classes menu f
