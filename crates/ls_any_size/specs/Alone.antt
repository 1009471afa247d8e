-- Classes whose calls run alone, under one lock.
use Rattle.std.specs.Prelude.{◌≡◌, ◌++◌, ℕ, true, false, List, [], ◌∷◌, None, codes}
use Rattle.ls_checked.specs.CheckedTree.{File}
use Rattle.ls_checked.specs.CheckedProgram.{Program}
use Rattle.ls_explore_reports.specs.ImageNames.{names_in}
use Rattle.ls_families.specs.Texts.{alone_text}
use Rattle.ls_find.specs.Sought.{IsGoodFor}
use Rattle.ls_find.specs.declared.sought.Sought.{Sought}
use Rattle.ls_guarded.specs.Guards.{Guards, IsCalm, IsKeptBy, IsOnOne, IsSome}
use Rattle.ls_guarded.specs.declared.guard.Guard.{Guard}
use Rattle.ls_guarded.specs.declared.guard.Guard.TheVariants as guards
use Rattle.ls_image.specs.Images.{Compiles}
use Rattle.ls_image.specs.declared.image.Image.{Image}
use Rattle.ls_labels.specs.Names.{Names, class_name, field_name}
use Rattle.ls_loopless.specs.Loops.{HasNoLoops}
use Rattle.ls_report.specs.Events.{Text}
use Rattle.ls_translation.specs.Texts.{file_of, program_of}

-- A program that makes an object and then makes this call of the menu compiles. The object is of the class, and the
-- call is of the methods.
pub record IsMadeOf (classes making : Text) (class : ℕ) (methods : List ℕ) (call : Text) : Type 0 where
  pub image : Image
  pub compiles : Compiles classes (alone_text making 0 call) image
  pub on_one : IsOnOne class methods (program_of image)

-- so of each call of the menu
abbrev pub AreMadeOf : Text → Text → ℕ → List ℕ → List Text → Type 0
AreMadeOf classes making class methods [] = Unit {0}
AreMadeOf classes making class methods (call ∷ calls) =
    IsMadeOf classes making class methods call × AreMadeOf classes making class methods calls

-- So it is of each thread program of the class text that makes one object of the class, and whose other calls are of
-- the methods on it, with arguments that name no object. There may be any number of threads and calls.
abbrev pub OfAnySize : (File → Program → Type 0) → Text → ℕ → List ℕ → Type 0
OfAnySize P classes class methods =
    (program : Text) (i : Image) → Compiles classes program i → IsOnOne class methods (program_of i) →
    P (file_of i) (program_of i)

-- what is said of the guard, by the names of the text
abbrev pub guard_text : Names → ℕ → Guard → Text
guard_text names class guards.Monitor = codes ", under its monitor"
guard_text names class (guards.Field f) = codes ", under the lock of its field " ++ field_name names class f
guard_text names class (guards.No reason) = []

-- as `each call of Counter runs alone, under its monitor`
abbrev pub said_text : Names → ℕ → Guard → Text
said_text names class guard =
    codes "each call of " ++ (class_name names class ++ (codes " runs alone" ++ guard_text names class guard))

-- what `find` prints where nothing is left to explore
abbrev pub whole_text : Text → Text
whole_text said = codes "// none, for programs of any size: " ++ (said ++ 10 ∷ [])

-- what a checked file says of these methods of a class
pub record IsAlone (sought : Sought) (file : File) (names : Names) (class : ℕ) (methods : List ℕ) (said : Text) :
    Type 0 where
  pub guard : Guard
  pub some : IsSome guard
  pub guards : Guards guard file class methods
  pub loops : sought.turning ≡ true → HasNoLoops file
  pub set : sought.set ≡ false
  pub is : said ≡ said_text names class guard

-- Each call of the menu is of some methods of a class. In each program of any size whose calls are of these the guard
-- that is told is held from the first to the last step of each call. So the program is good for what is looked for.
pub record RunsAlone (sought : Sought) (classes making : Text) (calls : List Text) (said : Text) : Type 0 where
  pub class : ℕ
  pub methods : List ℕ
  pub made : AreMadeOf classes making class methods calls
  pub guard : Guard
  pub some : IsSome guard
  pub kept : OfAnySize (IsKeptBy guard) classes class methods
  pub calm : OfAnySize IsCalm classes class methods
  pub good : OfAnySize (IsGoodFor sought None) classes class methods
  pub first : Text
  pub image : Image
  pub compiles : Compiles classes first image
  pub is : said ≡ said_text (names_in image) class guard
