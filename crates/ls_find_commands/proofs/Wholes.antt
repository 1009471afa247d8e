-- What is said at once of a class.
use Rattle.std.proofs.Common.{◌≡◌, ◌∙◌, List, Option, ap, subst}
use Rattle.ls_any_size.specs.Alone.{RunsAlone, whole_text}
use Rattle.ls_class_programs.specs.ClassPrograms.{AreProgramsOf}
use Rattle.ls_class_programs.specs.declared.choosing.Choosing.{Choosing}
use Rattle.ls_family_search.specs.Judged.{Programs, calls_of, making_of}
use Rattle.ls_find.specs.declared.sought.Sought.{Sought}
use Rattle.ls_report.specs.Events.{Text}
use Rattle.ls_find_commands.specs.Found.{IsWhole, smallest}

-- it is said of the programs of the class with 1 for each int, and printed so
pub whole_is : (o small : Choosing) (sought : Sought) (classes : Text) (menu : Option Text) (p q : Programs)
    (making : Text) (calls : List Text) (said text printed : Text) → small ≡ smallest o → AreProgramsOf small classes
    menu p → q ≡ p →
    making ≡ making_of q → calls ≡ calls_of q → RunsAlone sought classes making calls said → text ≡ said →
    printed ≡ whole_text text → IsWhole o sought classes menu printed
whole_is o small sought classes menu p q making calls said text printed is_small of_class same makes are alone shows
    prints =
    record {
      programs = p;
      of_class = subst (λ s. AreProgramsOf s classes menu p) is_small of_class;
      said = said;
      alone = subst (λ m. RunsAlone sought classes m (calls_of p) said) (makes ∙ ap making_of same)
          (subst (λ cs. RunsAlone sought classes making cs said) (are ∙ ap calls_of same) alone);
      is = prints ∙ ap whole_text shows;
    }
