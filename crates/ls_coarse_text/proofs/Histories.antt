-- Histories of the programs of the class text.
use Rattle.std.proofs.Common.{◌≡◌, Ok, codes, refl, sym, subst}
use Rattle.ls_checked.specs.CheckedProgram.{Program}
use Rattle.ls_meaning.specs.Runs.{source_history}
use Rattle.ls_parser.specs.Laws.{OneFile}
use Rattle.ls_types_elaboration.specs.Trees.{Text}
use Rattle.ls_types_elaboration.specs.Elaborated.{Elaborated}
use Rattle.ls_types_elaboration.specs.Elaboration.{ElaboratedFile}
use Rattle.ls_types_places.specs.Laws.{NoPlaces}
use Rattle.ls_types_programs.specs.Programs.{IsTextOf}
use Rattle.ls_text_laws.proofs.Names.{program_names}
use Rattle.ls_explore_reports.specs.Verdicts.{HasLegalOrder}
use Rattle.ls_one_at_a_time.specs.CoarseList.{file}
use Rattle.ls_legal_laws.specs.Laws.{HasOwnNames}
use Rattle.ls_coarse_set.specs.Laws.{CheckedListIsASet}
use Rattle.ls_coarse_text.specs.Laws.{ListTextIsASet}
use Rattle.ls_coarse_text.proofs.Elaborated.{outcome}
use Rattle.ls_coarse_text.proofs.Programs.{counted, of_one_list}
use Rattle.ls_coarse_text.proofs.Text.{is_the_list}

-- threads of a program text have names of their own
own_names : (program : Text) (p : Program) → IsTextOf outcome p program → HasOwnNames p
own_names program p of = record {
  apart = (program_names outcome program p of).once;
  counted = counted p of.program;
}

-- an answer is one outcome
pub same_ok : (a : Elaborated ElaboratedFile) (x y : ElaboratedFile) → a ≡ Ok x → a ≡ Ok y → x ≡ y
same_ok a x y e f = cc

-- the law, if the checked list is a set
pub list_text_is_a_set : OneFile → NoPlaces → CheckedListIsASet → ListTextIsASet
list_text_is_a_set one places list classes program f o p same of is reads one_list small schedule =
    let o_is : o ≡ outcome = same_ok _ o outcome is (is_the_list one places classes f same of) in
    subst (λ (x : ElaboratedFile). HasLegalOrder p (source_history x.file p schedule)) (sym o_is)
    (legal (subst (λ x. IsTextOf x p program) o_is reads))
  where
    legal : IsTextOf outcome p program → HasLegalOrder p (source_history file p schedule)
    legal reads =
        let r = of_one_list p _ reads.program refl one_list.1 small in
        subst (λ q. HasLegalOrder q (source_history file q schedule)) (sym r.is)
        (list _ r.text (codes "setup") r.more r.threads r.small_more r.small_threads
        (subst HasOwnNames r.is (own_names program p reads)) schedule)
