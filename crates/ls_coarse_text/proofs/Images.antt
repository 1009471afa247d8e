-- Histories of an image of the class text.
use Rattle.std.proofs.Common.{ℕ, List, sym, subst}
use Rattle.ls_meaning.specs.Runs.{source_history}
use Rattle.ls_preservation.specs.Translations.{to_source}
use Rattle.ls_types_checked.specs.CheckedFile.{elaborated_file}
use Rattle.ls_image.specs.Images.{checked_of, code_of_image}
use Rattle.ls_explore_reports.specs.Verdicts.{HasLegalOrder}
use Rattle.ls_coarse_text.specs.Laws.{ListTextIsASet}
use Rattle.ls_coarse_text.specs.Images.{CoarseListIsASet, program_in}

-- the law, if the text is a set by source steps: each machine history is a source history
pub coarse_list_is_a_set : ListTextIsASet → CoarseListIsASet
coarse_list_is_a_set list classes program image same compiled one_list small = record {
  source = legal;
  machine = λ cells ok schedule.
      subst (HasLegalOrder (program_in image)) (sym (compiled.runs.same.back cells ok schedule).histories)
      (legal (to_source (code_of_image image) cells schedule));
}
  where
    legal : (schedule : List ℕ) → HasLegalOrder (program_in image)
        (source_history (elaborated_file (checked_of image)).file (program_in image) schedule)
    legal = list classes program compiled.file (elaborated_file (checked_of image)) (program_in image) same
        compiled.spelled compiled.elaborates compiled.reads one_list small
