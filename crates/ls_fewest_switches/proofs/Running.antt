-- The run after a schedule, step by step.
use Rattle.std.proofs.Common.{◌≡◌, ℕ, ◌+◌, ◌<◌, List, length, take, get_or, sym, ap, ◌∙◌}
use Rattle.std.proofs.lemmas.Option.{slice_get-get_or}
use Rattle.ls_checked.specs.CheckedTree.{File}
use Rattle.ls_checked.specs.CheckedProgram.{Program}
use Rattle.ls_source.specs.Progress.{Progress, gone_on}
use Rattle.ls_search.specs.Runs.{progress_at}
use Rattle.ls_search.proofs.Progressing.{gone}
use Rattle.ls_fewest_switches.proofs.Items.{one_more, take_next}

-- after one step more
pub stepped : (file : File) (program : Program) (steps : List ℕ) (i d : ℕ) (before after : Progress) →
    i < length steps →
    before ≡ progress_at file program (take i steps) →
    after ≡ gone_on before (get_or steps i d) →
    after ≡ progress_at file program (take (i + 1) steps)
stepped file program steps i d before after within was is =
    is
    ∙ ap (λ (q : Progress). gone_on q (get_or steps i d)) was
    ∙ gone file program (take i steps) (get_or steps i d)
    ∙ ap (progress_at file program) (sym (take_next steps i (get_or steps i d) (slice_get-get_or steps i d within)))
    ∙ ap (λ n. progress_at file program (take n steps)) (sym (one_more i))
