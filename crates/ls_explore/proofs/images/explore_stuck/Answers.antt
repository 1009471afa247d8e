-- Why `explore_stuck` in src/images.rt keeps its contract.

use Rattle.std.proofs.Common.{◌≡◌, ◌∙◌, replicate, sym, ap, subst}
use Rattle.ls_checked.specs.CheckedTree.{File}
use Rattle.ls_checked.specs.CheckedProgram.{Program}
use Rattle.ls_meaning.specs.Runs.{source_history}
use Rattle.ls_translation.specs.Texts.{file_of, program_of}
use Rattle.ls_explore.specs.declared.rows.Ending.TheVariants.{NotSeen}
use Rattle.ls_explore.specs.Rows.{NoneEnds, StandAlone, TellStates, Told}
use Rattle.ls_explore.specs.Tellings.{AllFit, AreFull, TellTruth, TellWhole}
use Rattle.ls_explore.proofs.Tellings.{one_apart, one_in_order, stuck_alone, stuck_fits, stuck_full, stuck_seen}
use Rattle.ls_explore.proofs.Tellings.{stuck_states, stuck_truth, stuck_whole}
use Rattle.ls_explore.proofs.images.explore_stuck.Goals as goal

pub returns-clause-whole : goal.returns-clause-whole
returns-clause-whole c =
    let file : File = file_of c.args.image.now in
    let program : Program = program_of c.args.image.now in
    let row : Told = c.in_ok-row.row in
    let has : row.history ≡ source_history file program (replicate c.args.count 0) =
    ap (λ (r : Told). r.history) c.in_ok-row.ensures ∙ c.as_slice.ensures.value ∙ c.in_ok-history.ensures ∙
    ap (source_history file program) c.in_ok-steps.ensures in
    subst (TellWhole file program) (sym c.in_ok-rows.ensures)
    (stuck_whole file program c.args.count (c.stuck_covers.ensures file program c.args.count c.requires.stuck.stuck) row
    (ap (λ (r : Told). r.path) c.in_ok-row.ensures) has (ap (λ (r : Told). r.ending) c.in_ok-row.ensures))

pub returns-clause-apart : goal.returns-clause-apart
returns-clause-apart c = one_apart _ c.in_ok-row.row c.in_ok-rows.ensures

pub returns-clause-order : goal.returns-clause-order
returns-clause-order c = one_in_order _ c.in_ok-row.row c.in_ok-rows.ensures

pub returns-clause-told : goal.returns-clause-told
returns-clause-told c =
    let file : File = file_of c.args.image.now in
    let program : Program = program_of c.args.image.now in
    let row : Told = c.in_ok-row.row in
    let has : row.history ≡ source_history file program (replicate c.args.count 0) =
    ap (λ (r : Told). r.history) c.in_ok-row.ensures ∙ c.as_slice.ensures.value ∙ c.in_ok-history.ensures ∙
    ap (source_history file program) c.in_ok-steps.ensures in
    subst (TellTruth file program c.args.count) (sym c.in_ok-rows.ensures)
    (stuck_truth file program c.args.count (c.stuck_covers.ensures file program c.args.count c.requires.stuck.stuck) row
    (ap (λ (r : Told). r.path) c.in_ok-row.ensures) has (ap (λ (r : Told). r.ending) c.in_ok-row.ensures)
    c.requires.stuck.acts)

pub returns-clause-found : goal.returns-clause-found
returns-clause-found c =
    let file : File = file_of c.args.image.now in
    let program : Program = program_of c.args.image.now in
    let row : Told = c.in_ok-row.row in
    let has : row.history ≡ source_history file program (replicate c.args.count 0) =
    ap (λ (r : Told). r.history) c.in_ok-row.ensures ∙ c.as_slice.ensures.value ∙ c.in_ok-history.ensures ∙
    ap (source_history file program) c.in_ok-steps.ensures in
    subst (λ rows. TellStates file program c.args.count rows 1) (sym c.in_ok-rows.ensures)
    (stuck_states file program c.args.count (c.stuck_covers.ensures file program c.args.count c.requires.stuck.stuck)
    row (ap (λ (r : Told). r.path) c.in_ok-row.ensures) has (ap (λ (r : Told). r.ending) c.in_ok-row.ensures)
    c.requires.stuck.acts)

pub returns-clause-fits : goal.returns-clause-fits
returns-clause-fits c =
    let file : File = file_of c.args.image.now in
    let program : Program = program_of c.args.image.now in
    let row : Told = c.in_ok-row.row in
    let has : row.history ≡ source_history file program (replicate c.args.count 0) =
    ap (λ (r : Told). r.history) c.in_ok-row.ensures ∙ c.as_slice.ensures.value ∙ c.in_ok-history.ensures ∙
    ap (source_history file program) c.in_ok-steps.ensures in
    subst (AllFit file program c.args.cells c.args.count) (sym c.in_ok-rows.ensures)
    (stuck_fits file program c.args.count (c.stuck_covers.ensures file program c.args.count c.requires.stuck.stuck) row
    (ap (λ (r : Told). r.path) c.in_ok-row.ensures) has (ap (λ (r : Told). r.ending) c.in_ok-row.ensures) c.args.cells
    c.in_ok-fitting.ensures.fits)

pub returns-clause-full : goal.returns-clause-full
returns-clause-full c =
    let file : File = file_of c.args.image.now in
    let program : Program = program_of c.args.image.now in
    let row : Told = c.in_ok-row.row in
    let has : row.history ≡ source_history file program (replicate c.args.count 0) =
    ap (λ (r : Told). r.history) c.in_ok-row.ensures ∙ c.as_slice.ensures.value ∙ c.in_ok-history.ensures ∙
    ap (source_history file program) c.in_ok-steps.ensures in
    subst (AreFull file program c.args.cells c.args.count) (sym c.in_ok-rows.ensures)
    (stuck_full file program c.args.count (c.stuck_covers.ensures file program c.args.count c.requires.stuck.stuck) row
    (ap (λ (r : Told). r.path) c.in_ok-row.ensures) has (ap (λ (r : Told). r.ending) c.in_ok-row.ensures) c.args.cells)

pub returns-clause-seen : goal.returns-clause-seen
returns-clause-seen c =
    let file : File = file_of c.args.image.now in
    let program : Program = program_of c.args.image.now in
    let row : Told = c.in_ok-row.row in
    let has : row.history ≡ source_history file program (replicate c.args.count 0) =
    ap (λ (r : Told). r.history) c.in_ok-row.ensures ∙ c.as_slice.ensures.value ∙ c.in_ok-history.ensures ∙
    ap (source_history file program) c.in_ok-steps.ensures in
    subst (NoneEnds NotSeen) (sym c.in_ok-rows.ensures)
    (stuck_seen file program c.args.count (c.stuck_covers.ensures file program c.args.count c.requires.stuck.stuck) row
    (ap (λ (r : Told). r.path) c.in_ok-row.ensures) has (ap (λ (r : Told). r.ending) c.in_ok-row.ensures))

pub returns-clause-alone : goal.returns-clause-alone
returns-clause-alone c =
    let file : File = file_of c.args.image.now in
    let program : Program = program_of c.args.image.now in
    let row : Told = c.in_ok-row.row in
    let has : row.history ≡ source_history file program (replicate c.args.count 0) =
    ap (λ (r : Told). r.history) c.in_ok-row.ensures ∙ c.as_slice.ensures.value ∙ c.in_ok-history.ensures ∙
    ap (source_history file program) c.in_ok-steps.ensures in
    subst (StandAlone) (sym c.in_ok-rows.ensures)
    (stuck_alone file program c.args.count (c.stuck_covers.ensures file program c.args.count c.requires.stuck.stuck) row
    (ap (λ (r : Told). r.path) c.in_ok-row.ensures) has (ap (λ (r : Told). r.ending) c.in_ok-row.ensures))
