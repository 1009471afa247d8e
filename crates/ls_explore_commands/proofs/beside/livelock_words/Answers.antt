-- Why `livelock_words` in src/beside.rt keeps its contract.

use Rattle.std.proofs.Common.{subst, sym}
use Rattle.std.specs.Prelude.{IfSome, string_bytes}
use Rattle.std.proofs.lemmas.Result.{IfOk-weaker}
use Rattle.ls_commands.specs.Compiled.{names_of_image}
use Rattle.ls_end_reports.specs.Livelocks.{IsLivelockLine}
use Rattle.ls_progress_laws.specs.Livelocks.{IsLivelock}
use Rattle.ls_schedule.specs.Reading.{thread_names}
use Rattle.ls_translation.specs.Texts.{file_of, program_of}
use Rattle.ls_explore_commands.specs.Beside.{IsLivelockSaid, Livelock, NotSaid}
use Rattle.ls_explore_commands.proofs.beside.livelock_words.Goals as goal

pub returns-then-not-goes_round : goal.returns-then-not-goes_round
returns-then-not-goes_round c = subst (IsLivelockSaid c.args.image.now) (sym c.new.ensures.bytes) NotSaid

pub returns-in-None : goal.returns-in-None
returns-in-None c = subst (IsLivelockSaid c.args.image.now) (sym c.new-in-None.ensures.bytes) NotSaid

pub returns-in-Some : goal.returns-in-Some
returns-in-Some c =
    let i = c.args.image.now in
    let l = c.in-Some.lasso in
    let is = subst
    (λ o. IfSome o (λ l. IsLivelock (file_of i) (program_of i) l.way.items l.cycle.items)) c.in-Some.is
    c.in_ok-livelock_in.ensures in
    IfOk-weaker c.livelock_line.result
    (λ line. IsLivelockLine (thread_names c.program.result.now) l (string_bytes line))
    (λ line. IsLivelockSaid i (string_bytes line))
    (λ line reads. Livelock l (string_bytes line) is
    (subst (λ p. IsLivelockLine (thread_names p) l (string_bytes line)) c.program.ensures reads))
    c.livelock_line.ensures
