-- Why `judged` in src/explorer.rt keeps its contract.

use Rattle.std.proofs.Common.{◌∙◌, ap, subst}
use Rattle.ls_schedule.specs.Printing.{schedule_text}
use Rattle.ls_schedule.specs.Reading.{thread_names}
use Rattle.ls_specification.specs.Specification.{given_of}
use Rattle.ls_translation.specs.Texts.{file_of, program_of}
use Rattle.ls_find.specs.Found.{why_text}
use Rattle.ls_find.specs.Sought.{IsVerdictFor}
use Rattle.ls_find.proofs.ReadBack.{read_back}
use Rattle.ls_find.proofs.explorer.judged.Goals as goal

pub returns-in-Good : goal.returns-in-Good
returns-in-Good c = λ specification classes program is compiles. record {
  image = c.args.image.now;
  compiles = compiles;
  given = given_of c.args.given;
  is_given = is;
  good = subst (IsVerdictFor c.args.sought c.args.states (given_of c.args.given) (file_of c.args.image.now)
      (program_of c.args.image.now)) c.in-Good.is c.in_ok-sought_verdict.ensures;
}

pub returns-in-Unknown : goal.returns-in-Unknown
returns-in-Unknown c = λ specification classes program is compiles. record {
  image = c.args.image.now;
  compiles = compiles;
  given = given_of c.args.given;
  is_given = is;
  unknown = subst (IsVerdictFor c.args.sought c.args.states (given_of c.args.given) (file_of c.args.image.now)
      (program_of c.args.image.now)) c.in-Unknown.is c.in_ok-sought_verdict.ensures;
}

pub returns-in_ok-schedule-in-Bad : goal.returns-in_ok-schedule-in-Bad
returns-in_ok-schedule-in-Bad c = λ specification classes program is compiles.
    let i = c.args.image.now in
    let shown = subst (IsVerdictFor c.args.sought c.args.states (given_of c.args.given) (file_of i) (program_of i))
    c.in-Bad.is
    c.in_ok-sought_verdict.ensures in
    let acts = c.in_ok-run-in-Bad.ensures.acts shown.schedule_is.acts in
    let bad = c.in_ok-run-in-Bad.ensures.bad shown.schedule_is.bad in
    let said = c.in_ok-schedule-in-Bad.ensures ∙
    ap (λ p. schedule_text (thread_names p) c.in_ok-run-in-Bad.run'.schedule) c.program.ensures in record {
      image = i;
      compiles = compiles;
      given = given_of c.args.given;
      is_given = is;
      reason = c.in-Bad.reason;
      schedule = c.in_ok-run-in-Bad.run'.schedule;
      asked = shown.asked;
      bad = bad;
      acts = acts;
      is_fewest = c.in_ok-run-in-Bad.run'.fewest;
      fewest = c.in_ok-run-in-Bad.ensures.fewest;
      why = c.in_ok-why-in-Bad.ensures ∙
          (λ i. why_text c.in-Bad.reason c.in_ok-run-in-Bad.run'.fewest (c.names_in.ensures.names i)
          (thread_names (c.names_in.ensures.program i)) c.in_ok-run-in-Bad.run'.schedule);
      noted = c.in_ok-note-in-Bad.ensures bad;
      said = said;
      reads = read_back c.schedules_read_back.ensures.printed classes program i c.in_ok-run-in-Bad.run'.schedule _
          compiles acts c.fits.ensures said;
    }
