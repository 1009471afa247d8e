-- Why `judged` in src/explorer.rt keeps its contract.

use Rattle.std.proofs.Common.{map, subst}
use Rattle.ls_race_reports.specs.Verdicts.{IsRaceVerdict}
use Rattle.ls_translation.specs.Texts.{file_of, program_of}
use Rattle.ls_find.proofs.ReadBack.{read_back}
use Rattle.ls_find_races.proofs.explorer.judged.Goals as goal

pub returns-in-Free : goal.returns-in-Free
returns-in-Free c = λ classes program declared compiles.
    let i = c.args.image.now in
    let flags = map (λ v. v.items) c.args.flags.now in record {
      image = i;
      compiles = compiles;
      flags = flags;
      declared = declared;
      never = subst (IsRaceVerdict c.args.states flags (file_of i) (program_of i)) c.in-Free.is
          c.in_ok-race_verdict.ensures;
    }

pub returns-in-Unknown : goal.returns-in-Unknown
returns-in-Unknown c = λ classes program declared compiles.
    let i = c.args.image.now in
    let flags = map (λ v. v.items) c.args.flags.now in record {
      image = i;
      compiles = compiles;
      flags = flags;
      declared = declared;
      unknown = subst (IsRaceVerdict c.args.states flags (file_of i) (program_of i)) c.in-Unknown.is
          c.in_ok-race_verdict.ensures;
    }

pub returns-in_ok-found-in-Raced : goal.returns-in_ok-found-in-Raced
returns-in_ok-found-in-Raced c = λ classes program declared compiles.
    let i = c.args.image.now in
    let flags = map (λ v. v.items) c.args.flags.now in
    let r = c.in-Raced.race in
    let sure = subst (IsRaceVerdict c.args.states flags (file_of i) (program_of i)) c.in-Raced.is
    c.in_ok-race_verdict.ensures in record {
      image = i;
      compiles = compiles;
      flags = flags;
      declared = declared;
      race = r;
      is_race = sure;
      on = c.in_ok-found-in-Raced.ensures.on;
      switches = c.in_ok-found-in-Raced.ensures.switches;
      said = c.in_ok-found-in-Raced.ensures.schedule;
      reads = read_back c.schedules_read_back.ensures.printed classes program i r.schedule _ compiles
          sure.is_race.acts sure.is_race.short c.in_ok-found-in-Raced.ensures.schedule;
    }
