-- Why `race_after` in src/finding.rt keeps its clauses `race` and `late`.
use Rattle.std.proofs.Common.{◌≡◌, ◌≤◌, ◌+◌, ◌++◌, ◌∷◌, [], ◌∙◌, ap, arith, length, length-append, map, refl, sym}
use Rattle.std.proofs.Common.{subst}
use Rattle.std.specs.Prelude.{IfSome}
use Rattle.ls_events.specs.Limits.{most_steps}
use Rattle.ls_checked.specs.CheckedTree.{File}
use Rattle.ls_checked.specs.CheckedProgram.{Program}
use Rattle.ls_checked.specs.Plain.{plain_file}
use Rattle.ls_checked.specs.PlainProgram.{plain_program}
use Rattle.ls_graph.specs.Costs.{costs}
use Rattle.ls_graph.specs.declared.costs.Counted.TheVariants.{Changes}
use Rattle.ls_search_laws.specs.Stepping.{ActAll}
use Rattle.ls_races.specs.declared.meetings.Met.{Met}
use Rattle.ls_races.specs.declared.playing.Played.{Played}
use Rattle.ls_races.specs.Sought.{IsMetAfter, IsPlayed}
use Rattle.ls_races.specs.Volatile.{volatile_by}
use Rattle.ls_races.proofs.Replayed.{late_is, race_is}
use Rattle.ls_races.proofs.finding.race_after.Goals as goal

pub returns-else-len-gt-MOST_STEPS-clause-race : goal.returns-else-len-gt-MOST_STEPS-clause-race
returns-else-len-gt-MOST_STEPS-clause-race c = λ played.
    let file : File = plain_file c.args.scope.file.now in
    let program : Program = plain_program c.args.scope.program.now in
    let volatile = volatile_by (map (λ v. v.items) c.args.scope.classes.now) in
    let told = c.args.told.now in
    let steps = c.args.played.steps.items in
    let met = c.in-Some.met in
    let after = c.in-Some-2.after in
    let is_met = subst (λ o. IfSome o (λ (m : Met). IsPlayed file program c.args.played →
    IsMetAfter volatile told file program steps m)) c.in-Some.is c.in_ok-met.ensures played in
    let is_steps = subst (λ o. IfSome o (λ (a : Played). a.steps.items ≡ steps ++ met.one ∷ met.other ∷ []))
    c.in-Some-2.is c.in_ok-play_both.ensures.steps in
    let is_played = subst (λ o. IfSome o (λ (a : Played). (f : File) (p : Program) → IsPlayed f p c.args.played →
    IsPlayed f p a)) c.in-Some-2.is c.in_ok-play_both.ensures.played file program played in
    let short : length after.steps.items ≤ most_steps = omega (arith, c.if-len-gt-MOST_STEPS.false, c.len.ensures) in
    race_is volatile told file program steps (λ n. n ≡ costs Changes 0 steps) met _ is_met refl
    (c.of.ensures ∙ is_steps)
    (subst (ActAll file program) (sym c.of.ensures) is_played.acts)
    (subst (λ l. length l ≤ most_steps) (sym c.of.ensures) short) (λ known. refl)

pub returns-then-len-gt-MOST_STEPS-clause-late : goal.returns-then-len-gt-MOST_STEPS-clause-late
returns-then-len-gt-MOST_STEPS-clause-late c = λ played.
    let file : File = plain_file c.args.scope.file.now in
    let program : Program = plain_program c.args.scope.program.now in
    let volatile = volatile_by (map (λ v. v.items) c.args.scope.classes.now) in
    let told = c.args.told.now in
    let steps = c.args.played.steps.items in
    let met = c.in-Some.met in
    let after = c.in-Some-2.after in
    let is_met = subst (λ o. IfSome o (λ (m : Met). IsPlayed file program c.args.played →
    IsMetAfter volatile told file program steps m)) c.in-Some.is c.in_ok-met.ensures played in
    let is_steps = subst (λ o. IfSome o (λ (a : Played). a.steps.items ≡ steps ++ met.one ∷ met.other ∷ []))
    c.in-Some-2.is c.in_ok-play_both.ensures.steps in
    let many : length after.steps.items ≡ length steps + 2 =
    ap length is_steps ∙ length-append steps (met.one ∷ met.other ∷ []) in
    late_is volatile told file program steps met is_met played.acts
    (omega (arith, c.if-len-gt-MOST_STEPS.true, c.len.ensures, many))
