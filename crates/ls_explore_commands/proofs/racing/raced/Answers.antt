-- Why `raced` in src/racing.rt keeps its contract.

use Rattle.std.proofs.Common.{[], map, subst, sym}
use Rattle.ls_explore.specs.Faults.{AreBadStates}
use Rattle.ls_race_places.specs.Places.{AreTokens}
use Rattle.ls_races.specs.Volatile.{volatile_by}
use Rattle.ls_explore_commands.specs.Races.{NoStates, Tells}
use Rattle.ls_explore_commands.proofs.Decisions.{not_both}
use Rattle.ls_explore_commands.proofs.RacesLemmas.{all_read, same_flags, same_races, some_kept, tells}
use Rattle.ls_explore_commands.proofs.racing.raced.Goals as goal

pub returns-then-are_bad_states : goal.returns-then-are_bad_states
returns-then-are_bad_states c = NoStates (c.are_bad_states.ensures.0 c.if-are_bad_states.true)

pub returns : goal.returns
returns c =
    let i = c.args.image.now in
    let good : ¬ AreBadStates c.args.states =
    λ bad. not_both (c.are_bad_states.ensures.1 bad) c.if-are_bad_states.false in
    let flags = map (λ v. v.items) c.as_slice-flags.result.now in
    let found = c.in_ok-found.found in
    let tokens = c.as_slice.result.now in
    let text = same_races _ _ _ _ _ c.args.classes.now tokens flags found.races.items found.states found.complete
    c.has_try_lock.result c.names_in.ensures.names c.names_in.ensures.program c.in_ok-text.ensures in
    tells c.args.classes.now i c.args.states _ _ text
    (Tells tokens flags found.races.items found.states found.complete c.has_try_lock.result good
    (subst (AreTokens c.args.classes.now) (sym c.as_slice.ensures.value) c.in_ok-tokens.ensures)
    (same_flags c.args.classes.now _ _ c.as_slice-flags.ensures.value c.in_ok-declared.ensures)
    c.has_try_lock.ensures
    c.in_ok-found.ensures.races c.in_ok-found.ensures.none c.in_ok-found.ensures.extent
    (all_read (volatile_by flags) [] i found.races.items c.requires c.in_ok-found.ensures.races))

pub races_of-requires : goal.races_of-requires
races_of-requires c = record {
  room = some_kept c.args.states (λ bad. not_both (c.are_bad_states.ensures.1 bad) c.if-are_bad_states.false);
}
