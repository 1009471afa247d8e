-- Why `states_of` in src/states.rt keeps its contract and what it calls with.
use Rattle.std.proofs.Common.{◌≡◌, ◌≤◌, ◌<◌, ℕ, List, [], length, map, refl, sym, ap, ◌∙◌, subst}
use Rattle.std.proofs.lemmas.List.{length-map}
use Rattle.ls_checked.specs.CheckedTree.{File}
use Rattle.ls_checked.specs.CheckedProgram.{Program}
use Rattle.ls_checked.specs.Plain.{plain_file}
use Rattle.ls_checked.specs.PlainProgram.{plain_program, plain_thread}
use Rattle.ls_graph.specs.Graph.{IsGraph}
use Rattle.ls_graph.proofs.Lists.{map_from}
use Rattle.ls_search_laws.specs.Configuration.{Configuration}
use Rattle.ls_search.specs.Places.{configuration_at, configuration_of}
use Rattle.ls_search.specs.Runs.{progress_at}
use Rattle.ls_search.specs.declared.space.Kept.{Kept}
use Rattle.ls_source.specs.Progress.{Progress}
use Rattle.ls_transitions.specs.Tables.{Table}
use Rattle.ls_transitions.specs.Seen.{table_of}
use Rattle.ls_transitions.proofs.Growing.{grows_not}
use Rattle.ls_progress_laws.specs.Laws.{place_after}
use Rattle.ls_progress.specs.Judged.{file_in, program_in, threads_in}
use Rattle.ls_progress.specs.Roots.{repeats}
use Rattle.ls_progress.specs.Steps.{IsPlaced, IsRoot, NoEnd, Rests, StepsTo}
use Rattle.ls_progress.proofs.Leading.{stayed_placed}
use Rattle.ls_progress.proofs.Repeating.{others_rest_so}
use Rattle.ls_progress.proofs.states.states_of.Goals as goal

pub close-requires : goal.close-requires
close-requires c =
    let t : Table = table_of c.in_ok-numbered.numbered.transitions in
    let program : Program = plain_program c.args.scope.program.now in
    let width : length c.in_ok-numbered.numbered.works.items ≡ c.plan_of-plan.result.actors =
    c.in_ok-numbered.ensures.width
    ∙ c.in_ok-playing.playing.works
    ∙ sym (length-map c.in_ok-playing.playing.program.now.threads.items plain_thread)
    ∙ ap (λ (q : Progress). length q.program.threads) c.in_ok-playing.ensures.shows
    ∙ length-map c.args.scope.program.now.threads.items plain_thread
    ∙ sym c.plan_of-plan.ensures in
    let placed : IsPlaced (plain_file c.args.scope.file.now) c.plan_of-plan.result.actors t _ = record {
      file_is = c.in_ok-numbered.ensures.file ∙ ap (λ (q : Progress). q.file) c.in_ok-playing.ensures.shows;
      constants = c.if-not-file_has_constants.ensures refl;
      numbers = c.in_ok-numbered.ensures.there;
      width = width;
    } in
    record {
      placed = stayed_placed _ _ t t _ c.in_ok-place.place (grows_not t) placed c.in_ok-place.ensures.store
          c.in_ok-place.ensures.works;
      root = record {
        placed = placed;
        constants = c.if-not-program_has_constants.ensures refl;
        same = c.in_ok-numbered.ensures.same (progress_at (plain_file c.args.scope.file.now) program [])
            c.in_ok-playing.ensures;
      };
    }

pub returns-clause-states : goal.returns-clause-states
returns-clause-states c =
    let s = c.args.scope in
    let file : File = file_in s in
    let program : Program = program_in s in
    let first : Configuration = place_after file program [] in
    let t : Table = table_of c.close.new.tables.transitions in
    let closing = c.in_ok-closing.closing in
    let nodes : List Kept = closing.graph.found.nodes.items in
    let state_of : Kept → Configuration = λ n. repeats s.again first (configuration_of t n.place) in
    let states : List Configuration = map state_of nodes in
    let Is : ℕ → Configuration → Type 0 = λ n r.
    IsGraph (Rests file) (StepsTo file) NoEnd n r states closing.graph.edges.items closing.looked.items in
    let numbered = c.in_ok-numbered.numbered in
    let place = c.in_ok-place.place in
    let root : configuration_of (table_of numbered.transitions) place ≡ first =
    (λ i. configuration_at (table_of numbered.transitions) (c.in_ok-place.ensures.store i)
    (c.in_ok-place.ensures.works i))
    ∙ c.in_ok-numbered.ensures.same (progress_at file program []) c.in_ok-playing.ensures in
    let actors : c.plan_of-plan.result.actors ≡ threads_in s =
    c.plan_of-plan.ensures ∙ sym (length-map s.program.now.threads.items plain_thread) in
    record {
      states = states;
      many = length-map nodes state_of;
      graph = subst (λ n. Is n (repeats s.again first first)) actors
          (subst (λ k. Is c.plan_of-plan.result.actors (repeats s.again first k)) root c.in_ok-closing.ensures.graph);
      others = λ at k here u past.
          let one = map_from state_of nodes at k here in
          let is = c.in_ok-closing.ensures.known at one.0 one.1 in
          subst (λ q. Rests file q u) one.2
          (others_rest_so file program s.again c.plan_of-plan.result.actors t one.0.place _ is.placed is.root u
          (subst (λ n. n ≤ u) (sym actors) past));
    }
