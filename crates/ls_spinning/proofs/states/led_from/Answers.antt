-- Why `led_from` in src/states.rt keeps its contract and what it calls with.
use Rattle.std.proofs.Common.{◌≡◌, ℕ, false, List, None, length, sym, ap, ◌∙◌, subst}
use Rattle.std.proofs.lemmas.List.{length-map}
use Rattle.ls_checked.specs.CheckedTree.{File}
use Rattle.ls_checked.specs.CheckedProgram.{Program}
use Rattle.ls_checked.specs.Plain.{plain_file}
use Rattle.ls_checked.specs.PlainProgram.{plain_program, plain_thread}
use Rattle.ls_meaning.specs.Runs.{source_run}
use Rattle.ls_graph.specs.Graph.{IsGraph}
use Rattle.ls_graph.proofs.Lists.{map_from}
use Rattle.ls_search_laws.specs.Configuration.{Configuration, configuration_of}
use Rattle.ls_search.specs.Runs.{progress_at}
use Rattle.ls_search.specs.Space.{GoesTo, IsEnd, Rests}
use Rattle.ls_search.specs.declared.space.Kept.{Kept}
use Rattle.ls_search.specs.declared.space.Wanted.TheVariants.{Nothing}
use Rattle.ls_source.specs.Progress.{Progress}
use Rattle.ls_transitions.specs.Tables.{Table}
use Rattle.ls_transitions.specs.Seen.{table_of}
use Rattle.ls_spinning.specs.Mute.{no_note, nothing_noted}
use Rattle.ls_spinning.specs.States.{Place, place_of, places_of}
use Rattle.ls_spinning.proofs.states.led_from.Goals as goal

pub begin-requires-clause-there : goal.begin-requires-clause-there
begin-requires-clause-there c = c.in_ok-numbered.ensures.there

pub begin-requires-clause-file : goal.begin-requires-clause-file
begin-requires-clause-file c =
    c.in_ok-numbered.ensures.file ∙ ap (λ (q : Progress). q.file) c.in_ok-playing.ensures.shows

pub begin-requires-clause-width : goal.begin-requires-clause-width
begin-requires-clause-width c =
    c.in_ok-numbered.ensures.width
    ∙ c.in_ok-playing.playing.works
    ∙ sym (length-map c.in_ok-playing.playing.program.now.threads.items plain_thread)
    ∙ ap (λ (q : Progress). length q.program.threads) c.in_ok-playing.ensures.shows
    ∙ length-map c.args.scope.program.now.threads.items plain_thread
    ∙ sym c.plan_of-plan.ensures

pub returns : goal.returns
returns c =
    let file : File = plain_file c.args.scope.file.now in
    let program : Program = plain_program c.args.scope.program.now in
    let p : Progress = progress_at file program c.args.steps.now in
    let t : Table = table_of c.close.new.tables.transitions in
    let closing = c.in_ok-closing.closing in
    let nodes : List Kept = closing.graph.found.nodes.items in
    let first : Place = record {
      configuration = configuration_of file program (source_run file program c.args.steps.now);
      noted = tt;
    } in
    let Is : ℕ → Place → Type 0 = λ n r.
    IsGraph (Rests tt nothing_noted file program no_note None) (GoesTo tt nothing_noted file program)
    (IsEnd no_note (λ m. false) Nothing file) n r (places_of t nodes) closing.graph.edges.items
    closing.looked.items in
    let start : Table = table_of c.in_ok-beginning.beginning.tables.transitions in
    let root : place_of start c.in_ok-beginning.beginning.root ≡ first =
    c.in_ok-beginning.ensures.stands
    ∙ ap (λ (k : Configuration). record { configuration = k; noted = tt })
    (c.in_ok-numbered.ensures.same p c.in_ok-playing.ensures) in
    let actors : c.plan_of-plan.result.actors ≡ length program.threads =
    c.plan_of-plan.ensures ∙ sym (length-map c.args.scope.program.now.threads.items plain_thread) in
    let graph : Is (length program.threads) first =
    subst (λ n. Is n first) actors (subst (Is c.plan_of-plan.result.actors) root c.in_ok-closing.ensures.graph) in
    let one = map_from (place_of t) nodes 0 first graph.begins in
    record {
      file_is = (c.in_ok-closing.ensures.known 0 one.0 one.1).file_is;
      there = λ at n here. (c.in_ok-closing.ensures.known at n here).node.numbers;
      grown = c.in_ok-closing.ensures.found;
      graph = graph;
    }
